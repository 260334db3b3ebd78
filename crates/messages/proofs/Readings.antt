-- The text of a message is canonical JSON that reads as the message's value.
use Rattle.std.proofs.Common.{◌≡◌, ℕ, ◌^◌, ◌<◌, ◌≤◌, ◌∙◌, true, false, List, [], ◌∷◌, ◌++◌, Option, Some, None, option_map}
use Rattle.std.proofs.Common.{option_and_then, map, refl, sym, ap, ap₂, subst, arith, append_assoc, append-nil, decimal, ltb}
use Rattle.std.specs.List.{list_all}
use Rattle.std.specs.Prelude.{codes, IsUtf8, All}
use Rattle.std.proofs.lemmas.Fmt.{IsAscii-decimal}
use Rattle.std.proofs.lemmas.List.Elements.{All-head, All-tail}
use Rattle.std.proofs.lemmas.Str.{IsUtf8-append, IsUtf8-from_ascii}
use Rattle.json.specs.Json as json
use Rattle.json.specs.Print.{escape_byte}
use Rattle.json.specs.Tree as tree
use Rattle.json.specs.Token.{Token}
use Rattle.json.specs.Lex.{tokens}
use Rattle.json.proofs.Printed.Decimals.{IsNumber-decimal}
use Rattle.json.proofs.Printed.Tokens.{tokens-print}
use Rattle.json.proofs.Printed.Trees.{ArePrintable-json_tokens, value-json_tokens}
use Rattle.serde_json.specs.Data.{Data, number, unsigned, string, array, object, no_members, member}
use Rattle.serde_json.specs.Read.{of_json, of_items, max_depth}
use Rattle.serde_json.specs.Written.{outline, items_outline, compact_text, items_text, has_float, items_have_float}
use Rattle.serde_json.proofs.Numbers.{number_of-decimal}
use Rattle.serde_json.proofs.Texts.{print-outline}
use Rattle.sudo_words.specs.Command.{cmnd_text}
use Rattle.sudo_words.specs.Word.{is_name}
use Rattle.messages.specs.Canonical.{IsTextOf}
use Rattle.messages.specs.Fields.{RequestFields, VerdictFields, IsNumbered, IsRequest, IsVerdict}
use Rattle.messages.specs.private.Members.{strings, request_value, verdict_value, value_of, text_items, tree_of}
use Rattle.messages.specs.Wire.{escaped, quoted, moment_text, rest_text, list_text, kind_text, request_text, verdict_text, wire, IsMessage}
use Rattle.messages.specs.declared.message.Message.{Message}
use Rattle.messages.specs.declared.message.Message.TheVariants.{Request, Verdict}
use Rattle.messages.proofs.PlainTexts.{IsPlain, IsPrinted, printed_plain, escape_printed, ascii_escaped, ascii_literal, escaped_plain}
use Rattle.messages.proofs.PlainTexts.{name_plain, label_plain, moment_plain, request_plain, kind_plain, hosts_printed, cmnds_printed}

-- ---- a value whose text is known, and reads as the value

pub record IsSaid (levels : ℕ) (value : Data) (text : List ℕ) : Type 0 where
  pub text_is : compact_text value ≡ text
  pub reads : of_json (outline value) ≡ Some value
  pub numbers : tree.HasNumbers (outline value)
  pub shallow : tree.depth (outline value) ≤ levels
  pub whole : has_float value ≡ false
  pub utf8 : IsUtf8 text

utf8_literal : (w : List ℕ) → list_all (λ b. ltb b 128) w ≡ true → IsUtf8 w
utf8_literal w h = IsUtf8-from_ascii w (ascii_literal w h)

quote_utf8 : IsUtf8 (codes "\"")
quote_utf8 = utf8_literal (codes "\"") refl

pub said_text : (w : List ℕ) → IsPrinted w → IsSaid 1 (string w) (quoted w)
unfolding quoted
said_text w printed = record {
  text_is = rw (escape_printed w printed) refl;
  reads = refl;
  numbers = tt;
  shallow = omega arith;
  whole = refl;
  utf8 = IsUtf8-append (codes "\"" ++ escaped w) (codes "\"")
      (IsUtf8-append (codes "\"") (escaped w) quote_utf8 (IsUtf8-from_ascii (escaped w) (ascii_escaped w printed))) quote_utf8;
}

pub name_utf8 : (w : List ℕ) → is_name w ≡ true → IsUtf8 w
name_utf8 w h =
    let plain = name_plain w h in
    subst IsUtf8 (escaped_plain w plain) (IsUtf8-from_ascii (escaped w) (ascii_escaped w (printed_plain w plain)))

said_plain : (w : List ℕ) → IsPlain w → IsSaid 1 (string w) (quoted w)
said_plain w plain = said_text w (printed_plain w plain)

pub said_number : (n : ℕ) → n < 2 ^ 64 → IsSaid 1 (number (unsigned n)) (decimal n)
said_number n fits = record {
  text_is = refl;
  reads = ap (option_map number) (number_of-decimal n fits);
  numbers = IsNumber-decimal n fits;
  shallow = omega arith;
  whole = refl;
  utf8 = IsUtf8-from_ascii (decimal n) (IsAscii-decimal n fits);
}

-- what comes after the first text of a list
record AreSaid (ws : List (List ℕ)) : Type 0 where
  text_is : items_text true (strings ws) ≡ rest_text ws
  reads : of_items (items_outline (strings ws)) ≡ Some (strings ws)
  numbers : tree.ItemsHaveNumbers (items_outline (strings ws))
  shallow : tree.items_depth (items_outline (strings ws)) ≤ 0
  whole : items_have_float (strings ws) ≡ false
  utf8 : IsUtf8 (rest_text ws)

said_rest : (ws : List (List ℕ)) → All IsPrinted ws → AreSaid ws
unfolding rest_text
said_rest [] printed = record {
  text_is = refl;
  reads = refl;
  numbers = tt;
  shallow = omega arith;
  whole = refl;
  utf8 = utf8_literal (codes "]") refl;
}
said_rest (w ∷ ws) printed =
    let first = said_text w (All-head IsPrinted w ws printed) in
    let more = said_rest ws (All-tail IsPrinted w ws printed) in
    record {
      text_is = ap₂ (λ (a b : List ℕ). 44 ∷ (a ++ b)) first.text_is more.text_is;
      reads = rw more.reads refl;
      numbers = (tt, more.numbers);
      shallow = omega (arith, more.shallow);
      whole = more.whole;
      utf8 = IsUtf8-append (codes "," ++ quoted w) (rest_text ws) (IsUtf8-append (codes ",") (quoted w) (utf8_literal (codes ",") refl) first.utf8) more.utf8;
    }

pub said_list : (ws : List (List ℕ)) → All IsPrinted ws → IsSaid 1 (array (strings ws)) (list_text ws)
unfolding list_text
said_list [] printed = record {
  text_is = refl;
  reads = refl;
  numbers = tt;
  shallow = omega arith;
  whole = refl;
  utf8 = utf8_literal (codes "[]") refl;
}
said_list (w ∷ ws) printed =
    let first = said_text w (All-head IsPrinted w ws printed) in
    let more = said_rest ws (All-tail IsPrinted w ws printed) in
    record {
      text_is = ap₂ (λ (a b : List ℕ). 91 ∷ (a ++ b)) first.text_is more.text_is;
      reads = rw more.reads refl;
      numbers = (tt, more.numbers);
      shallow = omega (arith, more.shallow);
      whole = more.whole;
      utf8 = IsUtf8-append (codes "[" ++ quoted w) (rest_text ws) (IsUtf8-append (codes "[") (quoted w) (utf8_literal (codes "[") refl) first.utf8) more.utf8;
    }

-- ---- such a value's text is canonical

whole_tree : Option (json.Json × List Token) → Option json.Json
whole_tree o = option_and_then (λ p. json.if_last p.0 p.1) o

whole_value : Option (json.Json × List Token) → Option Data
whole_value o = option_and_then of_json (option_and_then (λ p. json.if_last p.0 p.1) o)

tokens_from_said : (value : Data) (text : List ℕ) → IsSaid 2 value text → tokens text ≡ tree.json_tokens (outline value) ++ []
tokens_from_said value text said =
    let spelled = tokens-print (tree.json_tokens (outline value)) (ArePrintable-json_tokens (outline value) said.numbers) in
    ap tokens (sym said.text_is ∙ sym (print-outline value)) ∙ spelled ∙ sym (append-nil (tree.json_tokens (outline value)))

pub document_from_said : (value : Data) (text : List ℕ) → IsSaid 2 value text → json.document text ≡ Some (outline value)
unfolding whole_tree
document_from_said value text said =
    let deep : tree.depth (outline value) ≤ 128 = omega (arith, said.shallow) in
    ap whole_tree (ap (json.value json.max_depth) (tokens_from_said value text said) ∙ value-json_tokens (outline value) json.max_depth [] deep)

pub canonical_from_said : (value : Data) (text : List ℕ) → IsSaid 2 value text → IsTextOf text value
unfolding whole_value
canonical_from_said value text said =
    let deep : tree.depth (outline value) ≤ 127 = omega (arith, said.shallow) in
    let parsed = ap (json.value max_depth) (tokens_from_said value text said) ∙ value-json_tokens (outline value) max_depth [] deep in
    record { utf8 = said.utf8; reads = ap whole_value parsed ∙ said.reads; whole = said.whole; written = sym said.text_is }

-- ---- the members of an object, with the text before them and after them

-- a member after others
pub utf8_member : (front head value : List ℕ) → IsUtf8 front → list_all (λ b. ltb b 128) head ≡ true → IsUtf8 value → IsUtf8 (front ++ head ++ value)
utf8_member front head value f h v = IsUtf8-append (front ++ head) value (IsUtf8-append front head f (utf8_literal head h)) v

module _ (d0 d1 d2 d3 d4 : Data) (x0 x1 x2 x3 x4 : List ℕ) (s0 : IsSaid 1 d0 x0)
    (s1 : IsSaid 1 d1 x1) (s2 : IsSaid 1 d2 x2) (s3 : IsSaid 1 d3 x3) (s4 : IsSaid 1 d4 x4) where
  verdict_layout : compact_text
      (object (member (codes "at") d0 (member (codes "by") d1 (member (codes "kind") d2 (member (codes "no") d3 (member (codes "of") d4 no_members))))))
      ≡ codes "{\"at\":" ++ x0 ++ codes ",\"by\":" ++ x1 ++ codes ",\"kind\":" ++ x2 ++ codes ",\"no\":" ++ x3 ++ codes ",\"of\":" ++ x4 ++ codes "}"
  unfolding escape_byte
  verdict_layout = rw (s0.text_is, s1.text_is, s2.text_is, s3.text_is, s4.text_is) (simp append_assoc)

  verdict_reads : of_json (outline
      (object (member (codes "at") d0 (member (codes "by") d1 (member (codes "kind") d2 (member (codes "no") d3 (member (codes "of") d4 no_members)))))))
      ≡ Some (object (member (codes "at") d0 (member (codes "by") d1 (member (codes "kind") d2 (member (codes "no") d3 (member (codes "of") d4 no_members))))))
  verdict_reads = rw s0.reads (rw s1.reads (rw s2.reads (rw s3.reads (rw s4.reads refl))))

  verdict_utf8 :
      IsUtf8 (codes "{\"at\":" ++ x0 ++ codes ",\"by\":" ++ x1 ++ codes ",\"kind\":" ++ x2 ++ codes ",\"no\":" ++ x3 ++ codes ",\"of\":" ++ x4 ++ codes "}")
  verdict_utf8 =
      let m0 = utf8_member [] (codes "{\"at\":") x0 (utf8_literal [] refl) refl s0.utf8 in
      let m1 = utf8_member _ (codes ",\"by\":") x1 m0 refl s1.utf8 in
      let m2 = utf8_member _ (codes ",\"kind\":") x2 m1 refl s2.utf8 in
      let m3 = utf8_member _ (codes ",\"no\":") x3 m2 refl s3.utf8 in
      let m4 = utf8_member _ (codes ",\"of\":") x4 m3 refl s4.utf8 in
      IsUtf8-append _ (codes "}") m4 (utf8_literal (codes "}") refl)

  pub said_verdict : IsSaid 2
      (object (member (codes "at") d0 (member (codes "by") d1 (member (codes "kind") d2 (member (codes "no") d3 (member (codes "of") d4 no_members))))))
      (codes "{\"at\":" ++ x0 ++ codes ",\"by\":" ++ x1 ++ codes ",\"kind\":" ++ x2 ++ codes ",\"no\":" ++ x3 ++ codes ",\"of\":" ++ x4 ++ codes "}")
  said_verdict = record {
    text_is = verdict_layout;
    reads = verdict_reads;
    numbers = (s0.numbers, (s1.numbers, (s2.numbers, (s3.numbers, (s4.numbers, tt)))));
    shallow = omega (arith, s0.shallow, s1.shallow, s2.shallow, s3.shallow, s4.shallow);
    whole = rw (s0.whole, s1.whole, s2.whole, s3.whole, s4.whole) refl;
    utf8 = verdict_utf8;
  }

module _ (d0 d1 d2 d3 d4 d5 d6 d7 d8 d9 : Data) (x0 x1 x2 x3 x4 x5 x6 x7 x8 x9 : List ℕ)
    (s0 : IsSaid 1 d0 x0) (s1 : IsSaid 1 d1 x1) (s2 : IsSaid 1 d2 x2) (s3 : IsSaid 1 d3 x3) (s4 : IsSaid 1 d4 x4)
    (s5 : IsSaid 1 d5 x5) (s6 : IsSaid 1 d6 x6) (s7 : IsSaid 1 d7 x7) (s8 : IsSaid 1 d8 x8) (s9 : IsSaid 1 d9 x9) where
  request_layout :
      compact_text (object (member (codes "at") d0 (member (codes "by") d1 (member (codes "ceiling") d2 (member (codes "cmnds") d3 (member (codes "from") d4
      (member (codes "hosts") d5 (member (codes "kind") d6 (member (codes "no") d7 (member (codes "runas") d8 (member (codes "until") d9 no_members)))))))))))
      ≡ codes "{\"at\":" ++ x0 ++ codes ",\"by\":" ++ x1 ++ codes ",\"ceiling\":" ++ x2 ++ codes ",\"cmnds\":" ++ x3 ++ codes ",\"from\":" ++ x4
      ++ codes ",\"hosts\":" ++ x5 ++ codes ",\"kind\":" ++ x6 ++ codes ",\"no\":" ++ x7 ++ codes ",\"runas\":" ++ x8 ++ codes ",\"until\":" ++ x9 ++ codes "}"
  unfolding escape_byte
  request_layout =
      rw (s0.text_is, s1.text_is, s2.text_is, s3.text_is, s4.text_is, s5.text_is, s6.text_is, s7.text_is, s8.text_is, s9.text_is) (simp append_assoc)

  request_reads :
      of_json (outline (object (member (codes "at") d0 (member (codes "by") d1 (member (codes "ceiling") d2 (member (codes "cmnds") d3 (member (codes "from") d4
      (member (codes "hosts") d5 (member (codes "kind") d6 (member (codes "no") d7 (member (codes "runas") d8 (member (codes "until") d9 no_members))))))))))))
      ≡ Some (object (member (codes "at") d0 (member (codes "by") d1 (member (codes "ceiling") d2 (member (codes "cmnds") d3 (member (codes "from") d4
      (member (codes "hosts") d5 (member (codes "kind") d6 (member (codes "no") d7 (member (codes "runas") d8 (member (codes "until") d9 no_members)))))))))))
  request_reads = rw s0.reads (rw s1.reads (rw s2.reads (rw s3.reads (rw s4.reads (rw s5.reads (rw s6.reads (rw s7.reads (rw s8.reads (rw s9.reads refl)))))))))

  request_utf8 :
      IsUtf8 (codes "{\"at\":" ++ x0 ++ codes ",\"by\":" ++ x1 ++ codes ",\"ceiling\":" ++ x2 ++ codes ",\"cmnds\":" ++ x3 ++ codes ",\"from\":" ++ x4
      ++ codes ",\"hosts\":" ++ x5 ++ codes ",\"kind\":" ++ x6 ++ codes ",\"no\":" ++ x7 ++ codes ",\"runas\":" ++ x8 ++ codes ",\"until\":" ++ x9 ++ codes "}")
  request_utf8 =
      let m0 = utf8_member [] (codes "{\"at\":") x0 (utf8_literal [] refl) refl s0.utf8 in
      let m1 = utf8_member _ (codes ",\"by\":") x1 m0 refl s1.utf8 in
      let m2 = utf8_member _ (codes ",\"ceiling\":") x2 m1 refl s2.utf8 in
      let m3 = utf8_member _ (codes ",\"cmnds\":") x3 m2 refl s3.utf8 in
      let m4 = utf8_member _ (codes ",\"from\":") x4 m3 refl s4.utf8 in
      let m5 = utf8_member _ (codes ",\"hosts\":") x5 m4 refl s5.utf8 in
      let m6 = utf8_member _ (codes ",\"kind\":") x6 m5 refl s6.utf8 in
      let m7 = utf8_member _ (codes ",\"no\":") x7 m6 refl s7.utf8 in
      let m8 = utf8_member _ (codes ",\"runas\":") x8 m7 refl s8.utf8 in
      let m9 = utf8_member _ (codes ",\"until\":") x9 m8 refl s9.utf8 in
      IsUtf8-append _ (codes "}") m9 (utf8_literal (codes "}") refl)

  pub said_request :
      IsSaid 2 (object (member (codes "at") d0 (member (codes "by") d1 (member (codes "ceiling") d2 (member (codes "cmnds") d3 (member (codes "from") d4
      (member (codes "hosts") d5 (member (codes "kind") d6 (member (codes "no") d7 (member (codes "runas") d8 (member (codes "until") d9 no_members)))))))))))
      (codes "{\"at\":" ++ x0 ++ codes ",\"by\":" ++ x1 ++ codes ",\"ceiling\":" ++ x2 ++ codes ",\"cmnds\":" ++ x3 ++ codes ",\"from\":" ++ x4
      ++ codes ",\"hosts\":" ++ x5 ++ codes ",\"kind\":" ++ x6 ++ codes ",\"no\":" ++ x7 ++ codes ",\"runas\":" ++ x8 ++ codes ",\"until\":" ++ x9 ++ codes "}")
  said_request = record {
    text_is = request_layout;
    reads = request_reads;
    numbers = (s0.numbers, (s1.numbers, (s2.numbers, (s3.numbers, (s4.numbers, (s5.numbers, (s6.numbers, (s7.numbers, (s8.numbers, (s9.numbers, tt))))))))));
    shallow = omega (arith, s0.shallow, s1.shallow, s2.shallow, s3.shallow, s4.shallow, s5.shallow, s6.shallow, s7.shallow, s8.shallow, s9.shallow);
    whole = rw (s0.whole, s1.whole, s2.whole, s3.whole, s4.whole, s5.whole, s6.whole, s7.whole, s8.whole, s9.whole) refl;
    utf8 = request_utf8;
  }

-- ---- messages

-- a number of a request has few digits
fits : (n : ℕ) → IsNumbered n → n < 2 ^ 64
fits n h = omega arith

pub said_asked : (r : RequestFields) → IsRequest r → IsSaid 2 (request_value r) (request_text r)
said_asked r h =
    said_request _ _ _ _ _ _ _ _ _ _ _ _ _ _ _ _ _ _ _ _
    (said_plain (moment_text r.at) (moment_plain r.at h.at)) (said_plain r.by (name_plain r.by h.by)) (said_plain r.ceiling (label_plain r.ceiling h.ceiling))
    (said_list (map cmnd_text r.cmnds) (cmnds_printed r.cmnds h.cmnds.1)) (said_plain (moment_text r.from) (moment_plain r.from h.from))
    (said_list r.hosts (hosts_printed r.hosts h.hosts.1)) (said_plain (codes "request") request_plain) (said_number r.no (fits r.no h.no))
    (said_plain r.runas (name_plain r.runas h.runas)) (said_plain (moment_text r.until) (moment_plain r.until h.until))

pub said_answered : (v : VerdictFields) → IsVerdict v → IsSaid 2 (verdict_value v) (verdict_text v)
said_answered v h =
    said_verdict _ _ _ _ _ _ _ _ _ _
    (said_plain (moment_text v.at) (moment_plain v.at h.at)) (said_plain v.by (name_plain v.by h.by)) (said_plain (kind_text v.kind) (kind_plain v.kind))
    (said_number v.no (fits v.no h.no)) (said_plain v.of (name_plain v.of h.of))

-- the text of a message reads as the message's value, and is canonical
pub text_of_message : (m : Message) → IsMessage m → IsTextOf (wire m) (value_of m)
text_of_message (Request r) h = canonical_from_said (request_value r) (request_text r) (said_asked r h)
text_of_message (Verdict v) h = canonical_from_said (verdict_value v) (verdict_text v) (said_answered v h)

-- ---- the tree that a message's text parses as

items_tree : (ws : List (List ℕ)) → items_outline (strings ws) ≡ text_items ws
items_tree [] = refl
items_tree (w ∷ ws) = ap (json.item (json.string w)) (items_tree ws)

tree_outline : (m : Message) → outline (value_of m) ≡ tree_of m
tree_outline (Request r) = rw (items_tree (map cmnd_text r.cmnds), items_tree r.hosts) refl
tree_outline (Verdict v) = refl

said_message : (m : Message) → IsMessage m → IsSaid 2 (value_of m) (wire m)
said_message (Request r) h = said_asked r h
said_message (Verdict v) h = said_answered v h

pub document_of_message : (m : Message) → IsMessage m → json.document (wire m) ≡ Some (tree_of m)
document_of_message m h = document_from_said (value_of m) (wire m) (said_message m h) ∙ ap Some (tree_outline m)

pub tree_read : (m : Message) (body : List ℕ) (found : json.Json) → IsMessage m → body ≡ wire m → json.document body ≡ Some found → found ≡ tree_of m
tree_read m body found h same parsed =
    let both : Some found ≡ Some (tree_of m) = sym parsed ∙ ap json.document same ∙ document_of_message m h in
    cc

-- a message's text parses
pub parsed_message : (m : Message) (body : List ℕ) → IsMessage m → body ≡ wire m → (IsUtf8 body → json.document body ≡ None) → ⊥
parsed_message m body h same refused =
    let utf8 : IsUtf8 body = rw same (text_of_message m h).utf8 in
    let none : None ≡ Some (tree_of m) = sym (refused utf8) ∙ ap json.document same ∙ document_of_message m h in
    absurd cc

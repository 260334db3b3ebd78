-- The texts of a message are ASCII. Only those of commands can need escapes.
use Rattle.std.proofs.Common.{◌≡◌, ◌≢◌, ℕ, ◌<◌, ◌≤◌, Bool, true, false, eqb, leb, ltb, not, ◌&&◌, ◌||◌, List, [], ◌∷◌, ◌++◌, length}
use Rattle.std.proofs.Common.{refl, ap, ◌∙◌, inl, inr, arith, lit<, append_assoc, rules, Result, Ok, Err, String, Global, string_bytes}
use Rattle.std.specs.Prelude.{All, codes, decimal, map, IsAscii, OnOk, is_ok, if◌then◌else◌}
use Rattle.std.specs.List.{AllByRecursion, flat_map, list_all}
use Rattle.std.proofs.lemmas.Bool.{and_parts, cases_Bool, or_cases}
use Rattle.std.proofs.lemmas.Bool.Decides.{nat_tests}
use Rattle.std.proofs.lemmas.List.Elements.{All-map, All-weaker}
use Rattle.std.proofs.lemmas.Str.Ascii.{IsAscii-nil, IsAscii-cons}
use Rattle.json.specs.Print.{escape, escape_byte}
use Rattle.json.proofs.Printed.Strings.{escape_byte_plain}
use Rattle.serde_json.specs.Data.{string}
use Rattle.serde_json.specs.View.{view}
use Rattle.serde_json.specs.Written.{compact_text}
use Rattle.serde_json.specs.declared.value.Value.{the_lemmas}
use Rattle.serde_json.specs.declared.value.Value.TheVariants as values
use Rattle.sudo_words.specs.Word.{is_lower, is_name, is_name_byte, is_host_name, is_host_byte, is_label, is_path_byte, is_arg, is_arg_byte}
use Rattle.sudo_words.specs.Moment.{IsMoment, IsStamp, SpellsMoment, is_stamp_byte, stamp}
use Rattle.sudo_words.specs.Command.{IsLawful, IsHead, IsArgRule, cmnd_text, head_text, rule_of, arg_rule_text, spaced_arg}
use Rattle.sudo_words.specs.declared.cmnd.Cmnd.{Cmnd}
use Rattle.sudo_words.specs.declared.cmnd.Cmnd.TheVariants as commands
use Rattle.sudo_words.specs.declared.cmnd.ArgRule.{ArgRule}
use Rattle.sudo_words.specs.declared.cmnd.ArgRule.TheVariants.{Any, Empty, Exactly}
use Rattle.sudo_words.proofs.ArgLemmas.{arg_parts, arg_text_each}
use Rattle.sudo_words.proofs.NameLemmas.{name_shape, host_shape}
use Rattle.sudo_words.proofs.PathLemmas.{file_each, dir_each}
use Rattle.sudo_words.proofs.MomentLemmas.{stamp_bytes, stamp_is, stamp_spells}
use Rattle.messages.specs.Wire.{escaped, moment_text, quoted, list_text, kind_text, request_text}
use Rattle.messages.specs.declared.kind.VerdictKind.{VerdictKind}
use Rattle.messages.specs.declared.kind.VerdictKind.TheVariants.{Approve, Refuse, Revoke}
use Rattle.messages.specs.Fields.{RequestFields}

-- a printed byte of ASCII that is neither a quote nor a backslash
abbrev is_plain_byte : ℕ → Bool
is_plain_byte b = leb 32 b && ltb b 127 && not (eqb b 34) && not (eqb b 92)

abbrev pub IsPlain : List ℕ → Type 0
IsPlain w = AllByRecursion (λ b. is_plain_byte b ≡ true) w

plain_kept : (b : ℕ) → is_plain_byte b ≡ true → (eqb b 34 || eqb b 92) ≡ false
plain_kept b h = grind (arith, nat_tests)

-- a printed byte of ASCII
abbrev is_printed_byte : ℕ → Bool
is_printed_byte b = leb 32 b && ltb b 127

abbrev pub IsPrinted : List ℕ → Type 0
IsPrinted w = AllByRecursion (λ b. is_printed_byte b ≡ true) w

plain_is_printed : (b : ℕ) → is_plain_byte b ≡ true → is_printed_byte b ≡ true
plain_is_printed b h = grind (arith, nat_tests)

pub printed_plain : (w : List ℕ) → IsPlain w → IsPrinted w
printed_plain [] h = tt
printed_plain (b ∷ bs) h = (plain_is_printed b h.0, printed_plain bs h.1)

printed_above : (b : ℕ) → is_printed_byte b ≡ true → 32 ≤ b
printed_above b h = grind (arith, nat_tests)

printed_ascii : (b : ℕ) → is_printed_byte b ≡ true → b < 128
printed_ascii b h = grind (arith, nat_tests)

kept_not_quote : (b : ℕ) → (eqb b 34 || eqb b 92) ≡ false → b ≢ 34
kept_not_quote b h = grind (arith, nat_tests)

kept_not_backslash : (b : ℕ) → (eqb b 34 || eqb b 92) ≡ false → b ≢ 92
kept_not_backslash b h = grind (arith, nat_tests)

kept_escape : (b : ℕ) → is_printed_byte b ≡ true → (eqb b 34 || eqb b 92) ≡ false → escape_byte b ≡ b ∷ []
kept_escape b h k = escape_byte_plain b (kept_not_quote b k) (kept_not_backslash b k) (printed_above b h)

marked_escape : (b : ℕ) → (eqb b 34 || eqb b 92) ≡ true → escape_byte b ≡ 92 ∷ b ∷ []
unfolding escape_byte
marked_escape b k = elim (or_cases (eqb b 34) (eqb b 92) k) [
  | inl quote ↦ let is : b ≡ 34 = grind (arith, nat_tests) in rw is refl
  | inr backslash ↦ let is : b ≡ 92 = grind (arith, nat_tests) in rw is refl
]

-- the escapes of a printed text are those of JSON
pub escape_printed : (w : List ℕ) → IsPrinted w → escape w ≡ escaped w
unfolding escaped
escape_printed [] h = refl
escape_printed (b ∷ bs) h =
    elim (cases_Bool (eqb b 34 || eqb b 92)) [
      | inl marked ↦ rw (marked, marked_escape b marked) (ap (λ (s : List ℕ). 92 ∷ b ∷ s) (escape_printed bs h.1))
      | inr kept ↦ rw (kept, kept_escape b h.0 kept) (ap (λ (s : List ℕ). b ∷ s) (escape_printed bs h.1))
    ]

pub ascii_escaped : (w : List ℕ) → IsPrinted w → IsAscii (escaped w)
unfolding escaped
ascii_escaped [] h = IsAscii-nil
ascii_escaped (b ∷ bs) h =
    let here = IsAscii-cons b (escaped bs) (printed_ascii b h.0) (ascii_escaped bs h.1) in
    elim (cases_Bool (eqb b 34 || eqb b 92)) [
      | inl marked ↦ rw marked (IsAscii-cons 92 (b ∷ escaped bs) (lit< tt) here)
      | inr kept ↦ rw kept here
    ]

pub escaped_plain : (w : List ℕ) → IsPlain w → escaped w ≡ w
unfolding escaped
escaped_plain [] h = refl
escaped_plain (b ∷ bs) h = rw (plain_kept b h.0) (ap (λ (s : List ℕ). b ∷ s) (escaped_plain bs h.1))

-- ---- words of each form

each_plain : (q : ℕ → Bool) → ((b : ℕ) → q b ≡ true → is_plain_byte b ≡ true) → (w : List ℕ) → list_all q w ≡ true → IsPlain w
each_plain q within [] h = tt
each_plain q within (b ∷ bs) h = let both = and_parts (q b) (list_all q bs) h in (within b both.0, each_plain q within bs both.1)

lower_plain : (b : ℕ) → is_lower b ≡ true → is_plain_byte b ≡ true
lower_plain b h = grind (arith, nat_tests)

name_start_plain : (b : ℕ) → (is_lower b || eqb b 95) ≡ true → is_plain_byte b ≡ true
name_start_plain b h = grind (arith, nat_tests)

name_byte_plain : (b : ℕ) → is_name_byte b ≡ true → is_plain_byte b ≡ true
name_byte_plain b h = grind (arith, nat_tests)

host_byte_plain : (b : ℕ) → is_host_byte b ≡ true → is_plain_byte b ≡ true
host_byte_plain b h = grind (arith, nat_tests)

path_byte_printed : (b : ℕ) → is_path_byte b ≡ true → is_printed_byte b ≡ true
path_byte_printed b h = grind (arith, nat_tests)

arg_byte_printed : (b : ℕ) → is_arg_byte b ≡ true → is_printed_byte b ≡ true
arg_byte_printed b h = grind (arith, nat_tests)

stamp_byte_plain : (b : ℕ) → is_stamp_byte b ≡ true → is_plain_byte b ≡ true
stamp_byte_plain b h = grind (arith, nat_tests)

pub name_plain : (w : List ℕ) → is_name w ≡ true → IsPlain w
name_plain [] h = absurd cc
name_plain (b ∷ bs) h =
    let all = and_parts ((is_lower b || eqb b 95) && list_all is_name_byte bs) (leb (length (b ∷ bs)) 32) (name_shape (b ∷ bs) h) in
    let both = and_parts (is_lower b || eqb b 95) (list_all is_name_byte bs) all.0 in
    (name_start_plain b both.0, each_plain is_name_byte name_byte_plain bs both.1)

pub label_plain : (w : List ℕ) → is_label w ≡ true → IsPlain w
label_plain [] h = absurd cc
label_plain (b ∷ bs) h =
    let all = and_parts (is_lower b && list_all is_host_byte bs) (leb (length (b ∷ bs)) 32) h in
    let both = and_parts (is_lower b) (list_all is_host_byte bs) all.0 in
    (lower_plain b both.0, each_plain is_host_byte host_byte_plain bs both.1)

pub host_plain : (w : List ℕ) → is_host_name w ≡ true → IsPlain w
host_plain w h = label_plain w (host_shape w h)

-- ---- commands: paths, and arguments after spaces

append_printed : (v w : List ℕ) → IsPrinted v → IsPrinted w → IsPrinted (v ++ w)
append_printed [] w h k = k
append_printed (b ∷ bs) w h k = (h.0, append_printed bs w h.1 k)

head_printed : (c : Cmnd) → IsHead c → IsPrinted (head_text c)
head_printed commands.All h = (refl, (refl, (refl, tt)))
head_printed (commands.Path file rule) h = file_each (λ (b : ℕ). is_printed_byte b ≡ true) refl path_byte_printed file h.0
head_printed (commands.Dir dir) h = dir_each (λ (b : ℕ). is_printed_byte b ≡ true) refl path_byte_printed dir h.0

args_printed : (args : List (List ℕ)) → AllByRecursion (λ arg. is_arg arg ≡ true) args → IsPrinted (flat_map spaced_arg args)
args_printed [] h = tt
args_printed (a ∷ args) h =
    append_printed (spaced_arg a) (flat_map spaced_arg args)
    (refl, arg_text_each (λ (b : ℕ). is_printed_byte b ≡ true) refl arg_byte_printed a (arg_parts a h.0).bytes) (args_printed args h.1)

rule_printed : (r : ArgRule) → IsArgRule r → IsPrinted (arg_rule_text r)
rule_printed Any h = tt
rule_printed Empty h = (refl, (refl, (refl, tt)))
rule_printed (Exactly args) h = args_printed args h.0

pub cmnd_printed : (c : Cmnd) → IsLawful c → IsPrinted (cmnd_text c)
cmnd_printed c h = append_printed (head_text c) (arg_rule_text (rule_of c)) (head_printed c h.head) (rule_printed (rule_of c) h.args)

stamped_plain : (w : List ℕ) → AllByRecursion (λ b. is_stamp_byte b ≡ true) w → IsPlain w
stamped_plain [] h = tt
stamped_plain (b ∷ bs) h = (stamp_byte_plain b h.0, stamped_plain bs h.1)

pub stamp_plain : (t : ℕ) → IsMoment t → IsPlain (stamp t)
stamp_plain t h = stamped_plain (stamp t) (stamp_bytes t h)

-- ---- what the writer of a message needs

pub escaped_name : (w : List ℕ) → is_name w ≡ true → escaped w ≡ w
escaped_name w h = escaped_plain w (name_plain w h)

pub escaped_host : (w : List ℕ) → is_host_name w ≡ true → escaped w ≡ w
escaped_host w h = escaped_plain w (host_plain w h)

pub escaped_label : (w : List ℕ) → is_label w ≡ true → escaped w ≡ w
escaped_label w h = escaped_plain w (label_plain w h)

pub view_string : (s : String Global) → view (values.String s) ≡ string (string_bytes s)
view_string s = search (rules, the_lemmas)

-- a command's text between quotes is what the writer of JSON gives for it
pub said_cmnd : (c : Cmnd) → IsLawful c → compact_text (string (cmnd_text c)) ≡ quoted (cmnd_text c)
unfolding quoted
said_cmnd c h = rw (escape_printed (cmnd_text c) (cmnd_printed c h)) refl

pub escaped_request : escaped (codes "request") ≡ codes "request"
unfolding escaped
escaped_request = refl

-- a text that needs no escape, appended between quotes
pub between_quotes : (front w : List ℕ) → escaped w ≡ w → ((front ++ codes "\"") ++ w) ++ codes "\"" ≡ front ++ quoted w
unfolding quoted
between_quotes front w same = rw same (simp append_assoc)

-- what a list has after the last of several pushes
pub last_pushed : {T E : Type 0} (r : Result T E) (new old more want : List ℕ)
    → new ≡ (if is_ok r then old ++ more else old) → old ++ more ≡ want → OnOk r (new ≡ want)
last_pushed (Ok x) new old more want e h = e ∙ h
last_pushed (Err x) new old more want e h = tt

pub escaped_moment : (t : ℕ) → IsMoment t → escaped (moment_text t) ≡ moment_text t
unfolding moment_text
escaped_moment t h = escaped_plain (stamp t) (stamp_plain t h)

-- ---- what the reader of a message needs

pub moment_stamped : (t : ℕ) → IsMoment t → IsStamp (moment_text t) t
unfolding moment_text
moment_stamped t h = stamp_is t h

pub moment_spelled : (t : ℕ) → IsMoment t → SpellsMoment (moment_text t) t
unfolding moment_text
moment_spelled t h = stamp_spells (stamp t) t (stamp_is t h)

-- the three parts of a request's text, one after the other
pub request_parts : (out asked lists : List ℕ) (r : RequestFields)
    → asked ≡ out ++ codes "{\"at\":" ++ quoted (moment_text r.at) ++ codes ",\"by\":" ++ quoted r.by ++ codes ",\"ceiling\":" ++ quoted r.ceiling
    → lists ≡ asked ++ codes ",\"cmnds\":" ++ list_text (map cmnd_text r.cmnds) ++ codes ",\"from\":" ++ quoted (moment_text r.from)
    ++ codes ",\"hosts\":" ++ list_text r.hosts → lists ++ codes ",\"kind\":" ++ quoted (codes "request") ++ codes ",\"no\":" ++ decimal r.no
    ++ codes ",\"runas\":" ++ quoted r.runas ++ codes ",\"until\":" ++ quoted (moment_text r.until) ++ codes "}" ≡ out ++ request_text r
request_parts out asked lists r e f = rw (f, e) (simp append_assoc)

pub moment_plain : (t : ℕ) → IsMoment t → IsPlain (moment_text t)
unfolding moment_text
moment_plain t h = stamp_plain t h

pub request_plain : IsPlain (codes "request")
request_plain = each_plain is_plain_byte (λ b k. k) (codes "request") refl

pub kind_plain : (k : VerdictKind) → IsPlain (kind_text k)
kind_plain Approve = each_plain is_plain_byte (λ b k. k) (codes "approve") refl
kind_plain Refuse = each_plain is_plain_byte (λ b k. k) (codes "refuse") refl
kind_plain Revoke = each_plain is_plain_byte (λ b k. k) (codes "revoke") refl

pub escaped_kind : (k : VerdictKind) → escaped (kind_text k) ≡ kind_text k
escaped_kind k = escaped_plain (kind_text k) (kind_plain k)

pub hosts_printed : (hs : List (List ℕ)) → All (λ h. is_host_name h ≡ true) hs → All IsPrinted hs
hosts_printed hs each = All-weaker (λ (h : List ℕ). is_host_name h ≡ true) IsPrinted (λ w h. printed_plain w (host_plain w h)) hs each

pub cmnds_printed : (cs : List Cmnd) → All IsLawful cs → All IsPrinted (map cmnd_text cs)
cmnds_printed cs each = All-map IsPrinted cmnd_text cs (All-weaker IsLawful (λ (c : Cmnd). IsPrinted (cmnd_text c)) cmnd_printed cs each)

-- a literal
low_byte : (b : ℕ) → ltb b 128 ≡ true → b < 128
low_byte b h = grind (arith, nat_tests)

pub ascii_literal : (w : List ℕ) → list_all (λ b. ltb b 128) w ≡ true → IsAscii w
ascii_literal [] h = IsAscii-nil
ascii_literal (b ∷ bs) h = let both = and_parts (ltb b 128) (list_all (λ x. ltb x 128) bs) h in IsAscii-cons b bs (low_byte b both.0) (ascii_literal bs both.1)

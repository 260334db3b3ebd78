-- The canonical text of a policy spells it: the line of each entry is read as tokens that spell the entry.
use Rattle.std.proofs.Common.{◌≡◌, ℕ, true, false, eqb, List, [], ◌∷◌, ◌++◌, refl, sym, ap, subst, ◌∙◌, inl, append_assoc, append-nil, arith}
use Rattle.std.specs.Prelude.{codes}
use Rattle.std.specs.List.{AllByRecursion}
use Rattle.std.proofs.lemmas.List.Splits.{slice_split_at}
use Rattle.std.proofs.lemmas.List.Elements.{All-from_recursion}
use Rattle.sudo_words.specs.Bytes.{space, newline, equals, comma}
use Rattle.sudo_words.specs.Word.{is_name, is_host_name, is_alias_name}
use Rattle.sudo_policy.specs.declared.entry.Signed.{Signed}
use Rattle.sudo_policy.specs.declared.entry.CmndItem.{CmndItem}
use Rattle.sudo_policy.specs.declared.entry.Entry.{Entry}
use Rattle.sudo_policy.specs.declared.entry.Entry.TheVariants as entries
use Rattle.sudo_policy.specs.declared.tree.Definition.{Definition}
use Rattle.sudo_policy.specs.declared.tree.Line.{Line}
use Rattle.sudo_policy.specs.declared.tree.Line.TheVariants as lines
use Rattle.sudo_policy.specs.Lex.{is_text_byte, Tok, word, mark, Lexes}
use Rattle.sudo_policy.specs.Lines.{lines_of, is_no_hash, IsBody, Joined}
use Rattle.sudo_policy.specs.Printing.{cmnd_item_text, signed_text, names_text, cmnds_text, alias_text, entry_text, canon}
use Rattle.sudo_policy.specs.Policy.{IsCmndItem, IsList, IsEntry, IsPolicy}
use Rattle.sudo_policy.specs.Grammar.{Listed, SpellsItem, SpellsCmnd, SpellsAliases, SpellsTree, Cmnds}
use Rattle.sudo_policy.specs.Inheritance.{entries_of}
use Rattle.sudo_policy.specs.Spelling.{SpellsEntries, SpellsLines, Spells}
use Rattle.sudo_policy.proofs.LineTexts.{backslash_last}
use Rattle.sudo_policy.proofs.SpecTexts.{BeginsWord}
use Rattle.sudo_policy.proofs.PrintedWords.{IsWord, alias_word, literal}
use Rattle.sudo_policy.proofs.PrintedLists.{stop, lex_word, lex_mark, list_toks, lex_list, list_spelled}
use Rattle.sudo_policy.proofs.PrintedLists.{item_toks, cmnd_toks, lex_cmnd, cmnd_spelled, IsPrinted, IsSpelled}
use Rattle.sudo_policy.proofs.PrintedLines.{all_append, each_of, lexed_bytes, lexed_end, text_in_lines, no_feed_in_lines, no_hash_in_lines}
use Rattle.sudo_policy.proofs.PrintedRules.{lex_users, lex_hosts, users_spelled, hosts_spelled, line_toks}
use Rattle.sudo_policy.proofs.PrintedRules.{rule_lexes, rule_spelled, rule_begins, rule_entries, part_of}

-- ---- definitions of aliases

lex_cmnds : IsPrinted (IsList IsCmndItem) cmnds_text (list_toks cmnd_toks)
lex_cmnds = lex_list (λ (s : Signed CmndItem). IsCmndItem s.item) (signed_text cmnd_item_text) cmnd_toks lex_cmnd

cmnds_spelled : IsSpelled (IsList IsCmndItem) Cmnds (list_toks cmnd_toks)
cmnds_spelled = list_spelled (λ (s : Signed CmndItem). IsCmndItem s.item) SpellsCmnd cmnd_toks cmnd_spelled

-- the tokens of a definition, where those of its list are known
alias_toks : List ℕ → List ℕ → List Tok → List Tok
alias_toks kind name list = word false 0 kind ∷ word true 0 name ∷ mark true equals ∷ list

alias_front : (kind name list : List ℕ) → kind ++ codes " " ++ name ++ codes " = " ++ list ≡ kind ++ (space ∷ (name ++ (space ∷ equals ∷ space ∷ list)))
alias_front kind name list = simp append_assoc

lex_alias : (kind name list : List ℕ) (ts : List Tok) → IsWord kind → is_alias_name name ≡ true
    → Lexes (space ∷ (list ++ [])) ts → Lexes (alias_text kind name list) (alias_toks kind name ts)
unfolding alias_toks
lex_alias kind name list ts is named h =
    let listed = subst (λ (x : List ℕ). Lexes (space ∷ x) ts) (append-nil list) h in
    let marked = lex_mark true equals (space ∷ list) ts refl listed in
    let names = lex_word true 0 name (space ∷ equals ∷ space ∷ list) (mark true equals ∷ ts) (alias_word name named)
    (stop space (equals ∷ space ∷ list) refl refl) marked in
    subst (λ (x : List ℕ). Lexes x (alias_toks kind name ts)) (sym (alias_front kind name list))
    (lex_word false 0 kind (space ∷ (name ++ (space ∷ equals ∷ space ∷ list))) (word true 0 name ∷ mark true equals ∷ ts) is
    (stop space (name ++ (space ∷ equals ∷ space ∷ list)) refl refl) names)

def_of : {X : Type 0} → List ℕ → List (Signed X) → Definition X
def_of name list = record { name = name; list = list }

alias_spelled : {X : Type 0} (kind name : List ℕ) (list : List (Signed X)) (Is : List Tok → Signed X → List Tok → Type 0) (ts : List Tok)
    → is_alias_name name ≡ true → Listed comma Is ts list [] → SpellsAliases kind Is (alias_toks kind name ts) (def_of name list ∷ [])
unfolding alias_toks def_of
alias_spelled kind name list Is ts named h = (
  false,
  word true 0 name ∷ mark true equals ∷ ts,
  refl,
  refl,
  ([], record { name_spaced = true; spaced = true; next = ts; toks = refl; name = named; list = h }, refl),
)

-- ---- entries

-- the line of an entry is read as tokens that spell the entry alone
record IsRead (e : Entry) : Type 0 where
  pub toks : List Tok
  pub lexes : Lexes (entry_text e) toks
  pub spells : SpellsEntries toks (e ∷ [])

from_tree : (ts : List Tok) (line : Line) (es : List Entry) → BeginsWord ts → SpellsTree ts line → es ≡ entries_of line → SpellsEntries ts es
from_tree [] line es b s e = absurd b
from_tree (t ∷ ts) line es b s e = (line, s, e)

entry_read : (e : Entry) → IsEntry e → IsRead e
unfolding alias_toks def_of
entry_read (entries.UserAlias name list) h =
    let ts = list_toks item_toks true list ++ [] in
    record {
      toks = alias_toks (codes "User_Alias") name ts;
      lexes = lex_alias (codes "User_Alias") name (names_text list) ts
          (literal (codes "User_Alias") (omega arith) refl) h.0 (lex_users true list [] [] h.1 refl tt);
      spells = (
        lines.Users (def_of name list ∷ []),
        alias_spelled (codes "User_Alias") name list (SpellsItem is_name) ts h.0 (users_spelled true list [] h.1),
        refl,
      );
    }
entry_read (entries.RunasAlias name list) h =
    let ts = list_toks item_toks true list ++ [] in
    record {
      toks = alias_toks (codes "Runas_Alias") name ts;
      lexes = lex_alias (codes "Runas_Alias") name (names_text list) ts
          (literal (codes "Runas_Alias") (omega arith) refl) h.0 (lex_users true list [] [] h.1 refl tt);
      spells = (
        lines.Runas (def_of name list ∷ []),
        alias_spelled (codes "Runas_Alias") name list (SpellsItem is_name) ts h.0 (users_spelled true list [] h.1),
        refl,
      );
    }
entry_read (entries.HostAlias name list) h =
    let ts = list_toks item_toks true list ++ [] in
    record {
      toks = alias_toks (codes "Host_Alias") name ts;
      lexes = lex_alias (codes "Host_Alias") name (names_text list) ts
          (literal (codes "Host_Alias") (omega arith) refl) h.0 (lex_hosts true list [] [] h.1 refl tt);
      spells = (
        lines.Hosts (def_of name list ∷ []),
        alias_spelled (codes "Host_Alias") name list (SpellsItem is_host_name) ts h.0 (hosts_spelled true list [] h.1),
        refl,
      );
    }
entry_read (entries.CmndAlias name list) h =
    let ts = list_toks cmnd_toks true list ++ [] in
    record {
      toks = alias_toks (codes "Cmnd_Alias") name ts;
      lexes = lex_alias (codes "Cmnd_Alias") name (cmnds_text list) ts
          (literal (codes "Cmnd_Alias") (omega arith) refl) h.0 (lex_cmnds true list [] [] h.1 refl tt);
      spells = (lines.Cmnds (def_of name list ∷ []), alias_spelled (codes "Cmnd_Alias") name list SpellsCmnd ts h.0 (cmnds_spelled true list [] h.1), refl);
    }
entry_read (entries.Rule r) h = record {
  toks = line_toks r;
  lexes = rule_lexes r h;
  spells = from_tree (line_toks r) (lines.UserSpec r.users (part_of r ∷ [])) (entries.Rule r ∷ []) (rule_begins r h) (rule_spelled r h) (rule_entries r);
}

-- ---- lines: each is its own body, and the last is empty

-- a newline ends the first line
feed_split : (line rest : List ℕ) (ts : List Tok) → Lexes line ts → lines_of ((line ++ newline ∷ []) ++ rest) ≡ line ∷ lines_of rest
feed_split line rest ts h =
    ap lines_of (append_assoc line (newline ∷ []) rest) ∙ slice_split_at (λ (b : ℕ). eqb b newline) line newline rest
    (All-from_recursion (λ (b : ℕ). eqb b newline ≡ false) line (lexed_bytes (λ (b : ℕ). eqb b newline ≡ false) no_feed_in_lines line ts h)) refl

own_body : (line : List ℕ) (ts : List Tok) → Lexes line ts → IsBody line line
own_body line ts h =
    let each = each_of is_no_hash line (lexed_bytes (λ (b : ℕ). is_no_hash b ≡ true) no_hash_in_lines line ts h) in
    inl (record { each = each; ends = backslash_last line ∙ lexed_end line ts h }, refl)

pub texts : List Entry → List (List ℕ)
texts [] = [] ∷ []
texts (e ∷ es) = entry_text e ∷ texts es

pub canon_joined : (es : List Entry) → AllByRecursion IsEntry es → Joined (lines_of (canon es)) (texts es)
unfolding texts
canon_joined [] h = inl ([], [], own_body [] [] tt, refl, refl)
canon_joined (e ∷ es) h =
    let is = entry_read e h.0 in
    subst (λ (ls : List (List ℕ)). Joined ls (texts (e ∷ es))) (sym (feed_split (entry_text e) (canon es) is.toks is.lexes))
    (inl (entry_text e, texts es, own_body (entry_text e) is.toks is.lexes, refl, canon_joined es h.1))

pub canon_entries : (es : List Entry) → AllByRecursion IsEntry es → SpellsLines (texts es) es
unfolding texts
canon_entries [] h = ([], [], ([], tt, refl), refl, refl)
canon_entries (e ∷ es) h = let is = entry_read e h.0 in (e ∷ [], es, (is.toks, is.lexes, is.spells), refl, canon_entries es h.1)

-- ---- each byte is one that a text may have

canon_bytes : (es : List Entry) → AllByRecursion IsEntry es → AllByRecursion (λ b. is_text_byte b ≡ true) (canon es)
canon_bytes [] h = tt
canon_bytes (e ∷ es) h =
    let is = entry_read e h.0 in
    let P : ℕ → Type 0 = λ b. is_text_byte b ≡ true in
    all_append P (entry_text e ++ newline ∷ []) (canon es)
    (all_append P (entry_text e) (newline ∷ []) (lexed_bytes P text_in_lines (entry_text e) is.toks is.lexes) (refl, tt)) (canon_bytes es h.1)

pub canon_spells : (es : List Entry) → IsPolicy es → Spells (canon es) es
canon_spells es p = record {
  short = p.short;
  bytes = each_of is_text_byte (canon es) (canon_bytes es p.each);
  joined = texts es;
  lines = canon_joined es p.each;
  entries = canon_entries es p.each;
  policy = p;
}

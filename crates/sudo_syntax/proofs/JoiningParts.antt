-- What is joined by `:` spells what its parts spell on lines of their own.
use Rattle.std.proofs.Common.{◌≡◌, ℕ, Bool, true, false, ◌&&◌, ◌==◌, List, [], ◌∷◌, ◌++◌, map, Some, None, refl, sym, ap, subst, ◌∙◌, append_assoc}
use Rattle.std.specs.Prelude.{codes}
use Rattle.std.proofs.lemmas.Bool.{false≢true, or_from}
use Rattle.std.proofs.lemmas.Grind.{flat_map-append}
use Rattle.std.proofs.lemmas.List.{map-append}
use Rattle.sudo_words.specs.Bytes.{space, equals, comma, colon, backslash}
use Rattle.sudo_words.specs.Word.{is_name, is_host_name}
use Rattle.sudo_words.specs.Command.{is_escaped}
use Rattle.sudo_policy.specs.declared.entry.Signed.{Signed}
use Rattle.sudo_policy.specs.declared.entry.Item.{Item}
use Rattle.sudo_policy.specs.declared.entry.CmndItem.{CmndItem}
use Rattle.sudo_policy.specs.declared.entry.Entry.{Entry}
use Rattle.sudo_policy.specs.declared.entry.Entry.TheVariants as entries
use Rattle.sudo_policy.specs.declared.tree.Definition.{Definition}
use Rattle.sudo_policy.specs.declared.tree.Part.{Part}
use Rattle.sudo_policy.specs.declared.tree.Line.{Line}
use Rattle.sudo_policy.specs.declared.tree.Line.TheVariants as lines
use Rattle.sudo_policy.specs.Span.{Each}
use Rattle.sudo_policy.specs.private.Cuts.{Stops}
use Rattle.sudo_policy.specs.Lex.{Tok, word, mark, text_of, is_blank, is_some_blank, is_word_byte, goes_on, IsTok, Lexes}
use Rattle.sudo_policy.specs.Grammar.{begins_spaced, More, Listed, SpellsItem, SpellsCmnd, args_of, head_of, Users, SpellsRunas}
use Rattle.sudo_policy.specs.Grammar.{SpellsDates, SpellsTags, SpellsCmndSpec, SpellsPart, SpellsDef, SpellsAliases, SpellsTree}
use Rattle.sudo_policy.specs.Inheritance.{part_rules, entries_of}
use Rattle.sudo_policy.specs.Spelling.{SpellsEntries, SpellsLine}
use Rattle.sudo_syntax.specs.Apart.{AreColonParts, AreDefs, AreUsers, SpellsBoth}
use Rattle.sudo_policy.proofs.Lexing.{starts}
use Rattle.sudo_policy.proofs.LineTexts.{each_append}
use Rattle.sudo_policy.proofs.One.{line_one}
use Rattle.sudo_syntax.proofs.Deriving.{lexed}

-- ---- tokens behind a blank

abbrev spaced : List Tok → List Tok
spaced [] = []
spaced (word a n w ∷ ts) = word true n w ∷ ts
spaced (mark a m ∷ ts) = mark true m ∷ ts

lex_spaced : (bytes : List ℕ) (ts : List Tok) → Lexes bytes ts → Lexes (space ∷ bytes) (spaced ts)
lex_spaced bytes [] h = (refl, h)
lex_spaced bytes (word a n w ∷ ts) (blanks, rest, each, is, tok, whole, more) =
    (space ∷ blanks, rest, (refl, each), refl, tok, ap (λ (x : List ℕ). space ∷ x) whole, more)
lex_spaced bytes (mark a m ∷ ts) (blanks, rest, each, is, tok, whole, more) =
    (space ∷ blanks, rest, (refl, each), refl, tok, ap (λ (x : List ℕ). space ∷ x) whole, more)

and_last : (a : Bool) → (a && false) ≡ false
and_last true = refl
and_last false = refl

ends_blank : (rest v : List ℕ) → goes_on rest ≡ false → goes_on (rest ++ space ∷ v) ≡ false
ends_blank [] [] h = refl
ends_blank [] (c ∷ v) h = refl
ends_blank (b ∷ []) v h = or_from (is_word_byte b) ((b == backslash) && is_escaped space) h (and_last (b == backslash))
ends_blank (b ∷ c ∷ rest) v h = h

tok_behind : (t : Tok) (rest v : List ℕ) → IsTok t rest → IsTok t (rest ++ space ∷ v)
tok_behind (word a n w) rest v h = (h.0, h.1, ends_blank rest v h.2)
tok_behind (mark a m) rest v h = h

some_behind : (u : List ℕ) (b : ℕ) (bs : List ℕ) → is_some_blank (u ++ b ∷ bs) ≡ true
some_behind [] b bs = refl
some_behind (c ∷ u) b bs = refl

blanks_before : (u v : List ℕ) (us : List Tok) → Each is_blank u → Lexes (space ∷ v) us → Lexes (u ++ space ∷ v) us
blanks_before u v [] each h = each_append is_blank u (space ∷ v) each h
blanks_before u v (t ∷ us) each ([], rest, blank, is, tok, whole, more) =
    absurd (false≢true (sym (subst (Stops is_blank) (sym whole) (starts t rest tok))))
blanks_before u v (t ∷ us) each (b ∷ bs, rest, blank, is, tok, whole, more) = (
  u ++ b ∷ bs,
  rest,
  each_append is_blank u (b ∷ bs) each blank,
  is ∙ sym (some_behind u b bs),
  tok,
  ap (λ (x : List ℕ). u ++ x) whole ∙ sym (append_assoc u (b ∷ bs) (text_of t ++ rest)),
  more,
)

lex_behind : (u v : List ℕ) (ts us : List Tok) → Lexes u ts → Lexes (space ∷ v) us → Lexes (u ++ space ∷ v) (ts ++ us)
lex_behind u v [] us h k = blanks_before u v us h k
lex_behind u v (t ∷ ts) us (blanks, rest, each, is, tok, whole, more) k = (
  blanks,
  rest ++ space ∷ v,
  each,
  is,
  tok_behind t rest v tok,
  ap (λ (x : List ℕ). x ++ space ∷ v) whole ∙ append_assoc blanks (text_of t ++ rest) (space ∷ v)
      ∙ ap (λ (x : List ℕ). blanks ++ x) (append_assoc (text_of t) rest (space ∷ v)),
  lex_behind rest v ts us more k,
)

-- ---- what is spelled at the front of some tokens is spelled at the front of more

abbrev Grows : {X : Type 0} → (List Tok → X → List Tok → Type 0) → Type 0
Grows {X} Is = (ts : List Tok) (x : X) (rest us : List Tok) → Is ts x rest → Is (ts ++ us) x (rest ++ us)

more_grows : {X : Type 0} (m : ℕ) (Is : List Tok → X → List Tok → Type 0) → Grows Is → Grows (More m Is)
more_grows m Is grows ts [] rest us h = ap (λ (x : List Tok). x ++ us) h
more_grows m Is grows ts (x ∷ xs) rest us (a, next, mid, e, is, more) =
    (a, next ++ us, mid ++ us, ap (λ (z : List Tok). z ++ us) e, grows next x mid us is, more_grows m Is grows mid xs rest us more)

listed_grows : {X : Type 0} (m : ℕ) (Is : List Tok → X → List Tok → Type 0) → Grows Is → Grows (Listed m Is)
listed_grows m Is grows ts [] rest us h = h
listed_grows m Is grows ts (x ∷ xs) rest us (mid, is, more) = (mid ++ us, grows ts x mid us is, more_grows m Is grows mid xs rest us more)

item_grows : (form : List ℕ → Bool) → Grows (SpellsItem form)
item_grows form ts s rest us g = record { spaced = g.spaced; bangs = g.bangs; toks = ap (λ (x : List Tok). x ++ us) g.toks; item = g.item; sign = g.sign }

cmnd_grows : Grows SpellsCmnd
cmnd_grows ts s rest us g = record {
  spaced = g.spaced;
  bangs = g.bangs;
  toks =
      ap (λ (x : List Tok). x ++ us) g.toks
      ∙ ap (λ (x : List Tok). word g.spaced g.bangs (head_of s.item) ∷ x) (append_assoc (args_of s.item) rest us);
  item = g.item;
  sign = g.sign;
}

begins_grows : (ts us : List Tok) → begins_spaced ts ≡ true → begins_spaced (ts ++ us) ≡ true
begins_grows [] us h = absurd (false≢true h)
begins_grows (t ∷ ts) us h = h

runas_grows : Grows SpellsRunas
runas_grows ts None rest us h = ap (λ (x : List Tok). x ++ us) h
runas_grows ts (Some runas) rest us (a, b, next, mid, e, users, close) = (
  a,
  b,
  next ++ us,
  mid ++ us,
  ap (λ (x : List Tok). x ++ us) e,
  listed_grows comma (SpellsItem is_name) (item_grows is_name) next runas mid us users,
  ap (λ (x : List Tok). x ++ us) close,
)

dates_grows : Grows SpellsDates
dates_grows ts [] rest us h = ap (λ (x : List Tok). x ++ us) h
dates_grows ts (d ∷ dates) rest us (a, time, next, spells, e, begins, more) =
    (a, time, next ++ us, spells, ap (λ (x : List Tok). x ++ us) e, begins_grows next us begins, dates_grows next dates rest us more)

tags_grows : Grows SpellsTags
tags_grows ts [] rest us h = ap (λ (x : List Tok). x ++ us) h
tags_grows ts (tag ∷ tags) rest us (a, b, next, e, more) = (a, b, next ++ us, ap (λ (x : List Tok). x ++ us) e, tags_grows next tags rest us more)

spec_grows : Grows SpellsCmndSpec
spec_grows ts s rest us g = record {
  after_runas = g.after_runas ++ us;
  dates = g.dates;
  after_dates = g.after_dates ++ us;
  tags = g.tags;
  after_tags = g.after_tags ++ us;
  runas = runas_grows ts s.runas g.after_runas us g.runas;
  dated = dates_grows g.after_runas g.dates g.after_dates us g.dated;
  bounds = g.bounds;
  tagged = tags_grows g.after_dates g.tags g.after_tags us g.tagged;
  given = g.given;
  cmnd = cmnd_grows g.after_tags s.cmnd rest us g.cmnd;
}

part_grows : Grows SpellsPart
part_grows ts p rest us g = record {
  spaced = g.spaced;
  next = g.next ++ us;
  hosts = listed_grows comma (SpellsItem is_host_name) (item_grows is_host_name) ts p.hosts (mark g.spaced equals ∷ g.next) us g.hosts;
  specs = listed_grows comma SpellsCmndSpec spec_grows g.next p.specs rest us g.specs;
}

def_grows : {X : Type 0} (Is : List Tok → Signed X → List Tok → Type 0) → Grows Is → Grows (SpellsDef Is)
def_grows Is grows ts d rest us g = record {
  name_spaced = g.name_spaced;
  spaced = g.spaced;
  next = g.next ++ us;
  toks = ap (λ (x : List Tok). x ++ us) g.toks;
  name = g.name;
  list = listed_grows comma Is grows g.next d.list rest us g.list;
}

-- ---- one list behind another

more_append : {X : Type 0} (m : ℕ) (Is : List Tok → X → List Tok → Type 0) (ts : List Tok) (xs ys : List X) (mid rest : List Tok)
    → More m Is ts xs mid → More m Is mid ys rest → More m Is ts (xs ++ ys) rest
more_append m Is ts [] ys mid rest h k = subst (λ (z : List Tok). More m Is z ys rest) (sym h) k
more_append m Is ts (x ∷ xs) ys mid rest (a, next, behind, e, is, more) k = (a, next, behind, e, is, more_append m Is behind xs ys mid rest more k)

listed_more : {X : Type 0} (m : ℕ) (Is : List Tok → X → List Tok → Type 0) (a : Bool) (next : List Tok) (ys : List X) (rest : List Tok)
    → Listed m Is next ys rest → More m Is (mark a m ∷ next) ys rest
listed_more m Is a next [] rest h = absurd h
listed_more m Is a next (y ∷ ys) rest (mid, is, more) = (a, next, mid, refl, is, more)

listed_append : {X : Type 0} (m : ℕ) (Is : List Tok → X → List Tok → Type 0) (a : Bool) (ts next : List Tok) (xs ys : List X) (rest : List Tok)
    → Listed m Is ts xs (mark a m ∷ next) → Listed m Is next ys rest → Listed m Is ts (xs ++ ys) rest
listed_append m Is a ts next [] ys rest h k = absurd h
listed_append m Is a ts next (x ∷ xs) ys rest (mid, is, more) k =
    (mid, is, more_append m Is mid xs ys (mark a m ∷ next) rest more (listed_more m Is a next ys rest k))

-- ---- blanks before the first token do not matter

record Frees {X : Type 0} (Is : List Tok → X → List Tok → Type 0) : Type 0 where
  spaces : (ts : List Tok) (x : X) (rest : List Tok) → Is ts x rest → Is (spaced ts) x rest
  some : (x : X) (rest : List Tok) → Is [] x rest → ⊥

item_frees : (form : List ℕ → Bool) → Frees (SpellsItem form)
item_frees form = record {
  spaces = λ ts s rest g. record { spaced = true; bangs = g.bangs; toks = ap spaced g.toks; item = g.item; sign = g.sign };
  some = λ s rest g. let is = g.toks in cc;
}

listed_spaces : {X : Type 0} (m : ℕ) (Is : List Tok → X → List Tok → Type 0) → Frees Is
    → (ts : List Tok) (xs : List X) (rest : List Tok) → Listed m Is ts xs rest → Listed m Is (spaced ts) xs rest
listed_spaces m Is f ts [] rest h = h
listed_spaces m Is f ts (x ∷ xs) rest (mid, is, more) = (mid, f.spaces ts x mid is, more)

listed_some : {X : Type 0} (m : ℕ) (Is : List Tok → X → List Tok → Type 0) → Frees Is → (xs : List X) (rest : List Tok) → Listed m Is [] xs rest → ⊥
listed_some m Is f [] rest h = h
listed_some m Is f (x ∷ xs) rest (mid, is, more) = f.some x mid is

part_frees : Frees SpellsPart
part_frees = record {
  spaces = λ ts p rest g. record {
    spaced = g.spaced;
    next = g.next;
    hosts = listed_spaces comma (SpellsItem is_host_name) (item_frees is_host_name) ts p.hosts (mark g.spaced equals ∷ g.next) g.hosts;
    specs = g.specs;
  };
  some = λ p rest g. listed_some comma (SpellsItem is_host_name) (item_frees is_host_name) p.hosts (mark g.spaced equals ∷ g.next) g.hosts;
}

def_frees : {X : Type 0} (Is : List Tok → Signed X → List Tok → Type 0) → Frees (SpellsDef Is)
def_frees Is = record {
  spaces = λ ts d rest g. record { name_spaced = true; spaced = g.spaced; next = g.next; toks = ap spaced g.toks; name = g.name; list = g.list };
  some = λ d rest g. let is = g.toks in cc;
}

begins : {X : Type 0} (m : ℕ) (Is : List Tok → X → List Tok → Type 0) → Frees Is
    → (ts : List Tok) (xs : List X) (rest : List Tok) → Listed m Is ts xs rest → begins_spaced (spaced ts) ≡ true
begins m Is f [] xs rest h = absurd (listed_some m Is f xs rest h)
begins m Is f (word a n w ∷ ts) xs rest h = refl
begins m Is f (mark a k ∷ ts) xs rest h = refl

-- ---- two lists with `:` between, behind a blank

record IsTail {X : Type 0} (Is : List Tok → X → List Tok → Type 0) (bytes : List ℕ) (xs : List X) : Type 0 where
  toks : List Tok
  lexes : Lexes (space ∷ bytes) toks
  begins_so : begins_spaced toks ≡ true
  listed : Listed colon Is toks xs []

tail_of : {X : Type 0} (Is : List Tok → X → List Tok → Type 0) → Frees Is
    → (bytes : List ℕ) (ts : List Tok) (xs : List X) → Lexes bytes ts → Listed colon Is ts xs [] → IsTail Is bytes xs
tail_of Is f bytes ts xs lexes listed = record {
  toks = spaced ts;
  lexes = lex_spaced bytes ts lexes;
  begins_so = begins colon Is f ts xs [] listed;
  listed = listed_spaces colon Is f ts xs [] listed;
}

both_tails : {X : Type 0} (Is : List Tok → X → List Tok → Type 0) → Grows Is → (p q : List ℕ) (xs ys : List X)
    → IsTail Is p xs → IsTail Is q ys → IsTail Is (p ++ codes " : " ++ q) (xs ++ ys)
both_tails Is grows p q xs ys a b = record {
  toks = a.toks ++ mark true colon ∷ b.toks;
  lexes =
      subst (λ (x : List ℕ). Lexes (space ∷ x) (a.toks ++ mark true colon ∷ b.toks)) (sym (append_assoc p (codes " : ") q))
      (lex_behind (space ∷ p) (colon ∷ space ∷ q) a.toks (mark true colon ∷ b.toks) a.lexes (space ∷ [], space ∷ q, (refl, tt), refl, refl, refl, b.lexes));
  begins_so = begins_grows a.toks (mark true colon ∷ b.toks) a.begins_so;
  listed = listed_append colon Is true (a.toks ++ mark true colon ∷ b.toks) b.toks xs ys []
      (listed_grows colon Is grows a.toks xs [] (mark true colon ∷ b.toks) a.listed) b.listed;
}

-- ---- lines

both : (begin p q : List ℕ) (first second whole : List Entry) → SpellsLine (begin ++ space ∷ p) first → SpellsLine (begin ++ space ∷ q) second
    → SpellsLine (begin ++ space ∷ (p ++ codes " : " ++ q)) whole → whole ≡ first ++ second → SpellsBoth begin p q
both begin p q first second whole one two three same a b of_a of_b =
    let is_a = line_one (begin ++ space ∷ p) first a one of_a in
    let is_b = line_one (begin ++ space ∷ q) second b two of_b in
    subst (SpellsLine (begin ++ space ∷ (p ++ codes " : " ++ q)))
    (same ∙ ap (λ (x : List Entry). x ++ second) is_a ∙ ap (λ (x : List Entry). a ++ x) is_b) three

some_entries : (ts : List Tok) (line : Line) → (ts ≡ [] → ⊥) → SpellsTree ts line → SpellsEntries ts (entries_of line)
some_entries [] line some h = absurd (some refl)
some_entries (t ∷ ts) line some h = (line, h, refl)

users_some : (ts us : List Tok) (users : List (Signed (Item (List ℕ)))) (rest : List Tok) → Users ts users rest → ts ++ us ≡ [] → ⊥
users_some [] us users rest h e = listed_some comma (SpellsItem is_name) (item_frees is_name) users rest h
users_some (t ∷ ts) us users rest h e = cc

user_spec_line : (u p : List ℕ) (users : List (Signed (Item (List ℕ)))) (parts : List Part) → AreUsers u users
    → IsTail SpellsPart p parts → SpellsLine (u ++ space ∷ p) (entries_of (lines.UserSpec users parts))
user_spec_line u p users parts (ts, lexes, are) t = (
  ts ++ t.toks,
  lex_behind u p ts t.toks lexes t.lexes,
  some_entries (ts ++ t.toks) (lines.UserSpec users parts) (users_some ts t.toks users [] are)
      (t.toks, listed_grows comma (SpellsItem is_name) (item_grows is_name) ts users [] t.toks are, t.begins_so, t.listed),
)

pub parts_apart : (u p q : List ℕ) (users : List (Signed (Item (List ℕ)))) (ps qs : List Part)
    → AreUsers u users → AreColonParts p ps → AreColonParts q qs → SpellsBoth u p q
parts_apart u p q users ps qs are (tp, lex_p, list_p) (tq, lex_q, list_q) =
    let a = tail_of SpellsPart part_frees p tp ps lex_p list_p in
    let b = tail_of SpellsPart part_frees q tq qs lex_q list_q in
    both u p q (entries_of (lines.UserSpec users ps)) (entries_of (lines.UserSpec users qs))
    (entries_of (lines.UserSpec users (ps ++ qs))) (user_spec_line u p users ps are a) (user_spec_line u q users qs are b)
    (user_spec_line u (p ++ codes " : " ++ q) users (ps ++ qs) are (both_tails SpellsPart part_grows p q ps qs a b)) (flat_map-append (part_rules users) ps qs)

-- a line of definitions, by its kind
record IsKind {X : Type 0} (kind : List ℕ) (Is : List Tok → Signed X → List Tok
    → Type 0) (line : List (Definition X) → Line) (entry : Definition X → Entry) : Type 0 where
  lexes : Lexes kind (word false 0 kind ∷ [])
  tree : (ts : List Tok) (defs : List (Definition X)) → SpellsAliases kind Is ts defs → SpellsTree ts (line defs)
  are : (defs : List (Definition X)) → entries_of (line defs) ≡ map entry defs

defs_line : {X : Type 0} (kind : List ℕ) (Is : List Tok → Signed X → List Tok → Type 0) (line : List (Definition X) → Line) (entry : Definition X → Entry)
    → IsKind kind Is line entry
    → (d : List ℕ) (defs : List (Definition X)) → IsTail (SpellsDef Is) d defs → SpellsLine (kind ++ space ∷ d) (entries_of (line defs))
defs_line kind Is line entry k d defs t = (
  word false 0 kind ∷ t.toks,
  lex_behind kind d (word false 0 kind ∷ []) t.toks k.lexes t.lexes,
  (line defs, k.tree (word false 0 kind ∷ t.toks) defs (false, t.toks, refl, t.begins_so, t.listed), refl),
)

defs_apart : {X : Type 0} (kind : List ℕ) (Is : List Tok → Signed X → List Tok → Type 0) (line : List (Definition X) → Line) (entry : Definition X → Entry)
    → IsKind kind Is line entry → Grows Is → (d e : List ℕ) (defs others : List (Definition X)) → AreDefs Is d defs → AreDefs Is e others → SpellsBoth kind d e
defs_apart kind Is line entry k grows d e defs others (td, lex_d, list_d) (te, lex_e, list_e) =
    let a = tail_of (SpellsDef Is) (def_frees Is) d td defs lex_d list_d in
    let b = tail_of (SpellsDef Is) (def_frees Is) e te others lex_e list_e in
    both kind d e (entries_of (line defs)) (entries_of (line others))
    (entries_of (line (defs ++ others))) (defs_line kind Is line entry k d defs a) (defs_line kind Is line entry k e others b)
    (defs_line kind Is line entry k (d ++ codes " : " ++ e) (defs ++ others) (both_tails (SpellsDef Is) (def_grows Is grows) d e defs others a b))
    (k.are (defs ++ others) ∙ map-append entry defs others ∙ ap (λ (x : List Entry). x ++ map entry others) (sym (k.are defs))
    ∙ ap (λ (x : List Entry). entries_of (line defs) ++ x) (sym (k.are others)))

pub users_apart : (d e : List ℕ) (defs others : List (Definition (Item (List ℕ))))
    → AreDefs (SpellsItem is_name) d defs → AreDefs (SpellsItem is_name) e others → SpellsBoth (codes "User_Alias") d e
users_apart =
    defs_apart (codes "User_Alias") (SpellsItem is_name) lines.Users (λ d. entries.UserAlias d.name d.list)
    (record { lexes = lexed (word false 0 (codes "User_Alias") ∷ []) [] refl; tree = λ ts defs h. h; are = λ defs. refl }) (item_grows is_name)

pub runas_apart : (d e : List ℕ) (defs others : List (Definition (Item (List ℕ))))
    → AreDefs (SpellsItem is_name) d defs → AreDefs (SpellsItem is_name) e others → SpellsBoth (codes "Runas_Alias") d e
runas_apart =
    defs_apart (codes "Runas_Alias") (SpellsItem is_name) lines.Runas (λ d. entries.RunasAlias d.name d.list)
    (record { lexes = lexed (word false 0 (codes "Runas_Alias") ∷ []) [] refl; tree = λ ts defs h. h; are = λ defs. refl }) (item_grows is_name)

pub hosts_apart : (d e : List ℕ) (defs others : List (Definition (Item (List ℕ)))) → AreDefs (SpellsItem is_host_name) d defs
    → AreDefs (SpellsItem is_host_name) e others → SpellsBoth (codes "Host_Alias") d e
hosts_apart =
    defs_apart (codes "Host_Alias") (SpellsItem is_host_name) lines.Hosts (λ d. entries.HostAlias d.name d.list)
    (record { lexes = lexed (word false 0 (codes "Host_Alias") ∷ []) [] refl; tree = λ ts defs h. h; are = λ defs. refl }) (item_grows is_host_name)

pub cmnds_apart : (d e : List ℕ) (defs others : List (Definition CmndItem))
    → AreDefs SpellsCmnd d defs → AreDefs SpellsCmnd e others → SpellsBoth (codes "Cmnd_Alias") d e
cmnds_apart =
    defs_apart (codes "Cmnd_Alias") SpellsCmnd lines.Cmnds (λ d. entries.CmndAlias d.name d.list)
    (record { lexes = lexed (word false 0 (codes "Cmnd_Alias") ∷ []) [] refl; tree = λ ts defs h. h; are = λ defs. refl }) cmnd_grows

-- A text spells one policy: what stands in it is read in one way, from the tokens of a line up to its lines.
use Rattle.std.proofs.Common.{◌≡◌, ℕ, Bool, false, List, [], ◌∷◌, ◌++◌, refl, sym, ap, subst, ◌∙◌, inl, inr, arith}
use Rattle.std.specs.Prelude.{codes}
use Rattle.std.specs.Str.{bytes_eq}
use Rattle.std.proofs.lemmas.Bool.{false≢true}
use Rattle.std.proofs.lemmas.Slice.Eq.{bytes_eq-Decides}
use Rattle.sudo_words.specs.Bytes.{equals, comma, colon}
use Rattle.sudo_words.specs.Word.{is_name, is_host_name, is_alias_name}
use Rattle.sudo_policy.specs.declared.entry.Signed.{Signed}
use Rattle.sudo_policy.specs.declared.entry.Item.{Item}
use Rattle.sudo_policy.specs.declared.entry.Item.TheVariants as items
use Rattle.sudo_policy.specs.declared.entry.CmndItem.{CmndItem}
use Rattle.sudo_policy.specs.declared.entry.Entry.{Entry}
use Rattle.sudo_policy.specs.declared.tree.Definition.{Definition}
use Rattle.sudo_policy.specs.declared.tree.CmndSpec.{CmndSpec}
use Rattle.sudo_policy.specs.declared.tree.Part.{Part}
use Rattle.sudo_policy.specs.declared.tree.Line.{Line}
use Rattle.sudo_policy.specs.declared.tree.Line.TheVariants as lines
use Rattle.sudo_policy.specs.Lex.{Tok, word, mark}
use Rattle.sudo_policy.specs.Printing.{item_text}
use Rattle.sudo_policy.specs.Policy.{IsItem}
use Rattle.sudo_policy.specs.Grammar.{Listed, SpellsItem, SpellsCmnd, SpellsCmndSpec, SpellsPart, SpellsDef, SpellsAliases, SpellsUserSpec, SpellsTree}
use Rattle.sudo_policy.specs.Inheritance.{entries_of}
use Rattle.sudo_policy.specs.Lines.{lines_of}
use Rattle.sudo_policy.specs.Spelling.{SpellsEntries, SpellsLine, SpellsLines, Spells}
use Rattle.sudo_policy.proofs.Lexing.{lex_one}
use Rattle.sudo_policy.proofs.LineTexts.{joined_one}
use Rattle.sudo_policy.proofs.ListTexts.{IsOne, listed_one}
use Rattle.sudo_policy.proofs.ItemTexts.{user_form, host_form, EndsCmnd, spelled_cmnd_one}
use Rattle.sudo_policy.proofs.SpecTexts.{NotMark, BeginsWord, word_no_mark, items_one, spec_one}

-- ---- parts and definitions

-- what may follow a part or a definition: nothing or `:`
abbrev EndsPart : List Tok → Type 0
EndsPart [] = Unit {0}
EndsPart (word a n w ∷ ts) = ⊥
EndsPart (mark a m ∷ ts) = m ≡ colon

part_no_comma : (a : Bool) (next : List Tok) → EndsPart (mark a comma ∷ next) → ⊥
part_no_comma a next h = absurd (omega arith)

part_ends_cmnd : (ts : List Tok) → EndsPart ts → EndsCmnd ts
part_ends_cmnd [] h = tt
part_ends_cmnd (word a n w ∷ ts) h = absurd h
part_ends_cmnd (mark a m ∷ ts) h = inr h

not_own_mark : (m : ℕ) (a : Bool) (next : List Tok) → NotMark m (mark a m ∷ next) → ⊥
not_own_mark m a next h = h refl

specs_one : IsOne (Listed comma SpellsCmndSpec) EndsPart
specs_one = listed_one comma SpellsCmndSpec EndsCmnd EndsPart (λ a next. inl refl) part_ends_cmnd part_no_comma spec_one

part_of : List (Signed (Item (List ℕ))) → List CmndSpec → Part
part_of hosts specs = record { hosts = hosts; specs = specs }

part_one : IsOne SpellsPart EndsPart
unfolding part_of
part_one ts p q r s g h n k =
    let hosts = items_one is_host_name host_form (NotMark comma) (not_own_mark comma) ts p.hosts q.hosts
    (mark g.spaced equals ∷ g.next) (mark h.spaced equals ∷ h.next) g.hosts h.hosts (λ e. omega arith) (λ e. omega arith) in
    let behind = hosts.1 in
    let next : g.next ≡ h.next = cc in
    let specs = specs_one h.next p.specs q.specs r s (subst (λ (x : List Tok). Listed comma SpellsCmndSpec x p.specs r) next g.specs) h.specs n k in
    let same : part_of p.hosts p.specs ≡ part_of q.hosts q.specs = ap (λ x. part_of x p.specs) hosts.0 ∙ ap (λ x. part_of q.hosts x) specs.0 in
    (same, specs.1)

def_of : {X : Type 0} → List ℕ → List (Signed X) → Definition X
def_of name list = record { name = name; list = list }

def_one : {X : Type 0} (Is : List Tok → Signed X → List Tok → Type 0) → IsOne (Listed comma Is) EndsPart → IsOne (SpellsDef Is) EndsPart
unfolding def_of
def_one {X} Is one ts d e r s g h n k =
    let both = sym g.toks ∙ h.toks in
    let name : d.name ≡ e.name = cc in
    let next : g.next ≡ h.next = cc in
    let list = one h.next d.list e.list r s (subst (λ (x : List Tok). Listed comma Is x d.list r) next g.list) h.list n k in
    let same : def_of d.name d.list ≡ def_of e.name e.list = ap (λ (x : List ℕ). def_of x d.list) name ∙ ap (λ (x : List (Signed X)). def_of e.name x) list.0 in
    (same, list.1)

-- a list with `:` between, to the end of the line
whole_one : {X : Type 0} (Is : List Tok → X → List Tok → Type 0) → IsOne Is EndsPart
    → (ts : List Tok) (xs ys : List X) → Listed colon Is ts xs [] → Listed colon Is ts ys [] → xs ≡ ys
whole_one Is one ts xs ys g h =
    (listed_one colon Is EndsPart (λ (r : List Tok). r ≡ []) (λ a next. refl)
    (λ r e. subst EndsPart (sym e) tt) (λ a next e. absurd cc) one ts xs ys [] [] g h refl refl).0

-- ---- lines

aliases_one : {X : Type 0} (kind : List ℕ) (Is : List Tok → Signed X → List Tok → Type 0) → IsOne (Listed comma Is) EndsPart
    → (ts : List Tok) (ds es : List (Definition X)) → SpellsAliases kind Is ts ds → SpellsAliases kind Is ts es → ds ≡ es
aliases_one {X} kind Is one ts ds es g h =
    let both = sym g.2 ∙ h.2 in
    let next : g.1 ≡ h.1 = cc in
    whole_one (SpellsDef Is) (def_one Is one) h.1 ds es (subst (λ (x : List Tok). Listed colon (SpellsDef Is) x ds []) next g.4) h.4

users_items_one : IsOne (Listed comma (SpellsItem is_name)) EndsPart
users_items_one = items_one is_name user_form EndsPart part_no_comma

hosts_items_one : IsOne (Listed comma (SpellsItem is_host_name)) EndsPart
hosts_items_one = items_one is_host_name host_form EndsPart part_no_comma

cmnds_items_one : IsOne (Listed comma SpellsCmnd) EndsPart
cmnds_items_one = listed_one comma SpellsCmnd EndsCmnd EndsPart (λ a next. inl refl) part_ends_cmnd part_no_comma spelled_cmnd_one

items_word : (form : List ℕ → Bool) (ts : List Tok) (xs : List (Signed (Item (List ℕ)))) (r : List Tok) → Listed comma (SpellsItem form) ts xs r → BeginsWord ts
items_word form ts [] r g = absurd g
items_word form ts (x ∷ xs) r g = subst BeginsWord (sym (g.1).toks) tt

parts_word : (ts : List Tok) (parts : List Part) (r : List Tok) → Listed colon SpellsPart ts parts r → BeginsWord ts
parts_word ts [] r g = absurd g
parts_word ts (p ∷ parts) r g = items_word is_host_name ts p.hosts (mark (g.1).spaced equals ∷ (g.1).next) (g.1).hosts

user_spec_one : (ts : List Tok) (us vs : List (Signed (Item (List ℕ)))) (ps qs : List Part)
    → SpellsUserSpec ts us ps → SpellsUserSpec ts vs qs → lines.UserSpec us ps ≡ lines.UserSpec vs qs
user_spec_one ts us vs ps qs g h =
    let users = items_one is_name user_form (NotMark comma) (not_own_mark comma) ts us vs g.0 h.0 g.1 h.1
    (word_no_mark comma g.0 (parts_word g.0 ps [] g.3)) (word_no_mark comma h.0 (parts_word h.0 qs [] h.3)) in
    let parts = whole_one SpellsPart part_one h.0 ps qs (subst (λ (x : List Tok). Listed colon SpellsPart x ps []) users.1 g.3) h.3 in
    ap (λ (x : List (Signed (Item (List ℕ)))). lines.UserSpec x ps) users.0 ∙ ap (λ (x : List Part). lines.UserSpec vs x) parts

-- ---- the word that a line begins with tells its kind

kinds_same : {X Y : Type 0} (k l : List ℕ) (Is : List Tok → Signed X → List Tok → Type 0) (Js : List Tok → Signed Y → List Tok
    → Type 0) (ts : List Tok) (ds : List (Definition X)) (es : List (Definition Y)) → SpellsAliases k Is ts ds → SpellsAliases l Js ts es → k ≡ l
kinds_same k l Is Js ts ds es g h = let both = sym g.2 ∙ h.2 in cc

kinds_differ : (k l : List ℕ) → bytes_eq k l ≡ false → k ≡ l → ⊥
kinds_differ k l h e = false≢true (sym h ∙ (bytes_eq-Decides k l).1 e)

-- a word that is not the text of any item
record IsKind (kind : List ℕ) : Type 0 where
  pub all : codes "ALL" ≡ kind → ⊥
  pub name : is_name kind ≡ false
  pub alias : is_alias_name kind ≡ false

kind_no_item : (kind : List ℕ) → IsKind kind → (i : Item (List ℕ)) → IsItem is_name i → item_text i ≡ kind → ⊥
kind_no_item kind k items.All h e = k.all e
kind_no_item kind k (items.Name n) h e = false≢true (sym k.name ∙ ap is_name (sym e) ∙ h)
kind_no_item kind k (items.Alias n) h e = false≢true (sym k.alias ∙ ap is_alias_name (sym e) ∙ h)

kind_no_user_spec : {X : Type 0} (kind : List ℕ) → IsKind kind
    → (Is : List Tok → Signed X → List Tok → Type 0) (ts : List Tok) (ds : List (Definition X)) (us : List (Signed (Item (List ℕ)))) (ps : List Part)
    → SpellsAliases kind Is ts ds → SpellsUserSpec ts us ps → ⊥
kind_no_user_spec kind k Is ts ds [] ps g h = absurd h.1
kind_no_user_spec kind k Is ts ds (u ∷ us) ps g h =
    let first = h.1.1 in
    let both = sym first.toks ∙ g.2 in
    let text : item_text u.item ≡ kind = cc in
    kind_no_item kind k u.item first.item text

user_kind : IsKind (codes "User_Alias")
user_kind = record { all = λ e. absurd cc; name = refl; alias = refl }

runas_kind : IsKind (codes "Runas_Alias")
runas_kind = record { all = λ e. absurd cc; name = refl; alias = refl }

host_kind : IsKind (codes "Host_Alias")
host_kind = record { all = λ e. absurd cc; name = refl; alias = refl }

cmnd_kind : IsKind (codes "Cmnd_Alias")
cmnd_kind = record { all = λ e. absurd cc; name = refl; alias = refl }

-- tokens spell one tree
pub tree_one : (ts : List Tok) (a b : Line) → SpellsTree ts a → SpellsTree ts b → a ≡ b
tree_one ts (lines.Users ds) (lines.Users es) g h =
    ap (λ (xs : List (Definition (Item (List ℕ)))). lines.Users xs) (aliases_one (codes "User_Alias") (SpellsItem is_name) users_items_one ts ds es g h)
tree_one ts (lines.Users ds) (lines.Runas es) g h = absurd (kinds_differ (codes "User_Alias") (codes "Runas_Alias") refl
    (kinds_same (codes "User_Alias") (codes "Runas_Alias") (SpellsItem is_name) (SpellsItem is_name) ts ds es g h))
tree_one ts (lines.Users ds) (lines.Hosts es) g h = absurd (kinds_differ (codes "User_Alias") (codes "Host_Alias") refl
    (kinds_same (codes "User_Alias") (codes "Host_Alias") (SpellsItem is_name) (SpellsItem is_host_name) ts ds es g h))
tree_one ts (lines.Users ds) (lines.Cmnds es) g h = absurd (kinds_differ (codes "User_Alias") (codes "Cmnd_Alias") refl
    (kinds_same (codes "User_Alias") (codes "Cmnd_Alias") (SpellsItem is_name) SpellsCmnd ts ds es g h))
tree_one ts (lines.Users ds) (lines.UserSpec us ps) g h = absurd (kind_no_user_spec (codes "User_Alias") user_kind (SpellsItem is_name) ts ds us ps g h)
tree_one ts (lines.Runas ds) (lines.Users es) g h = absurd (kinds_differ (codes "Runas_Alias") (codes "User_Alias") refl
    (kinds_same (codes "Runas_Alias") (codes "User_Alias") (SpellsItem is_name) (SpellsItem is_name) ts ds es g h))
tree_one ts (lines.Runas ds) (lines.Runas es) g h =
    ap (λ (xs : List (Definition (Item (List ℕ)))). lines.Runas xs) (aliases_one (codes "Runas_Alias") (SpellsItem is_name) users_items_one ts ds es g h)
tree_one ts (lines.Runas ds) (lines.Hosts es) g h = absurd (kinds_differ (codes "Runas_Alias") (codes "Host_Alias") refl
    (kinds_same (codes "Runas_Alias") (codes "Host_Alias") (SpellsItem is_name) (SpellsItem is_host_name) ts ds es g h))
tree_one ts (lines.Runas ds) (lines.Cmnds es) g h = absurd (kinds_differ (codes "Runas_Alias") (codes "Cmnd_Alias") refl
    (kinds_same (codes "Runas_Alias") (codes "Cmnd_Alias") (SpellsItem is_name) SpellsCmnd ts ds es g h))
tree_one ts (lines.Runas ds) (lines.UserSpec us ps) g h = absurd (kind_no_user_spec (codes "Runas_Alias") runas_kind (SpellsItem is_name) ts ds us ps g h)
tree_one ts (lines.Hosts ds) (lines.Users es) g h = absurd (kinds_differ (codes "Host_Alias") (codes "User_Alias") refl
    (kinds_same (codes "Host_Alias") (codes "User_Alias") (SpellsItem is_host_name) (SpellsItem is_name) ts ds es g h))
tree_one ts (lines.Hosts ds) (lines.Runas es) g h = absurd (kinds_differ (codes "Host_Alias") (codes "Runas_Alias") refl
    (kinds_same (codes "Host_Alias") (codes "Runas_Alias") (SpellsItem is_host_name) (SpellsItem is_name) ts ds es g h))
tree_one ts (lines.Hosts ds) (lines.Hosts es) g h =
    ap (λ (xs : List (Definition (Item (List ℕ)))). lines.Hosts xs) (aliases_one (codes "Host_Alias") (SpellsItem is_host_name) hosts_items_one ts ds es g h)
tree_one ts (lines.Hosts ds) (lines.Cmnds es) g h = absurd (kinds_differ (codes "Host_Alias") (codes "Cmnd_Alias") refl
    (kinds_same (codes "Host_Alias") (codes "Cmnd_Alias") (SpellsItem is_host_name) SpellsCmnd ts ds es g h))
tree_one ts (lines.Hosts ds) (lines.UserSpec us ps) g h = absurd (kind_no_user_spec (codes "Host_Alias") host_kind (SpellsItem is_host_name) ts ds us ps g h)
tree_one ts (lines.Cmnds ds) (lines.Users es) g h = absurd (kinds_differ (codes "Cmnd_Alias") (codes "User_Alias") refl
    (kinds_same (codes "Cmnd_Alias") (codes "User_Alias") SpellsCmnd (SpellsItem is_name) ts ds es g h))
tree_one ts (lines.Cmnds ds) (lines.Runas es) g h = absurd (kinds_differ (codes "Cmnd_Alias") (codes "Runas_Alias") refl
    (kinds_same (codes "Cmnd_Alias") (codes "Runas_Alias") SpellsCmnd (SpellsItem is_name) ts ds es g h))
tree_one ts (lines.Cmnds ds) (lines.Hosts es) g h = absurd (kinds_differ (codes "Cmnd_Alias") (codes "Host_Alias") refl
    (kinds_same (codes "Cmnd_Alias") (codes "Host_Alias") SpellsCmnd (SpellsItem is_host_name) ts ds es g h))
tree_one ts (lines.Cmnds ds) (lines.Cmnds es) g h =
    ap (λ (xs : List (Definition CmndItem)). lines.Cmnds xs) (aliases_one (codes "Cmnd_Alias") SpellsCmnd cmnds_items_one ts ds es g h)
tree_one ts (lines.Cmnds ds) (lines.UserSpec us ps) g h = absurd (kind_no_user_spec (codes "Cmnd_Alias") cmnd_kind SpellsCmnd ts ds us ps g h)
tree_one ts (lines.UserSpec us ps) (lines.Users es) g h = absurd (kind_no_user_spec (codes "User_Alias") user_kind (SpellsItem is_name) ts es us ps h g)
tree_one ts (lines.UserSpec us ps) (lines.Runas es) g h = absurd (kind_no_user_spec (codes "Runas_Alias") runas_kind (SpellsItem is_name) ts es us ps h g)
tree_one ts (lines.UserSpec us ps) (lines.Hosts es) g h = absurd (kind_no_user_spec (codes "Host_Alias") host_kind (SpellsItem is_host_name) ts es us ps h g)
tree_one ts (lines.UserSpec us ps) (lines.Cmnds es) g h = absurd (kind_no_user_spec (codes "Cmnd_Alias") cmnd_kind SpellsCmnd ts es us ps h g)
tree_one ts (lines.UserSpec us ps) (lines.UserSpec vs qs) g h = user_spec_one ts us vs ps qs g h

-- ---- lines and texts

entries_one : (ts : List Tok) (a b : List Entry) → SpellsEntries ts a → SpellsEntries ts b → a ≡ b
entries_one [] a b g h = g ∙ sym h
entries_one (t ∷ ts) a b g h = g.2 ∙ ap entries_of (tree_one (t ∷ ts) g.0 h.0 g.1 h.1) ∙ sym h.2

pub line_one : (line : List ℕ) (a b : List Entry) → SpellsLine line a → SpellsLine line b → a ≡ b
line_one line a b g h = entries_one h.0 a b (subst (λ (ts : List Tok). SpellsEntries ts a) (lex_one line g.0 h.0 g.1 h.1) g.2) h.2

pub lines_one : (lines : List (List ℕ)) (a b : List Entry) → SpellsLines lines a → SpellsLines lines b → a ≡ b
lines_one [] a b g h = g ∙ sym h
lines_one (line ∷ lines) a b g h =
    let here = line_one line g.0 h.0 g.2 h.2 in
    let rest = lines_one lines g.1 h.1 g.4 h.4 in
    g.3 ∙ ap (λ (es : List Entry). es ++ g.1) here ∙ ap (λ (es : List Entry). h.0 ++ es) rest ∙ sym h.3

-- no text spells two policies
pub text_one : (text : List ℕ) (a b : List Entry) → Spells text a → Spells text b → a ≡ b
text_one text a b g h =
    lines_one h.joined a b (subst (λ (ls : List (List ℕ)). SpellsLines ls a) (joined_one (lines_of text) g.joined h.joined g.lines h.lines) g.entries) h.entries

-- Items and commands are read in one way: names, aliases, `ALL` and paths differ by their first bytes.
use Rattle.std.proofs.Common.{◌≡◌, ℕ, suc, ◌-◌, ◌≤◌, ◌⊎◌, Bool, true, false, eqb, leb, not, ◌&&◌, ◌||◌}
use Rattle.std.proofs.Common.{List, [], ◌∷◌, ◌++◌, length, take, refl, sym, ap, ◌∙◌, inl, inr, arith}
use Rattle.std.specs.Prelude.{codes}
use Rattle.std.specs.List.{AllByRecursion, list_all}
use Rattle.std.proofs.lemmas.Bool.{and_parts, false≢true}
use Rattle.std.proofs.lemmas.Bool.Decides.{nat_tests}
use Rattle.sudo_words.specs.Bytes.{comma, colon, quote}
use Rattle.sudo_words.specs.Word.{is_lower, is_upper, is_name, is_name_byte, is_host_name, is_host_byte, is_alias_name}
use Rattle.sudo_words.specs.Word.{is_alias_shape, is_alias_byte, is_reserved, are_components, is_absolute, is_arg}
use Rattle.sudo_words.specs.Command.{IsHead, IsArgRule, arg_text, head_text, rule_of}
use Rattle.sudo_words.specs.declared.cmnd.Cmnd.{Cmnd}
use Rattle.sudo_words.specs.declared.cmnd.Cmnd.TheVariants as commands
use Rattle.sudo_words.specs.declared.cmnd.ArgRule.{ArgRule}
use Rattle.sudo_words.specs.declared.cmnd.ArgRule.TheVariants.{Any, Empty, Exactly}
use Rattle.sudo_words.proofs.ArgLemmas.{same_arg}
use Rattle.sudo_words.proofs.NameLemmas.{name_shape, host_shape}
use Rattle.sudo_words.proofs.PathLemmas.{dir_parts}
use Rattle.sudo_words.proofs.CommandLemmas.{same_command}
use Rattle.sudo_policy.specs.declared.entry.Signed.{Signed}
use Rattle.sudo_policy.specs.declared.entry.Item.{Item}
use Rattle.sudo_policy.specs.declared.entry.Item.TheVariants as items
use Rattle.sudo_policy.specs.declared.entry.CmndItem.{CmndItem}
use Rattle.sudo_policy.specs.declared.entry.CmndItem.TheVariants as cmnds
use Rattle.sudo_policy.specs.Lex.{Tok, word, mark}
use Rattle.sudo_policy.specs.Printing.{item_text}
use Rattle.sudo_policy.specs.Policy.{IsItem, IsCmndItem}
use Rattle.sudo_policy.specs.Grammar.{is_odd, SpellsItem, SpellsCmnd, rule_toks, head_of, args_of}
use Rattle.sudo_policy.proofs.ListTexts.{IsOne}

-- ---- names and aliases

start_differs : (b : ℕ) → (is_lower b || eqb b 95) ≡ true → is_upper b ≡ true → ⊥
start_differs b h k = grind (arith, nat_tests)

lower_differs : (b : ℕ) → is_lower b ≡ true → is_upper b ≡ true → ⊥
lower_differs b h k = grind (arith, nat_tests)

slash_differs : (b : ℕ) → eqb b 47 ≡ true → is_upper b ≡ true → ⊥
slash_differs b h k = grind (arith, nat_tests)

alias_shape : (w : List ℕ) → is_alias_name w ≡ true → is_alias_shape w ≡ true
alias_shape w h = (and_parts (is_alias_shape w) (not (is_reserved w)) h).0

alias_start : (b : ℕ) (bs : List ℕ) → is_alias_shape (b ∷ bs) ≡ true → is_upper b ≡ true
alias_start b bs h =
    let all = and_parts (is_upper b && list_all is_alias_byte bs) (leb (length (b ∷ bs)) 32) h in
    (and_parts (is_upper b) (list_all is_alias_byte bs) all.0).0

pub all_no_alias : is_alias_name (codes "ALL") ≡ false
unfolding is_reserved
all_no_alias = refl

-- a form of names: neither `ALL` nor an alias has it
pub record IsForm (form : List ℕ → Bool) : Type 0 where
  pub all : form (codes "ALL") ≡ false
  pub alias : (w : List ℕ) → form w ≡ true → is_alias_shape w ≡ true → ⊥

name_no_alias : (w : List ℕ) → is_name w ≡ true → is_alias_shape w ≡ true → ⊥
name_no_alias [] h k = absurd cc
name_no_alias (b ∷ bs) h k =
    let all = and_parts ((is_lower b || eqb b 95) && list_all is_name_byte bs) (leb (length (b ∷ bs)) 32) (name_shape (b ∷ bs) h) in
    start_differs b (and_parts (is_lower b || eqb b 95) (list_all is_name_byte bs) all.0).0 (alias_start b bs k)

host_no_alias : (w : List ℕ) → is_host_name w ≡ true → is_alias_shape w ≡ true → ⊥
host_no_alias [] h k = absurd cc
host_no_alias (b ∷ bs) h k =
    let all = and_parts (is_lower b && list_all is_host_byte bs) (leb (length (b ∷ bs)) 32) (host_shape (b ∷ bs) h) in
    lower_differs b (and_parts (is_lower b) (list_all is_host_byte bs) all.0).0 (alias_start b bs k)

pub user_form : IsForm is_name
user_form = record { all = refl; alias = name_no_alias }

pub host_form : IsForm is_host_name
host_form = record { all = refl; alias = host_no_alias }

-- ---- items

-- a text is the text of one item at most
item_one : (form : List ℕ → Bool) → IsForm form → (i j : Item (List ℕ)) → IsItem form i → IsItem form j → item_text i ≡ item_text j → i ≡ j
item_one form f items.All items.All x y e = refl
item_one form f items.All (items.Name m) x y e = absurd (false≢true (sym f.all ∙ ap form e ∙ y))
item_one form f items.All (items.Alias m) x y e = absurd (false≢true (sym all_no_alias ∙ ap is_alias_name e ∙ y))
item_one form f (items.Name n) items.All x y e = absurd (false≢true (sym f.all ∙ ap form (sym e) ∙ x))
item_one form f (items.Name n) (items.Name m) x y e = ap (λ (w : List ℕ). items.Name w) e
item_one form f (items.Name n) (items.Alias m) x y e = absurd (f.alias m (ap form (sym e) ∙ x) (alias_shape m y))
item_one form f (items.Alias n) items.All x y e = absurd (false≢true (sym all_no_alias ∙ ap is_alias_name (sym e) ∙ x))
item_one form f (items.Alias n) (items.Name m) x y e = absurd (f.alias m y (alias_shape m (ap is_alias_name (sym e) ∙ x)))
item_one form f (items.Alias n) (items.Alias m) x y e = ap (λ (w : List ℕ). items.Alias w) e

abbrev signed : {X : Type 0} → Bool → X → Signed X
signed negated item = record { negated = negated; item = item }

pub signed_one : {X : Type 0} (s t : Signed X) → s.negated ≡ t.negated → s.item ≡ t.item → s ≡ t
signed_one {X} s t e f =
    let same : signed s.negated s.item ≡ signed t.negated t.item = ap (λ (b : Bool). signed b s.item) e ∙ ap (λ (i : X). signed t.negated i) f in
    same

pub spelled_item_one : (form : List ℕ → Bool) → IsForm form → (F : List Tok → Type 0) → IsOne (SpellsItem form) F
spelled_item_one form f F ts s t r q g h n k =
    let both = sym g.toks ∙ h.toks in
    let bangs : g.bangs ≡ h.bangs = cc in
    let text : item_text s.item ≡ item_text t.item = cc in
    let rest : r ≡ q = cc in
    (signed_one s t (g.sign ∙ ap is_odd bangs ∙ sym h.sign) (item_one form f s.item t.item g.item h.item text), rest)

-- ---- commands

-- what may follow a command: nothing, `,` or `:`
abbrev pub EndsCmnd : List Tok → Type 0
EndsCmnd [] = Unit {0}
EndsCmnd (word a n w ∷ ts) = ⊥
EndsCmnd (mark a m ∷ ts) = (m ≡ comma) ⊎ (m ≡ colon)

path_no_alias : (w : List ℕ) → is_absolute w ≡ true → is_alias_shape w ≡ true → ⊥
path_no_alias [] h k = absurd cc
path_no_alias (b ∷ bs) h k = slash_differs b (and_parts (eqb b 47) (are_components bs) h).0 (alias_start b bs k)

dir_no_alias : (w : List ℕ) → is_absolute (take (length w - 1) w) ≡ true → is_alias_shape w ≡ true → ⊥
dir_no_alias [] h k = absurd cc
dir_no_alias (b ∷ []) h k = absurd cc
dir_no_alias (b ∷ c ∷ bs) h k =
    let one : length (b ∷ c ∷ bs) - 1 ≡ suc (length bs) = omega arith in
    let front : is_absolute (b ∷ take (length bs) (c ∷ bs)) ≡ true = rw one at h in
    slash_differs b (and_parts (eqb b 47) (are_components (take (length bs) (c ∷ bs))) front).0 (alias_start b (c ∷ bs) k)

-- no alias is the head of a command
alias_no_head : (w : List ℕ) (c : Cmnd) → is_alias_name w ≡ true → IsHead c → w ≡ head_text c → ⊥
alias_no_head w commands.All h k e = false≢true (sym all_no_alias ∙ ap is_alias_name (sym e) ∙ h)
alias_no_head w (commands.Path file rule) h k e =
    path_no_alias file (and_parts (is_absolute file) (leb (length file) 4096) k.0).0 (alias_shape file (ap is_alias_name (sym e) ∙ h))
alias_no_head w (commands.Dir dir) h k e = dir_no_alias dir (dir_parts dir k.0).1 (alias_shape dir (ap is_alias_name (sym e) ∙ h))

quote_no_end : (ts next : List Tok) → EndsCmnd ts → ts ≡ mark true quote ∷ next → ⊥
quote_no_end [] next h e = absurd cc
quote_no_end (word a n w ∷ ts) next h e = absurd h
quote_no_end (mark a m ∷ ts) next (inl h) e = let same : m ≡ quote = cc in absurd (omega arith)
quote_no_end (mark a m ∷ ts) next (inr h) e = let same : m ≡ quote = cc in absurd (omega arith)

word_no_end : (ts next : List Tok) (a : Bool) (n : ℕ) (w : List ℕ) → EndsCmnd ts → ts ≡ word a n w ∷ next → ⊥
word_no_end [] next a n w h e = absurd cc
word_no_end (word b m v ∷ ts) next a n w h e = absurd h
word_no_end (mark b m ∷ ts) next a n w h e = absurd cc

arg_toks_one : (xs ys : List (List ℕ)) → AllByRecursion (λ arg. is_arg arg ≡ true) xs → AllByRecursion (λ arg. is_arg arg ≡ true) ys
    → (r s : List Tok) → EndsCmnd r → EndsCmnd s → rule_toks (Exactly xs) ++ r ≡ rule_toks (Exactly ys) ++ s → (xs ≡ ys) × (r ≡ s)
arg_toks_one [] [] x y r s n k e = (refl, e)
arg_toks_one [] (b ∷ ys) x y r s n k e = absurd (word_no_end r (rule_toks (Exactly ys) ++ s) true 0 (arg_text b) n e)
arg_toks_one (a ∷ xs) [] x y r s n k e = absurd (word_no_end s (rule_toks (Exactly xs) ++ r) true 0 (arg_text a) k (sym e))
arg_toks_one (a ∷ xs) (b ∷ ys) x y r s n k e =
    let text : arg_text a ≡ arg_text b = cc in
    let left : rule_toks (Exactly xs) ++ r ≡ rule_toks (Exactly ys) ++ s = cc in
    let more = arg_toks_one xs ys x.1 y.1 r s n k left in
    (ap (λ (z : List ℕ). z ∷ xs) (same_arg a b x.0 y.0 text) ∙ ap (λ (zs : List (List ℕ)). b ∷ zs) more.0, more.1)

-- a list of arguments is not empty
no_end_args : (args : List (List ℕ)) (r s : List Tok) → 1 ≤ length args → EndsCmnd r → r ≡ rule_toks (Exactly args) ++ s → ⊥
no_end_args [] r s h n e = omega (arith, h)
no_end_args (a ∷ args) r s h n e = word_no_end r (rule_toks (Exactly args) ++ s) true 0 (arg_text a) n e

no_quote_args : (args : List (List ℕ)) (r s : List Tok) → 1 ≤ length args → mark true quote ∷ r ≡ rule_toks (Exactly args) ++ s → ⊥
no_quote_args [] r s h e = omega (arith, h)
no_quote_args (a ∷ args) r s h e = absurd cc

rule_toks_one : (p q : ArgRule) → IsArgRule p → IsArgRule q → (r s : List Tok)
    → EndsCmnd r → EndsCmnd s → rule_toks p ++ r ≡ rule_toks q ++ s → (p ≡ q) × (r ≡ s)
rule_toks_one Any Any x y r s n k e = (refl, e)
rule_toks_one Any Empty x y r s n k e = absurd (quote_no_end r (mark false quote ∷ s) n e)
rule_toks_one Any (Exactly args) x y r s n k e = absurd (no_end_args args r s y.1 n e)
rule_toks_one Empty Any x y r s n k e = absurd (quote_no_end s (mark false quote ∷ r) k (sym e))
rule_toks_one Empty Empty x y r s n k e = (refl, cc)
rule_toks_one Empty (Exactly args) x y r s n k e = absurd (no_quote_args args (mark false quote ∷ r) s y.1 e)
rule_toks_one (Exactly args) Any x y r s n k e = absurd (no_end_args args s r x.1 k (sym e))
rule_toks_one (Exactly args) Empty x y r s n k e = absurd (no_quote_args args (mark false quote ∷ s) r x.1 (sym e))
rule_toks_one (Exactly xs) (Exactly ys) x y r s n k e =
    let both = arg_toks_one xs ys x.0 y.0 r s n k e in
    (ap (λ (args : List (List ℕ)). Exactly args) both.0, both.1)

-- a head and what follows it belong to one command at most
cmnd_item_one : (c d : CmndItem) → IsCmndItem c → IsCmndItem d → (r s : List Tok) → EndsCmnd r
    → EndsCmnd s → head_of c ≡ head_of d → args_of c ++ r ≡ args_of d ++ s → (c ≡ d) × (r ≡ s)
cmnd_item_one (cmnds.Alias v) (cmnds.Alias w) x y r s n k e f = (ap (λ (u : List ℕ). cmnds.Alias u) e, f)
cmnd_item_one (cmnds.Alias v) (cmnds.Cmnd d) x y r s n k e f = absurd (alias_no_head v d x y.head e)
cmnd_item_one (cmnds.Cmnd c) (cmnds.Alias w) x y r s n k e f = absurd (alias_no_head w c y x.head (sym e))
cmnd_item_one (cmnds.Cmnd c) (cmnds.Cmnd d) x y r s n k e f =
    let rule = rule_toks_one (rule_of c) (rule_of d) x.args y.args r s n k f in
    (ap (λ (z : Cmnd). cmnds.Cmnd z) (same_command c d x y e rule.0), rule.1)

pub spelled_cmnd_one : IsOne SpellsCmnd EndsCmnd
spelled_cmnd_one ts s t r q g h n k =
    let both = sym g.toks ∙ h.toks in
    let bangs : g.bangs ≡ h.bangs = cc in
    let head : head_of s.item ≡ head_of t.item = cc in
    let behind : args_of s.item ++ r ≡ args_of t.item ++ q = cc in
    let item = cmnd_item_one s.item t.item g.item h.item r q n k head behind in
    (signed_one s t (g.sign ∙ ap is_odd bangs ∙ sym h.sign) item.0, item.1)

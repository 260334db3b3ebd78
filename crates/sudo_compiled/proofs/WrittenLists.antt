-- Lists as they are written out, sign by sign.
use Rattle.std.proofs.Common.{◌≡◌, ℕ, ◌+◌, ◌<◌, Bool, true, false, not, ◌||◌, cond, if◌then◌else◌, Option, Some}
use Rattle.std.proofs.Common.{None, List, [], ◌∷◌, ◌++◌, length, take, get_or, map, refl, sym, ap, ◌∙◌}
use Rattle.std.specs.Prelude.{Result, Ok, Err, OnOk, IfOk}
use Rattle.std.specs.Map.{update}
use Rattle.std.specs.Option.{option_or, option_map}
use Rattle.std.specs.Str.{bytes_eq}
use Rattle.std.proofs.lemmas.Bool.{and_parts}
use Rattle.std.proofs.lemmas.Slice.Eq.{bytes_eq-Decides}
use Rattle.sudo_policy.specs.declared.entry.Signed.{Signed}
use Rattle.sudo_policy.specs.declared.tree.Definition.{Definition}
use Rattle.sudo_decide.specs.declared.invocation.Invocation.{Invocation}
use Rattle.sudo_decide.specs.Decision.{signed_answer, list_answer}
use Rattle.sudo_decide.specs.Kinds.{aliases_say, list_says_by}
use Rattle.sudo_decide.proofs.AnswerLemmas.{list_answer-push, list_answer-take_more}
use Rattle.sudo_compiled.specs.declared.known.Known.{Known}
use Rattle.sudo_compiled.specs.declared.used.NameSet.{NameSet}
use Rattle.sudo_compiled.specs.private.Kept.{turned}
use Rattle.sudo_compiled.specs.private.Used.{AgreeAt, has, is_item_used, is_list_used}
use Rattle.sudo_compiled.specs.private.Writing.{Adds, SaysByDefinitions, Stands, list_at, found_says, known_says}

or_assoc : {X : Type 0} (a b c : Option X) → option_or (option_or a b) c ≡ option_or a (option_or b c)
or_assoc None b c = refl
or_assoc (Some x) b c = refl

signed_or : (negated : Bool) (a b : Option Bool) → signed_answer negated (option_or a b) ≡ option_or (signed_answer negated a) (signed_answer negated b)
signed_or true None b = refl
signed_or true (Some x) b = refl
signed_or false a b = refl

-- turned over twice, an answer is as it was
not_not : (b : Bool) → not (not b) ≡ b
not_not true = refl
not_not false = refl

signed_twice : (a : Option Bool) → a ≡ signed_answer true (signed_answer true a)
signed_twice None = refl
signed_twice (Some b) = ap (λ (c : Bool). Some c) (sym (not_not b))

signed_turned : (own under : Bool) (a : Option Bool) → signed_answer (if under then not own else own) a ≡ signed_answer under (signed_answer own a)
signed_turned own false a = refl
signed_turned true true a = signed_twice a
signed_turned false true a = refl

pub signed_silence : (negated : Bool) → signed_answer negated None ≡ None
signed_silence true = refl
signed_silence false = refl

module _ {X : Type 0} (plain : Invocation → X → Option Bool) where
  pub adds_nothing : (old : List (Signed X)) (negated : Bool) (says : Invocation → Option Bool)
      → ((i : Invocation) → says i ≡ None) → Adds plain old old (λ i. signed_answer negated (says i))
  adds_nothing old negated says silent = λ i.
      sym (ap (λ (a : Option Bool). option_or a (list_answer (plain i) old)) (ap (signed_answer negated) (silent i) ∙ signed_silence negated))

  pub adds_as : (old new : List (Signed X)) (f g : Invocation → Option Bool) → ((i : Invocation) → f i ≡ g i) → Adds plain old new f → Adds plain old new g
  adds_as old new f g same adds = λ i. adds i ∙ ap (λ (a : Option Bool). option_or a (list_answer (plain i) old)) (same i)

  pub adds_more :
      {Y : Type 0} (says : Invocation → Y → Option Bool) (list : List (Signed Y)) (negated : Bool) (k : ℕ) (x : Signed Y) (old mid new : List (Signed X))
      → k < length list → x ≡ get_or list k x → Adds plain old mid (λ i. signed_answer negated (list_answer (says i) (take k list)))
      → Adds plain mid new (λ i. signed_answer (if negated then not x.negated else x.negated) (says i x.item))
      → Adds plain old new (λ i. signed_answer negated (list_answer (says i) (take (k + 1) list)))
  adds_more says list negated k x old mid new within is before here = λ i.
      let own : Option Bool = signed_answer (if negated then not x.negated else x.negated) (says i x.item) in
      let front : Option Bool = signed_answer negated (list_answer (says i) (take k list)) in
      let rest : Option Bool = list_answer (plain i) old in
      let more : signed_answer negated (list_answer (says i) (take (k + 1) list)) ≡ option_or own front =
      ap (signed_answer negated) (list_answer-take_more (says i) list k x within is)
      ∙ signed_or negated (signed_answer x.negated (says i x.item)) (list_answer (says i) (take k list))
      ∙ ap (λ (a : Option Bool). option_or a front) (sym (signed_turned x.negated negated (says i x.item))) in
      here i
      ∙ ap (option_or own) (before i)
      ∙ sym (or_assoc own front rest)
      ∙ sym (ap (λ (a : Option Bool). option_or a rest) more)

  pub adds_one : (old new : List (Signed X)) (negated : Bool) (own : X) (says : Invocation → Option Bool)
      → new ≡ old ++ (record { negated = negated; item = own }) ∷ []
      → ((i : Invocation) → plain i own ≡ says i) → Adds plain old new (λ i. signed_answer negated (says i))
  adds_one old new negated own says is same = λ i.
      ap (list_answer (plain i)) is
      ∙ list_answer-push (plain i) old (record { negated = negated; item = own })
      ∙ ap (λ (a : Option Bool). option_or (signed_answer negated a) (list_answer (plain i) old)) (same i)

pub on_ok : {A E P Q : Type 0} (r : Result A E) → (P → Q) → OnOk r P → OnOk r Q
on_ok (Ok x) f p = f p
on_ok (Err e) f p = p

-- ---- what an alias stands for, turned over

pub turned_list : {X : Type 0} (says : X → Option Bool) (negated : Bool) (xs : List (Signed X))
    → list_answer says (map (turned negated) xs) ≡ signed_answer negated (list_answer says xs)
turned_list says negated [] = sym (signed_silence negated)
turned_list says negated (x ∷ xs) =
    let own : Option Bool = signed_answer (if negated then not x.negated else x.negated) (says x.item) in
    ap (λ (a : Option Bool). option_or a own) (turned_list says negated xs)
    ∙ ap (option_or (signed_answer negated (list_answer says xs))) (signed_turned x.negated negated (says x.item))
    ∙ sym (signed_or negated (list_answer says xs) (signed_answer x.negated (says x.item)))

agree_at : (names : NameSet) (f g : List ℕ → Option Bool) → ((n : List ℕ) → has names n ≡ true → f n ≡ g n)
    → (alias : Option (List ℕ)) → is_item_used names alias ≡ true → AgreeAt f g alias
agree_at names f g same None used = tt
agree_at names f g same (Some n) used = same n used

-- ---- one more alias

found_cond : {X : Type 0} (plain : X → Option Bool) (b : Bool) (list : List (Signed X)) (o : Option (List (Signed X)))
    → found_says plain (cond b (Some list) o) ≡ (if b then list_answer plain list else found_says plain o)
found_cond plain true list o = refl
found_cond plain false list o = refl

if_same : (b : Bool) (x y u v : Option Bool) → x ≡ u → y ≡ v → (if b then x else y) ≡ (if b then u else v)
if_same true x y u v e f = e
if_same false x y u v e f = f

-- ---- aliases that are used

-- a list depends on its own aliases alone
lists_agree : {X : Type 0} (alias_of : X → Option (List ℕ)) (says : (List ℕ → Option Bool) → X → Option Bool) (names : NameSet) (f g : List ℕ → Option Bool)
    → ((item : X) → AgreeAt f g (alias_of item) → says f item ≡ says g item) → ((n : List ℕ) → has names n ≡ true → f n ≡ g n)
    → (list : List (Signed X)) → is_list_used alias_of names list ≡ true → list_answer (says f) list ≡ list_answer (says g) list
lists_agree alias_of says names f g local same [] used = refl
lists_agree alias_of says names f g local same (x ∷ xs) used =
    let parts = and_parts (is_item_used names (alias_of x.item)) (is_list_used alias_of names xs) used in
    let here = local x.item (agree_at names f g same (alias_of x.item) parts.0) in
    ap (λ (a : Option Bool). option_or a (signed_answer x.negated (says f x.item))) (lists_agree alias_of says names f g local same xs parts.1)
    ∙ ap (λ (a : Option Bool). option_or (list_answer (says g) xs) (signed_answer x.negated a)) here

-- what is kept says about a list of used aliases what the definitions say about it
pub stands_list : {X Y : Type 0} (alias_of : Y → Option (List ℕ)) (plain : Invocation → X → Option Bool)
    (says : Invocation → (List ℕ → Option Bool) → Y → Option Bool) (names : NameSet) (defs : List (Definition Y)) (known : Known X) (list : List (Signed Y))
    → ((i : Invocation) (f g : List ℕ → Option Bool) (item : Y) → AgreeAt f g (alias_of item) → says i f item ≡ says i g item)
    → is_list_used alias_of names list ≡ true → Stands plain says names defs known → SaysByDefinitions plain says defs known list
stands_list alias_of plain says names defs known list local used stands = λ i.
    lists_agree alias_of (says i) names (known_says (plain i) known) (aliases_say (says i) defs)
    (local i (known_says (plain i) known) (aliases_say (says i) defs)) (stands i) list used

pub stands_more : {X Y : Type 0} (alias_of : Y → Option (List ℕ)) (plain : Invocation → X → Option Bool)
    (says : Invocation → (List ℕ → Option Bool) → Y → Option Bool) (names : NameSet) (defs : List (Definition Y)) (old new : Known X)
    (name : List ℕ) (list : List (Signed Y)) (written : List (Signed X))
    → ((i : Invocation) (f g : List ℕ → Option Bool) (item : Y) → AgreeAt f g (alias_of item) → says i f item ≡ says i g item)
    → ((i : Invocation) → list_answer (plain i) written ≡ list_answer (says i (known_says (plain i) old)) list)
    → ((n : List ℕ) → list_at new n ≡ update bytes_eq (list_at old) name (Some written) n)
    → is_list_used alias_of names list ≡ true
    → Stands plain says names defs old → Stands plain says names (record { name = name; list = list } ∷ defs) new
stands_more alias_of plain says names defs old new name list written local is updates used stands = λ i n here.
    ap (found_says (plain i)) (updates n)
    ∙ found_cond (plain i) (bytes_eq name n) written (list_at old n)
    ∙ if_same (bytes_eq name n) (list_answer (plain i) written) (known_says (plain i) old n) (list_says_by (says i) defs list) (aliases_say (says i) defs n)
    (is i ∙ stands_list alias_of plain says names defs old list local used stands i) (stands i n here)

-- an alias that is not used has another name than each that is
apart : (names : NameSet) (name n : List ℕ) → has names name ≡ false → has names n ≡ true → (b : Bool) → bytes_eq name n ≡ b → b ≡ false
apart names name n unused named true same =
    let one : name ≡ n = (bytes_eq-Decides name n).0 same in
    absurd cc
apart names name n unused named false same = refl

passed : (b : Bool) (x y : Option Bool) → b ≡ false → y ≡ (if b then x else y)
passed true x y h = absurd cc
passed false x y h = refl

pub stands_without : {X Y : Type 0} (plain : Invocation → X → Option Bool) (says : Invocation → (List ℕ → Option Bool) → Y → Option Bool)
    (names : NameSet) (defs : List (Definition Y)) (known : Known X) (name : List ℕ) (list : List (Signed Y)) → has names name ≡ false
    → Stands plain says names defs known → Stands plain says names (record { name = name; list = list } ∷ defs) known
stands_without plain says names defs known name list unused stands = λ i n here.
    stands i n here ∙ passed (bytes_eq name n) (list_says_by (says i) defs list) (aliases_say (says i) defs n)
    (apart names name n unused here (bytes_eq name n) refl)

-- the list of an alias that is used is used
pub then_list : (a b : Bool) → (not a || b) ≡ true → a ≡ true → b ≡ true
then_list true b either h = either
then_list false b either h = absurd cc

pub map_cond : {X Y : Type 0} (f : X → Y) (b : Bool) (x : X) (o : Option X) → option_map f (cond b (Some x) o) ≡ cond b (Some (f x)) (option_map f o)
map_cond f true x o = refl
map_cond f false x o = refl

pub if_ok : {A E : Type 0} {P Q : A → Type 0} (r : Result A E) → ((x : A) → P x → Q x) → IfOk r P → IfOk r Q
if_ok (Ok x) f p = f x p
if_ok (Err e) f p = p

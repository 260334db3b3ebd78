-- A policy with one more entry.
use Rattle.std.proofs.Common.{◌≡◌, ℕ, ◌+◌, ◌-◌, ◌<◌, ◌≤◌, Bool, true, false, ◌||◌, List, [], ◌∷◌, ◌++◌, length}
use Rattle.std.proofs.Common.{get_or, map, reverse, Option, Some, None, refl, sym, ap, subst, ◌∙◌, arith}
use Rattle.std.specs.Prelude.{IfSome, unwrap_or}
use Rattle.std.specs.List.{flat_map, list_any, slice_get}
use Rattle.std.specs.Option.{is_some, option_map}
use Rattle.std.proofs.lemmas.List.{append-nil, length-append, reverse-append}
use Rattle.std.proofs.lemmas.List.Concat.{flat_map-append, flat_map-cons}
use Rattle.std.proofs.lemmas.Option.{slice_get_read}
use Rattle.sudo_policy.specs.declared.entry.Signed.{Signed}
use Rattle.sudo_policy.specs.declared.entry.Entry.{Entry}
use Rattle.sudo_policy.specs.declared.tree.Definition.{Definition}
use Rattle.sudo_policy.specs.declared.aliases.Alias.{Alias}
use Rattle.sudo_policy.specs.declared.aliases.Aliases.{Aliases}
use Rattle.sudo_policy.specs.declared.alias_kinds.AliasKinds.{AliasKinds}
use Rattle.sudo_policy.specs.Alias.{DefinedAt, is_defined}
use Rattle.sudo_policy.specs.private.Measures.{alias_at}
use Rattle.sudo_policy.specs.Policy.{IsEntry, IsPolicy, weight}
use Rattle.sudo_policy.specs.Printing.{line_text, canon}
use Rattle.sudo_policy.specs.private.AliasKinds.{IsKind, IsWhole}
use Rattle.sudo_policy.proofs.Measuring.{each_push}
use Rattle.sudo_policy.proofs.PolicyFronts.{placed_push, weight_push, canon_push}
use Rattle.sudo_policy.proofs.Entering.{IsEntered}

pub whole_push : (es : List Entry) (e : Entry) (old new : AliasKinds) (w more t len : ℕ) → IsWhole es old w t → IsEntry e → IsEntered es e new more
    → len ≡ length (line_text e) → length es < 16_384 → more ≤ 131_072 - w → len ≤ 16_777_216 - t → IsWhole (es ++ e ∷ []) new (w + more) (t + len)
whole_push es e old new w more t len whole is entered line few light short =
    let sum = weight_push es e in
    let text = canon_push es e in
    let weighs : w + more ≡ weight (es ++ e ∷ []) = omega (arith, sum, whole.weight_is, entered.2) in
    let long : t + len ≡ length (canon (es ++ e ∷ [])) = omega (arith, text, whole.text_is, line) in
    record {
      policy = record {
        each = each_push IsEntry es e whole.policy.each is;
        placed = placed_push es e whole.policy.placed entered.0;
        count = omega (arith, length-append es (e ∷ []));
        light = omega (arith, weighs, whole.weight_is, whole.policy.light);
        short = omega (arith, long, whole.text_is, whole.policy.short);
      };
      scope = entered.1;
      weight_is = weighs;
      text_is = long;
    }

-- the limits hold where the whole is a policy
pub limits_hold : (es : List Entry) (e : Entry) (old new : AliasKinds) (w more t len : ℕ) → IsWhole es old w t → IsEntered es e new more
    → len ≡ length (line_text e) → IsPolicy (es ++ e ∷ []) → (length es < 16_384) × (more ≤ 131_072 - w) × (len ≤ 16_777_216 - t)
limits_hold es e old new w more t len whole entered line p = (
  omega (arith, p.count, length-append es (e ∷ [])),
  omega (arith, p.light, weight_push es e, whole.weight_is, entered.2),
  omega (arith, p.short, canon_push es e, whole.text_is, line),
)

-- ---- what the table lacks is not defined

or_comm : (a b : Bool) → (a || b) ≡ (b || a)
or_comm true true = refl
or_comm true false = refl
or_comm false true = refl
or_comm false false = refl

or_assoc : (a b c : Bool) → (a || (b || c)) ≡ ((a || b) || c)
or_assoc true b c = refl
or_assoc false b c = refl

any_append : {X : Type 0} (test : X → Bool) (xs ys : List X) → list_any test (xs ++ ys) ≡ (list_any test xs || list_any test ys)
any_append test [] ys = refl
any_append test (x ∷ xs) ys = ap (λ (b : Bool). test x || b) (any_append test xs ys) ∙ or_assoc (test x) (list_any test xs) (list_any test ys)

defined_reversed : {X : Type 0} (def : Entry → List (Definition X)) (name : List ℕ) (es : List Entry)
    → is_defined (flat_map def (reverse es)) name ≡ is_defined (flat_map def es) name
defined_reversed def name [] = refl
defined_reversed {X} def name (e ∷ es) =
    let named = λ (ds : List (Definition X)). is_defined ds name in
    let last : reverse (e ∷ es) ≡ reverse es ++ e ∷ [] = reverse-append (e ∷ []) es in
    let one : flat_map def (e ∷ []) ≡ def e = append-nil (def e) in
    ap (λ (xs : List Entry). named (flat_map def xs)) last
    ∙ ap named (flat_map-append def (reverse es) (e ∷ []))
    ∙ any_append _ (flat_map def (reverse es)) (flat_map def (e ∷ []))
    ∙ ap (λ (b : Bool). b || named (flat_map def (e ∷ []))) (defined_reversed def name es)
    ∙ ap (λ (ds : List (Definition X)). named (flat_map def es) || named ds) one
    ∙ or_comm (named (flat_map def es)) (named (def e))
    ∙ sym (any_append _ (def e) (flat_map def es))
    ∙ ap named (sym (flat_map-cons def e es))

pub lacks : {X : Type 0} (alias_of : X → Option (List ℕ)) (def : Entry → List (Definition X)) (es : List Entry) (m : Aliases) (name : List ℕ)
    → IsKind def alias_of es m → alias_at m name ≡ None → is_defined (flat_map def es) name ≡ false
lacks alias_of def es m name k none =
    sym (defined_reversed def name es) ∙ sym (k.table.has_those name) ∙ ap (λ (o : Option Alias). is_some o) none

-- ---- the entry at the place that the table keeps is the definition

pub defined_there : {X : Type 0} (alias_of : X → Option (List ℕ)) (def : Entry → List (Definition X)) (es : List Entry) (m : Aliases) (name : List ℕ)
    (a : Alias) (entry : Entry) (named : List ℕ) (list : List (Signed X)) → IsKind def alias_of es m → alias_at m name ≡ Some a → a.place < length es
    → entry ≡ get_or es a.place entry → def entry ≡ record { name = named; list = list } ∷ [] → DefinedAt def es a.place name list
defined_there {X} alias_of def es m name a entry named list k known within is def_is =
    let Placed : Option Alias → Type 0 = λ o. IfSome o (λ x. (l : List (Signed X)) × DefinedAt def es x.place name l) in
    let at : (l : List (Signed X)) × DefinedAt def es a.place name l = subst Placed known (k.places name) in
    let there : slice_get es a.place ≡ Some entry = slice_get_read es (length es) a.place entry refl within is in
    let both : Some (def entry) ≡ Some (record { name = name; list = at.0 } ∷ []) = ap (option_map def) (sym there) ∙ at.1 in
    let lists : list ∷ [] ≡ at.0 ∷ [] =
    ap (λ (ds : List (Definition X)). map (λ d. d.list) ds) (sym def_is) ∙ ap (λ (o : Option (List (Definition X))). map (λ d. d.list) (unwrap_or o [])) both in
    let same : at.0 ≡ list = cc in
    subst (λ (l : List (Signed X)). DefinedAt def es a.place name l) same at.1

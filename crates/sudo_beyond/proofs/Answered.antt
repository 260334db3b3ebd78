-- Any two policies have cases in a scope. Where these are few, they have an answer.
use Rattle.std.proofs.Common.{◌≡◌, Option, Some, None, MatchOption, List, [], ◌∷◌, ◌++◌, refl, ap, reverse, inl, inr, ◌⊎◌}
use Rattle.std.proofs.lemmas.Bool.{cases_lt}
use Rattle.sudo_policy.specs.declared.entry.Entry.{Entry}
use Rattle.sudo_policy.specs.Policy.{IsPolicy}
use Rattle.sudo_decide.specs.declared.decision.Decision.{Decision}
use Rattle.sudo_decide.specs.declared.decision.Decision.TheVariants.{Deny, Allow, AllowNoPassword}
use Rattle.sudo_decide.specs.declared.invocation.Invocation.{Invocation}
use Rattle.sudo_decide.specs.declared.scope.Scope.{Scope}
use Rattle.sudo_decide.specs.Decision.{Decides}
use Rattle.sudo_decide.specs.Reach.{rules_in}
use Rattle.sudo_decide.proofs.Speakers.{one_decision, some_decision}
use Rattle.sudo_beyond.specs.declared.cases.Cases.{Cases}
use Rattle.sudo_beyond.specs.Standing.{users, hosts, runas, commands}
use Rattle.sudo_beyond.specs.Beyond.{Allows, IsGap, IsScope, LiesBeyond, SomethingBeyond}
use Rattle.sudo_beyond.specs.Cases.{AreCases, product, invocations}
use Rattle.sudo_beyond.specs.Answer.{FirstOf, AreFew, AreTooMany, IsFirstBeyond, most_cases}
use Rattle.sudo_beyond.proofs.Counting.{is_counted}
use Rattle.sudo_beyond.proofs.Existing.{of_commands, of_moments, of_names}
use Rattle.sudo_beyond.proofs.Theorem.{exact}

-- ---- cases

pub each_has_cases : (s : Scope) (a b : List Entry) → IsPolicy a → IsPolicy b → (c : Cases) × AreCases s a b c
each_has_cases s a b is_a is_b =
    let counted = is_counted a b is_a is_b in
    let by_user = of_names s.user (users a ++ users b) counted.users in
    let by_host = of_names s.host (hosts a ++ hosts b) counted.hosts in
    let by_target = of_names s.runas (runas a ++ runas b) counted.runas in
    let by_run = of_commands (commands a ++ commands b) counted.commands in
    let by_moment = of_moments (rules_in a ++ rules_in b) in (
      record { users = by_user.0; hosts = by_host.0; targets = by_target.0; runs = by_run.list; moments = by_moment.list },
      record { users = by_user.1; hosts = by_host.1; targets = by_target.1; runs = by_run.is; moments = by_moment.is },
    )

pub few_or_many : (s : Scope) (a b : List Entry) → IsPolicy a → IsPolicy b → AreFew s a b ⊎ AreTooMany s a b
few_or_many s a b is_a is_b =
    let has = each_has_cases s a b is_a is_b in
    elim (cases_lt most_cases (product has.0)) [
      | inl many ↦ inr (record { cases = has.0; are_cases = has.1; many = many })
      | inr few ↦ inl (record { cases = has.0; are_cases = has.1; few = few })
    ]

-- ---- the first that lies beyond

allows_or_not : (es : List Entry) (i : Invocation) (d : Decision) → Decides es i d → Allows es i ⊎ Decides es i Deny
allows_or_not es i Deny is = inr is
allows_or_not es i Allow is = inl (inl is)
allows_or_not es i AllowNoPassword is = inl (inr is)

not_both : (es : List Entry) (i : Invocation) → Allows es i → Decides es i Deny → ⊥
not_both es i (inl allow) deny = let same : Allow ≡ Deny = one_decision (reverse es) es i Allow Deny allow deny in cc
not_both es i (inr allow) deny = let same : AllowNoPassword ≡ Deny = one_decision (reverse es) es i AllowNoPassword Deny allow deny in cc

gap_or_not : (a b : List Entry) (i : Invocation) → IsGap a b i ⊎ (IsGap a b i → ⊥)
gap_or_not a b i =
    let of_a = some_decision (reverse a) a i in
    let of_b = some_decision (reverse b) b i in
    elim (allows_or_not a i of_a.0 of_a.1) as (λ _. IsGap a b i ⊎ (IsGap a b i → ⊥)) [
      | inl allowed ↦ elim (allows_or_not b i of_b.0 of_b.1) as (λ _. IsGap a b i ⊎ (IsGap a b i → ⊥)) [
        | inl also ↦ inr (λ gap. not_both b i also gap.refused)
        | inr refused ↦ inl (record { allowed = allowed; refused = refused })
      ]
      | inr denied ↦ inr (λ gap. not_both a i gap.allowed denied)
    ]

-- where it is known of each element whether P holds, there is a first one of which it does, or none
module _ {X : Type 0} (P : X → Type 0) (either : (x : X) → P x ⊎ (P x → ⊥)) where
  later_first : (x : X) (xs : List X) → (P x → ⊥) → (o : Option X) → FirstOf P xs o → FirstOf P (x ∷ xs) o
  later_first x xs not None none = (not, none)
  later_first x xs not (Some y) first = record {
    before = x ∷ first.before;
    after = first.after;
    list_is = ap (λ (ys : List X). x ∷ ys) first.list_is;
    here = first.here;
    none_before = (not, first.none_before);
  }

  some_first : (xs : List X) → (o : Option X) × FirstOf P xs o
  some_first [] = (None, tt)
  some_first (x ∷ xs) =
      elim (either x) as (λ _. (o : Option X) × FirstOf P (x ∷ xs) o) [
        | inl here ↦ (Some x, record { before = []; after = xs; list_is = refl; here = here; none_before = tt })
        | inr not ↦ let rest = some_first xs in (rest.0, later_first x xs not rest.0 rest.1)
      ]

pub each_has_a_first : (s : Scope) (a b : List Entry) → AreFew s a b → (found : Option Invocation) × IsFirstBeyond s a b found
each_has_a_first s a b few =
    let first = some_first (IsGap a b) (gap_or_not a b) (invocations few.cases) in
    (first.0, record { cases = few.cases; are_cases = few.are_cases; few = few.few; first = first.1 })

-- ---- whether anything does

pub beyond_or_not : (s : Scope) (a b : List Entry) → IsPolicy a → IsPolicy b → IsScope s → AreFew s a b
    → SomethingBeyond s a b ⊎ (SomethingBeyond s a b → ⊥)
beyond_or_not s a b is_a is_b is_s few =
    let first = some_first (IsGap a b) (gap_or_not a b) (invocations few.cases) in
    told first.0 (exact s a b few.cases is_a is_b is_s few.are_cases first.0 first.1)
  where
    told : (o : Option Invocation) → MatchOption o (SomethingBeyond s a b → ⊥) (LiesBeyond s a b) → SomethingBeyond s a b ⊎ (SomethingBeyond s a b → ⊥)
    told None nothing = inr nothing
    told (Some i) beyond = inl (i, beyond)

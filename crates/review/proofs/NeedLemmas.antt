-- The need of a grant, host by host.
use Rattle.std.proofs.Common.{◌≡◌, ℕ, ◌<◌, ◌≤◌, List, [], ◌∷◌, ◌++◌, ◌+◌, length, get_or, take, refl, sym, subst, inl, inr, arith}
use Rattle.std.specs.List.{Contains}
use Rattle.sudo_policy.specs.declared.entry.Entry.{Entry}
use Rattle.messages.specs.Fields.{RequestFields}
use Rattle.grants.specs.declared.outcome.Window.{Window}
use Rattle.sudo_beyond.specs.declared.cases.Cases.{Cases}
use Rattle.review.specs.declared.need.Need.{Need}
use Rattle.review.specs.declared.need.Need.TheVariants.{Needed, Needless, Unknown}
use Rattle.sudo_decide.specs.declared.scope.Scope.{Scope}
use Rattle.sudo_beyond.specs.Answer.{AreFew, AreTooMany, most_cases}
use Rattle.sudo_beyond.specs.Cases.{product}
use Rattle.review.specs.Needs.{IsNeedBeyond, IsNeedOn, IsNeedOver, grant_scope, own_policy}
use Rattle.review.specs.private.Reporting.{over_both}
use Rattle.std.proofs.lemmas.List.Elements.{Contains-append_left, Contains-push, Contains-push_cases}
use Rattle.sudo_words.proofs.Lists.{take_next}
use Rattle.sudo_words.proofs.OneSorted.{no_element}
use Rattle.sudo_beyond.proofs.OneList.{one_list_of_each}

-- few cases are not too many
pub few_or_many : (s : Scope) (a b : List Entry) → AreFew s a b → AreTooMany s a b → ⊥
few_or_many s a b few many =
    let same : few.cases ≡ many.cases = one_list_of_each s a b few.cases many.cases few.are_cases many.are_cases in
    let low : product many.cases ≤ most_cases = subst (λ (c : Cases). product c ≤ most_cases) same few.few in
    omega (arith, low, many.many)

pub one_need_beyond : (s : Scope) (a b : List Entry) (m n : Need) → IsNeedBeyond s a b m → IsNeedBeyond s a b n → m ≡ n
one_need_beyond s a b Needed Needed x y = refl
one_need_beyond s a b Needed Needless x y = absurd (y.1 x.1)
one_need_beyond s a b Needed Unknown x y = absurd (few_or_many s a b x.0 y)
one_need_beyond s a b Needless Needed x y = absurd (x.1 y.1)
one_need_beyond s a b Needless Needless x y = refl
one_need_beyond s a b Needless Unknown x y = absurd (few_or_many s a b x.0 y)
one_need_beyond s a b Unknown Needed x y = absurd (few_or_many s a b y.0 x)
one_need_beyond s a b Unknown Needless x y = absurd (few_or_many s a b y.0 x)
one_need_beyond s a b Unknown Unknown x y = refl

pub one_need_on : (base : List Entry) (q : RequestFields) (w : Window) (host : List ℕ) (m n : Need)
    → IsNeedOn base q w host m → IsNeedOn base q w host n → m ≡ n
one_need_on base q w host m n is also = one_need_beyond (grant_scope q host) (own_policy q w host) base m n is also

needed_is_not_needless : ◌≡◌ {A = Need} Needed Needless → ⊥
needed_is_not_needless e = cc

needed_is_not_unknown : ◌≡◌ {A = Need} Needed Unknown → ⊥
needed_is_not_unknown e = cc

-- if a host has one need at most
module _ (On : List ℕ → Need → Type 0) (one : (host : List ℕ) (m n : Need) → On host m → On host n → m ≡ n) where
  before : (hosts : List (List ℕ)) (last x : List ℕ) → Contains hosts x → Contains (hosts ++ last ∷ []) x
  before hosts last x among = Contains-append_left hosts (last ∷ []) x among

  each_of : (hosts : List (List ℕ)) (last : List ℕ) (P : List ℕ → Type 0)
      → ((x : List ℕ) → Contains hosts x → P x) → P last → (x : List ℕ) → Contains (hosts ++ last ∷ []) x → P x
  each_of hosts last P there here x among =
      elim (Contains-push_cases hosts last x among) as (λ _. P x) [ inl earlier ↦ there x earlier | inr same ↦ subst P same here ]

  none_needed : (host : List ℕ) (m : Need) → On host m → (m ≡ Needed → ⊥) → ¬ On host Needed
  none_needed host m is other needed = other (one host m Needed is needed)

  pub no_hosts : IsNeedOver On [] Needless
  no_hosts = λ host none. absurd (no_element host none)

  pub need_of_more : (hosts : List (List ℕ)) (last : List ℕ) (m n : Need)
      → IsNeedOver On hosts m → On last n → IsNeedOver On (hosts ++ last ∷ []) (over_both m n)
  need_of_more hosts last Needed n there here = (there.0, before hosts last there.0 there.1, there.2)
  need_of_more hosts last Needless Needed there here = (last, Contains-push hosts last, here)
  need_of_more hosts last Needless Needless there here = each_of hosts last (λ x. On x Needless) there here
  need_of_more hosts last Needless Unknown there here = (
    (last, Contains-push hosts last, here),
    each_of hosts last (λ x. ¬ On x Needed) (λ x among. none_needed x Needless (there x among) (λ e. needed_is_not_needless (sym e)))
        (none_needed last Unknown here (λ e. needed_is_not_unknown (sym e))),
  )
  need_of_more hosts last Unknown Needed there here = (last, Contains-push hosts last, here)
  need_of_more hosts last Unknown Needless there here = (
    (there.0.0, before hosts last there.0.0 there.0.1, there.0.2),
    each_of hosts last (λ x. ¬ On x Needed) there.1 (none_needed last Needless here (λ e. needed_is_not_needless (sym e))),
  )
  need_of_more hosts last Unknown Unknown there here = (
    (there.0.0, before hosts last there.0.0 there.0.1, there.0.2),
    each_of hosts last (λ x. ¬ On x Needed) there.1 (none_needed last Unknown here (λ e. needed_is_not_unknown (sym e))),
  )

  -- one more host
  pub need_next : (hosts : List (List ℕ)) (k : ℕ) (host : List ℕ) (m n both : Need) → k < length hosts → host ≡ get_or hosts k host
      → IsNeedOver On (take k hosts) m → On host n → both ≡ over_both m n → IsNeedOver On (take (k + 1) hosts) both
  need_next hosts k host m n both below is there here e =
      subst (λ (xs : List (List ℕ)). IsNeedOver On xs both) (sym (take_next hosts k host below is))
      (subst (λ (r : Need). IsNeedOver On (take k hosts ++ host ∷ []) r) (sym e) (need_of_more (take k hosts) host m n there here))

  pub needed_here : (hosts : List (List ℕ)) (k : ℕ) (host : List ℕ) (m : Need) → k < length hosts
      → host ≡ get_or hosts k host → On host m → m ≡ Needed → IsNeedOver On hosts Needed
  needed_here hosts k host m below is here e = (host, (k, below, sym is), subst (λ (n : Need). On host n) e here)

  pub one_need_over : (hosts : List (List ℕ)) (m n : Need) → IsNeedOver On hosts m → IsNeedOver On hosts n → m ≡ n
  one_need_over hosts Needed Needed x y = refl
  one_need_over hosts Needed Needless x y = one x.0 Needed Needless x.2 (y x.0 x.1)
  one_need_over hosts Needed Unknown x y = absurd (y.1 x.0 x.1 x.2)
  one_need_over hosts Needless Needed x y = one y.0 Needless Needed (x y.0 y.1) y.2
  one_need_over hosts Needless Needless x y = refl
  one_need_over hosts Needless Unknown x y = one y.0.0 Needless Unknown (x y.0.0 y.0.1) y.0.2
  one_need_over hosts Unknown Needed x y = absurd (x.1 y.0 y.1 y.2)
  one_need_over hosts Unknown Needless x y = one x.0.0 Unknown Needless x.0.2 (y x.0.0 x.0.1)
  one_need_over hosts Unknown Unknown x y = refl

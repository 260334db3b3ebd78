-- The names of a set's summaries are those that somebody asks under, in order; and each stands for the set.
use Rattle.std.specs.Prelude.{◌≡◌, ℕ, List, [], ◌∷◌, Contains, map}
use Rattle.std.specs.List.{AllByRecursion}
use Rattle.std.specs.List.Sorted.{IsStrictlySortedBy}
use Rattle.std.specs.declared.cmp.Ordering.TheVariants.{Less}
use Rattle.std.proofs.Common.{◌∙◌, ap, ap₂, inl, inr, subst}
use Rattle.std.proofs.lemmas.List.Elements.{Contains-append_right}
use Rattle.messages.specs.Names.{name_cmp}
use Rattle.messages.specs.declared.request_name.RequestName.{RequestName}
use Rattle.messages.specs.declared.message.Message.{Message}
use Rattle.messages.proofs.NameOrder.{less_from_lower}
use Rattle.grants.specs.Summaries.{Kept, StandsFor}
use Rattle.outcomes.specs.Order.{AllAfter, AreInOrder}
use Rattle.outcomes.specs.Summaries.{AreSummaries, SummaryPrecedes}
use Rattle.sudo_words.proofs.Lists.{contains_head, contains_map}
use Rattle.sudo_words.proofs.OneSorted.{cons_cases, no_element}
use Rattle.review.specs.Report.{AreAll, IsAsked}
use Rattle.review.specs.private.Reporting.{kept_name}

names_behind : (x : Kept) (xs : List Kept) → AllAfter SummaryPrecedes x xs → AllByRecursion (λ y. name_cmp (kept_name x) y ≡ Less) (map kept_name xs)
names_behind x [] all = tt
names_behind x (y ∷ ys) all = (less_from_lower (kept_name x) (kept_name y) all.0, names_behind x ys all.1)

names_rise : (xs : List Kept) → AreInOrder SummaryPrecedes xs → IsStrictlySortedBy name_cmp (map kept_name xs)
unfolding IsStrictlySortedBy
names_rise [] rise = tt
names_rise (x ∷ xs) rise = (names_behind x xs rise.0, names_rise xs rise.1)

kept_of : (list : List Kept) (name : RequestName) → Contains (map kept_name list) name → (k : Kept) × Contains list k × (kept_name k ≡ name)
kept_of [] name there = absurd (no_element name there)
kept_of (k ∷ more) name there =
    elim (cons_cases (kept_name k) (map kept_name more) name there) [
      | inl same ↦ (k, contains_head k more, same)
      | inr later ↦ let found = kept_of more name later in (found.0, Contains-append_right (k ∷ []) more found.0 found.1, found.2)
    ]

pub each_stands : (set : List Message) (list : List Kept) → ((k : Kept) → Contains list k → StandsFor set k) → AllByRecursion (StandsFor set) list
each_stands set [] stands = tt
each_stands set (k ∷ more) stands =
    (stands k (contains_head k more), each_stands set more (λ l there. stands l (Contains-append_right (k ∷ []) more l there)))

one_name : (a b : RequestName) → a.by ≡ b.by → a.no ≡ b.no → a ≡ b
one_name a b same_by same_no = ap₂ (λ (x : List ℕ) (n : ℕ). record { by = x; no = n }) same_by same_no

pub names_of_summaries : (set : List Message) (list : List Kept) → AreSummaries set list → AreAll name_cmp (IsAsked set) (map kept_name list)
names_of_summaries set list are = record {
  in_order = names_rise list are.in_order;
  each = λ name there.
      let found = kept_of list name there in
      record {
        request = found.0.request;
        asked = (are.each found.0 found.1).asked;
        named = (ap (λ (n : RequestName). n.by) found.2, ap (λ (n : RequestName). n.no) found.2);
      };
  all = λ name is.
      let found = are.all is.request is.asked in
      subst (Contains (map kept_name list))
      (one_name (kept_name found.0) name (found.2.0 ∙ is.named.0) (found.2.1 ∙ is.named.1))
      (contains_map kept_name list found.0 found.1);
}

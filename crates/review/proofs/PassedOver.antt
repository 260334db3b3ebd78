-- The names that a report passes over have no lines, so the lines of the others are those of all names.
use Rattle.std.proofs.Common.{◌≡◌, ◌⊎◌, ℕ, Bool, true, false, ◌&&◌, leb, if◌then◌else◌, List, [], ◌∷◌, ◌++◌, Option, Some, None}
use Rattle.std.proofs.Common.{refl, sym, ap, ◌∙◌, subst, inl, inr}
use Rattle.std.specs.List.{Contains}
use Rattle.std.proofs.lemmas.Bool.{and_parts, leb-true}
use Rattle.sudo_words.specs.declared.cmnd.Cmnd.{Cmnd}
use Rattle.sudo_words.specs.Lists.{AreParts}
use Rattle.sudo_policy.specs.declared.entry.Entry.{Entry}
use Rattle.messages.specs.Fields.{RequestFields}
use Rattle.messages.specs.Names.{NamePrecedes}
use Rattle.messages.specs.Order.{AreInOrder}
use Rattle.messages.specs.Wire.{IsMessage}
use Rattle.messages.specs.declared.request_name.RequestName.{RequestName}
use Rattle.messages.specs.declared.message.Message.{Message}
use Rattle.messages.specs.declared.message.Message.TheVariants.{Request}
use Rattle.messages.proofs.NameOrder.{names_strict, not_precede_same}
use Rattle.roster.specs.Faults.{IsRosterText}
use Rattle.roster.specs.Fields.{CeilingFields, RosterFields}
use Rattle.roster.specs.Relations.{eligible}
use Rattle.grants.specs.Statuses.{IsStatus, window_at}
use Rattle.grants.specs.Summaries.{Kept, StandsFor}
use Rattle.grants.specs.declared.outcome.Status.{Status}
use Rattle.grants.specs.declared.outcome.Status.TheVariants.{Disputed, Lapsed, Refused, Waiting, Void, Granted}
use Rattle.grants.specs.declared.outcome.Window.{Window}
use Rattle.grants.proofs.SomeStatus.{some_status}
use Rattle.outcomes.specs.Outcomes.{IsLive, LiveGrant}
use Rattle.outcomes.specs.Summaries.{AreSummaries, SummaryPrecedes}
use Rattle.outcomes.proofs.Existence.{some_summaries}
use Rattle.outcomes.proofs.Membership.{no_member, Contains-head, Contains-behind, Contains-cases}
use Rattle.outcomes.proofs.NameMaps.{same_cases}
use Rattle.outcomes.proofs.Orders.{behind_each}
use Rattle.outcomes.proofs.Standing.{name_from_named}
use Rattle.outcomes.proofs.Windows.{between}
use Rattle.suspects.specs.LookedAt.{AllCount, AreReviewed, MayBePassedOver}
use Rattle.review.specs.declared.names.Parts.{Parts}
use Rattle.review.specs.declared.reason.Reason.{Reason}
use Rattle.review.specs.Barred.{AreBarredLines, IsWhy, HasApprovedAt, barred_for}
use Rattle.review.specs.Report.{AreBarred, AreBroadLines, AreInForce, BarredLines, IsLiveLine, LinesInForce, is_open}
use Rattle.review.specs.private.Names.{HaveNames}
use Rattle.review.specs.private.Reporting.{kept_name}
use Rattle.review.proofs.SomeReport.{barred}

-- ---- no lines of a name that is passed over

module _ (f : RosterFields Cmnd) (set : List Message) (at : ℕ) (name : RequestName) (over : MayBePassedOver f set at name) where
  -- its window, if it is granted, does not hold the moment
  outside : (w : Window) → IsStatus f set name (Granted w) → (b : Bool) → (leb w.start at && leb at w.end) ≡ b → (if b then Some w else None) ≡ None
  outside w is false test = refl
  outside w is true test =
      let q = is.request in
      let both = and_parts (leb w.start at) (leb at w.end) test in
      let l : LiveGrant = record { name = name; ceiling = q.ceiling; window = w } in
      let live : IsLive f set at l = record {
        request = q;
        named = is.named;
        ceiling_is = refl;
        inside = between f set q w.start at w.end is.is.0.inside is.is.1.inside (leb-true w.start at both.0) (leb-true at w.end both.1);
        first = is.is.0;
        last = is.is.1;
      } in
      absurd (over.not_live l live refl)

  not_at : (status : Status) → IsStatus f set name status → window_at at status ≡ None
  not_at Disputed is = refl
  not_at Lapsed is = refl
  not_at Refused is = refl
  not_at Waiting is = refl
  not_at Void is = refl
  not_at (Granted w) is = outside w is (leb w.start at && leb at w.end) refl

  pub not_in_force : (Of : RequestFields → Window → List (List ℕ) → Type 0) (status : Status) → IsStatus f set name status → AreInForce f set at Of name []
  not_in_force Of status is =
      record { status = status; status_is = is; lines_are = subst (λ (o : Option Window). LinesInForce Of set name o []) (sym (not_at status is)) refl }

-- where all approvals count, nobody is listed
module _ (f : RosterFields Cmnd) (set : List Message) (c : CeilingFields Cmnd) (q : RequestFields)
    (count : (person : List ℕ) (at : ℕ) → HasApprovedAt set q person at → eligible f person q.by c at ≡ true) where
  no_line : (person : List ℕ) (why : Option Reason) → IsWhy f c q.by person (HasApprovedAt set q person) why → barred_for q person why ≡ []
  no_line person None is = refl
  no_line person (Some why) is =
      let wrong : true ≡ false = sym (count person is.first is.approved) ∙ is.never is.first is.approved in absurd cc

  no_lines : (people lines : List (List ℕ)) → AreParts (AreBarredLines f set c q) people lines → lines ≡ []
  no_lines [] lines are = are
  no_lines (person ∷ people) lines are =
      let first : are.0 ≡ [] = are.3.2 ∙ no_line person are.3.0 are.3.1 in
      let rest : are.1 ≡ [] = no_lines people are.1 are.4 in
      are.2 ∙ ap (λ (l : List (List ℕ)). l ++ are.1) first ∙ rest

no_barred_lines : (f : RosterFields Cmnd) (set : List Message) (name : RequestName) (open_ : Bool) (lines : List (List ℕ)) → AllCount f set name
    → BarredLines f set name open_ lines → lines ≡ []
no_barred_lines f set name false lines all are = are
no_barred_lines f set name true lines all are =
    let q = are.0 in
    let under = are.2 in
    no_lines f set under.ceiling q (λ person at given. all q under.ceiling person at are.1.named are.1.alone under.ceiling_is given)
    under.people lines under.lines_are

pub not_barred : (f : RosterFields Cmnd) (set : List Message) (name : RequestName) (lines : List (List ℕ)) → AllCount f set name
    → AreBarred f set name lines → AreBarred f set name []
not_barred f set name lines all are =
    subst (AreBarred f set name) (no_barred_lines f set name (is_open are.status) lines all are.lines_are) are

-- ---- the lines of some names are those of all, where the others have none

module _ (IsPart : RequestName → List (List ℕ) → Type 0) where
  abbrev IsLooked : List Kept → Kept → Type 0
  IsLooked some k = (l : Kept) × Contains some l × (kept_name l ≡ kept_name k)

  behind : (x y : Kept) (ys : List Kept) → AreInOrder SummaryPrecedes (x ∷ ys) → Contains ys y → kept_name y ≡ kept_name x → ⊥
  behind x y ys order there same =
      not_precede_same (kept_name x) (kept_name y) (behind_each SummaryPrecedes x ys order.0 y there) (sym same)

  -- a name of the list, beside the first of the others
  in_tail : (x k : Kept) (xs : List Kept) → (kept_name x ≡ kept_name k → ⊥) → IsLooked (x ∷ xs) k → IsLooked xs k
  in_tail x k xs differ (l, there, same) =
      elim (Contains-cases x xs l there) as (λ _. IsLooked xs k) [
        | inl is ↦ absurd (differ (ap kept_name is ∙ same))
        | inr later ↦ (l, later, same)
      ]

  pub parts_of_all : (all some : List Kept) → AreInOrder SummaryPrecedes all → AreInOrder SummaryPrecedes some
      → ((k : Kept) → Contains some k → IsLooked all k) → ((k : Kept) → Contains all k → IsLooked some k ⊎ IsPart (kept_name k) [])
      → (lines : List (List ℕ)) → AreParts (λ k. IsPart (kept_name k)) some lines → AreParts (λ k. IsPart (kept_name k)) all lines
  parts_of_all [] [] o p own each lines are = are
  parts_of_all [] (z ∷ zs) o p own each lines are =
      let found = own z (Contains-head z zs) in absurd (no_member found.0 found.1)
  parts_of_all (x ∷ xs) [] o p own each lines are =
      let here : IsPart (kept_name x) [] = elim (each x (Contains-head x xs)) as (λ _. IsPart (kept_name x) []) [
        | inl found ↦ absurd (no_member found.0 found.1)
        | inr none ↦ none
      ] in
      ([], lines, refl, here, parts_of_all xs [] o.1 p (λ k there. absurd (no_member k there)) (λ k there. each k (Contains-behind x xs k there)) lines are)
  parts_of_all (x ∷ xs) (z ∷ zs) o p own each lines are =
      elim (same_cases (kept_name x) (kept_name z)) as (λ _. AreParts (λ k. IsPart (kept_name k)) (x ∷ xs) lines) [
        | inl same ↦ (
          are.0,
          are.1,
          are.2,
          subst (λ (n : RequestName). IsPart n are.0) (sym same) are.3,
          parts_of_all xs zs o.1 p.1
              (λ k there. in_tail x k xs (λ tie. behind z k zs p there (sym tie ∙ same)) (own k (Contains-behind z zs k there)))
              (λ k there. elim (each k (Contains-behind x xs k there)) as (λ _. IsLooked zs k ⊎ IsPart (kept_name k) []) [
                | inl found ↦ inl (in_tail z k zs (λ tie. behind x k xs o there (sym tie ∙ sym same)) found)
                | inr none ↦ inr none
              ])
              are.1 are.4,
        )
        | inr differ ↦
            -- the first of all comes before those that are looked at
            let before : NamePrecedes (kept_name x) (kept_name z) =
            (let found = in_tail x z xs differ (own z (Contains-head z zs)) in
            subst (NamePrecedes (kept_name x)) found.2 (behind_each SummaryPrecedes x xs o.0 found.0 found.1)) in
            let apart : IsLooked (z ∷ zs) x → ⊥ =
            λ looked. (let found = in_tail z x zs (λ tie. differ (sym tie)) looked in
            names_strict (kept_name x) (kept_name z) before
            (subst (NamePrecedes (kept_name z)) found.2 (behind_each SummaryPrecedes z zs p.0 found.0 found.1))) in
            let here : IsPart (kept_name x) [] = elim (each x (Contains-head x xs)) as (λ _. IsPart (kept_name x) []) [
              | inl found ↦ absurd (apart found)
              | inr none ↦ none
            ] in (
              [],
              lines,
              refl,
              here,
              parts_of_all xs (z ∷ zs) o.1 p
                  (λ k there. in_tail x k xs (λ tie. apart (k, there, sym tie)) (own k there))
                  (λ k there. each k (Contains-behind x xs k there)) lines are,
            )
      ]

-- ---- the whole

module _ (text : List ℕ) (f : RosterFields Cmnd) (base : List Entry) (set : List Message) (at : ℕ) (roster : IsRosterText text f)
    (written : (m : Message) → Contains set m → IsMessage m) where
  module _ (list all : List Kept) (are : AreReviewed f set at list) (summaries : AreSummaries set all) where
    own : (k : Kept) → Contains list k → (l : Kept) × Contains all l × (kept_name l ≡ kept_name k)
    own k there =
        let found = summaries.all k.request (are.each k there).asked in (found.0, found.1, name_from_named found.0.request (kept_name k) found.2)

    lines_of : (IsPart : RequestName → List (List ℕ) → Type 0)
        → ((k : Kept) → StandsFor set k → (status : Status) → IsStatus f set (kept_name k) status → MayBePassedOver f set at (kept_name k)
        → IsPart (kept_name k) [])
        → (lines : List (List ℕ)) → AreParts (λ k. IsPart (kept_name k)) list lines → AreParts (λ k. IsPart (kept_name k)) all lines
    lines_of IsPart none lines parts =
        parts_of_all IsPart all list summaries.in_order are.in_order own (λ k there.
        let stands = summaries.each k there in
        let status = some_status text f set k roster (written (Request k.request) stands.asked) stands in
        elim (are.all k.request stands.asked) as (λ _. ((l : Kept) × Contains list l × (kept_name l ≡ kept_name k)) ⊎ IsPart (kept_name k) []) [
          | inl found ↦ inl (found.0, found.1, name_from_named found.0.request (kept_name k) found.2)
          | inr over ↦ inr (none k stands status.0 status.1 over)
        ]) lines parts

  pub whole : (list : List Kept) (parts : Parts) → AreReviewed f set at list → HaveNames f base set at list parts
      → (all : List Kept) × AreSummaries set all × HaveNames f base set at all parts
  whole list parts are have =
      let all = some_summaries set written in
      let in_force : (Of : RequestFields → Window → List (List ℕ) → Type 0) (k : Kept) → StandsFor set k → (status : Status)
      → IsStatus f set (kept_name k) status → MayBePassedOver f set at (kept_name k) → AreInForce f set at Of (kept_name k) [] =
      λ Of k stands status is over. not_in_force f set at (kept_name k) over Of status is in (
        all.0,
        all.1,
        record {
          live = (
            have.live.0,
            have.live.1,
            lines_of list all.0 are all.1 (λ name lines. AreInForce f set at (IsLiveLine base) name lines)
                (in_force (IsLiveLine base)) have.live.0 have.live.2,
          );
          barred = (
            have.barred.0,
            have.barred.1,
            lines_of list all.0 are all.1 (AreBarred f set)
                (λ k stands status is over. (let found = barred f set written at k stands status is in
                not_barred f set (kept_name k) found.0 over.all_count found.1)) have.barred.0 have.barred.2,
          );
          broad = (
            have.broad.0,
            have.broad.1,
            lines_of list all.0 are all.1 (λ name lines. AreInForce f set at AreBroadLines name lines)
                (in_force AreBroadLines) have.broad.0 have.broad.2,
          );
        },
      )

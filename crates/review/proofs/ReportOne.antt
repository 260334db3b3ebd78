-- A set of messages has one report at a moment.
use Rattle.std.proofs.Common.{◌≡◌, ℕ, Bool, true, false, List, [], ◌∷◌, ◌++◌, map, Option, Some, None, ◌≤◌, refl, sym, ap, ◌∙◌, subst, arith}
use Rattle.std.specs.List.{flat_map}
use Rattle.std.specs.Cmp.{IsTotalOrder}
use Rattle.std.specs.Cmp.Lexicographic.{nat_list_cmp_total}
use Rattle.std.specs.declared.cmp.Ordering.{Ordering}
use Rattle.std.proofs.lemmas.Bool.{both_ways}
use Rattle.std.proofs.lemmas.Cmp.{nat_cmp_total, on_total, then_total}
use Rattle.sudo_words.specs.declared.cmnd.Cmnd.{Cmnd}
use Rattle.sudo_policy.specs.declared.entry.Entry.{Entry}
use Rattle.messages.specs.Fields.{RequestFields}
use Rattle.messages.specs.Names.{SameMessages, name_cmp}
use Rattle.messages.specs.declared.request_name.RequestName.{RequestName}
use Rattle.messages.specs.declared.message.Message.{Message}
use Rattle.messages.specs.declared.message.Message.TheVariants.{Request, Verdict}
use Rattle.roster.specs.Fields.{CeilingFields, RosterFields}
use Rattle.roster.specs.Relations.{pair_order}
use Rattle.grants.specs.Statuses.{IsStatus, window_at}
use Rattle.grants.specs.declared.outcome.Status.{Status}
use Rattle.grants.specs.declared.outcome.Window.{Window}
use Rattle.grants.proofs.StatusLaws.{one_status, order_free}
use Rattle.outcomes.proofs.SetLemmas.{one_parked, parked_of_set}
use Rattle.suspects.specs.LookedAt.{approval}
use Rattle.review.specs.declared.need.Need.{Need}
use Rattle.review.specs.declared.reason.Reason.{Reason}
use Rattle.review.specs.Barred.{AreBarredLines, HasApproved, HasApprovedAt, IsWhy, barred_for, reason}
use Rattle.sudo_words.specs.Lists.{AreParts, text_order}
use Rattle.review.specs.Columns.{lines_text}
use Rattle.review.specs.Needs.{IsNeedOn, grant_scope, own_policy}
use Rattle.review.specs.Report.{AreAll, AreBarred, AreBarredUnder, AreBroadLines, AreInForce, BarredLines, IsAsked, IsLiveLine, IsOnlyRequest}
use Rattle.review.specs.Report.{IsReport, LinesInForce, conflicts_of, is_open, lesser_first, live_line, report_lines}
use Rattle.review.proofs.NeedLemmas.{one_need_beyond, one_need_over}
use Rattle.sudo_words.proofs.OneSorted.{one_once, one_sorted}

pub names_total : IsTotalOrder name_cmp
names_total = then_total (on_total (λ (n : RequestName). n.by) nat_list_cmp_total) (on_total (λ (n : RequestName). n.no) nat_cmp_total)

pub pairs_total : IsTotalOrder pair_order
pairs_total = then_total (on_total (λ (p : List ℕ × List ℕ). p.0) nat_list_cmp_total) (on_total (λ (p : List ℕ × List ℕ). p.1) nat_list_cmp_total)

-- two whole lists of the same things are the same
one_all : {X : Type 0} (R : X → X → Ordering) (total : IsTotalOrder R) (Is Also : X → Type 0) → ((x : X) → Is x → Also x)
    → ((x : X) → Also x → Is x) → (xs ys : List X) → AreAll R Is xs → AreAll R Also ys → xs ≡ ys
one_all R total Is Also to back xs ys a b =
    one_sorted R total xs ys a.in_order b.in_order (λ z there. b.all z (to z (a.each z there))) (λ z there. a.all z (back z (b.each z there)))

-- parts by two relations that give each element the same lines
one_parts_of_two : {X : Type 0} (IsPart Also : X → List (List ℕ) → Type 0) → ((x : X) (ys zs : List (List ℕ)) → IsPart x ys → Also x zs → ys ≡ zs)
    → (xs : List X) (ys zs : List (List ℕ)) → AreParts IsPart xs ys → AreParts Also xs zs → ys ≡ zs
one_parts_of_two IsPart Also one [] ys zs are also = are ∙ sym also
one_parts_of_two IsPart Also one (x ∷ xs) ys zs are also =
    are.2
    ∙ ap (λ (part : List (List ℕ)). part ++ are.1) (one x are.0 also.0 are.3 also.3)
    ∙ ap (λ (rest : List (List ℕ)). also.0 ++ rest) (one_parts_of_two IsPart Also one xs are.1 also.1 are.4 also.4)
    ∙ sym also.2

module _ (f : RosterFields Cmnd) (s t : List Message) (same : SameMessages s t) where
  same_asked : (u v : List Message) → SameMessages u v → (name : RequestName) → IsAsked u name → IsAsked v name
  same_asked u v e name is = record { request = is.request; asked = (e (Request is.request)).0 is.asked; named = is.named }

  turned : SameMessages t s
  turned m = ((same m).1, (same m).0)

  same_approved : (u v : List Message) → SameMessages u v → (q : RequestFields) (person : List ℕ) → HasApproved u q person → HasApproved v q person
  same_approved u v e q person is = (is.0, (e (Verdict (approval q person is.0))).0 is.1)

  one_name_status : (name : RequestName) (a b : Status) → IsStatus f s name a → IsStatus f t name b → a ≡ b
  one_name_status name a b is also = one_status f t name a b (order_free f s t name a same is) also

  -- a name has one only request, by either list
  one_request : (name : RequestName) (p q : RequestFields) → IsOnlyRequest s name p → IsOnlyRequest t name q → p ≡ q
  one_request name p q is also =
      also.alone.alone p ((same (Request p)).0 is.alone.asked) (is.named.0 ∙ sym also.named.0, is.named.1 ∙ sym also.named.1)

  module _ (Of : RequestFields → Window → List (List ℕ)
      → Type 0) (one : (q : RequestFields) (w : Window) (xs ys : List (List ℕ)) → Of q w xs → Of q w ys → xs ≡ ys) where
    one_lines : (name : RequestName) (o : Option Window) (xs ys : List (List ℕ)) → LinesInForce Of s name o xs → LinesInForce Of t name o ys → xs ≡ ys
    one_lines name None xs ys a b = a ∙ sym b
    one_lines name (Some w) xs ys a b =
        one b.0 w xs ys (subst (λ (q : RequestFields). Of q w xs) (one_request name a.0 b.0 a.1 b.1) a.2) b.2

    one_in_force : (at : ℕ) (name : RequestName) (xs ys : List (List ℕ)) → AreInForce f s at Of name xs → AreInForce f t at Of name ys → xs ≡ ys
    one_in_force at name xs ys a b =
        one_lines name (window_at at b.status) xs ys (subst (λ (x : Status). LinesInForce Of s name (window_at at x) xs)
        (one_name_status name a.status b.status a.status_is b.status_is) a.lines_are) b.lines_are

  -- a person is listed under BARRED for one reason, or is not
  one_why : (c : CeilingFields Cmnd) (q : RequestFields) (person : List ℕ) (x y : Option Reason)
      → IsWhy f c q.by person (HasApprovedAt s q person) x → IsWhy f c q.by person (HasApprovedAt t q person) y → x ≡ y
  one_why c q person None None a b = refl
  one_why c q person None (Some y) a b = absurd (both_ways _ (b.never a.moment ((same (Verdict (approval q person a.moment))).0 a.approved)) a.eligible_then)
  one_why c q person (Some x) None a b = absurd (both_ways _ (a.never b.moment ((same (Verdict (approval q person b.moment))).1 b.approved)) b.eligible_then)
  one_why c q person (Some x) (Some y) a b =
      let sooner : a.first ≤ b.first = a.earliest b.first ((same (Verdict (approval q person b.first))).1 b.approved) in
      let later : b.first ≤ a.first = b.earliest a.first ((same (Verdict (approval q person a.first))).0 a.approved) in
      let first : a.first ≡ b.first = omega (arith, sooner, later) in
      sym a.why_is ∙ ap (λ (at : ℕ). reason f c q.by person at) first ∙ b.why_is

  one_person : (c : CeilingFields Cmnd) (q : RequestFields) (person : List ℕ) (xs ys : List (List ℕ))
      → AreBarredLines f s c q person xs → AreBarredLines f t c q person ys → xs ≡ ys
  one_person c q person xs ys a b = a.2 ∙ ap (barred_for q person) (one_why c q person a.0 b.0 a.1 b.1) ∙ sym b.2

  one_barred_under : (q : RequestFields) (xs ys : List (List ℕ)) → AreBarredUnder f s q xs → AreBarredUnder f t q ys → xs ≡ ys
  one_barred_under q xs ys a b =
      let people : a.people ≡ b.people = one_all text_order nat_list_cmp_total (HasApproved s q) (HasApproved t q)
      (same_approved s t same q) (same_approved t s turned q) a.people b.people a.people_are b.people_are in
      let both : Some a.ceiling ≡ Some b.ceiling = sym a.ceiling_is ∙ b.ceiling_is in
      let ceilings : a.ceiling ≡ b.ceiling = cc in
      one_parts_of_two (AreBarredLines f s b.ceiling q) (AreBarredLines f t b.ceiling q) (one_person b.ceiling q) b.people xs ys
      (subst (λ (ps : List (List ℕ)). AreParts (AreBarredLines f s b.ceiling q) ps xs) people
      (subst (λ (c : CeilingFields Cmnd). AreParts (AreBarredLines f s c q) a.people xs) ceilings a.lines_are))
      b.lines_are

  one_barred_lines : (name : RequestName) (open_is : Bool) (xs ys : List (List ℕ)) → BarredLines f s name open_is xs → BarredLines f t name open_is ys → xs ≡ ys
  one_barred_lines name false xs ys a b = a ∙ sym b
  one_barred_lines name true xs ys a b =
      one_barred_under b.0 xs ys (subst (λ (q : RequestFields). AreBarredUnder f s q xs) (one_request name a.0 b.0 a.1 b.1) a.2) b.2

  one_barred : (name : RequestName) (xs ys : List (List ℕ)) → AreBarred f s name xs → AreBarred f t name ys → xs ≡ ys
  one_barred name xs ys a b =
      one_barred_lines name (is_open b.status) xs ys
      (subst (λ (x : Status). BarredLines f s name (is_open x) xs) (one_name_status name a.status b.status a.status_is b.status_is) a.lines_are) b.lines_are

one_live_line : (base : List Entry) (q : RequestFields) (w : Window) (xs ys : List (List ℕ)) → IsLiveLine base q w xs → IsLiveLine base q w ys → xs ≡ ys
one_live_line base q w xs ys a b =
    let needs : a.0 ≡ b.0 =
    one_need_over (IsNeedOn base q w) (λ host m n. one_need_beyond (grant_scope q host) (own_policy q w host) base m n) q.hosts a.0 b.0 a.1 b.1 in
    a.2 ∙ ap (λ (n : Need). live_line q w n ∷ []) needs ∙ sym b.2

one_broad_lines : (q : RequestFields) (w : Window) (xs ys : List (List ℕ)) → AreBroadLines q w xs → AreBroadLines q w ys → xs ≡ ys
one_broad_lines q w xs ys a b = a ∙ sym b

pub one_report : (f : RosterFields Cmnd) (base : List Entry) (s t : List Message) (at : ℕ) (x y : List ℕ)
    → SameMessages s t → IsReport f base s at x → IsReport f base t at y → x ≡ y
one_report f base s t at x y same a b =
    let back : SameMessages t s = turned f s t same in
    let names : a.names ≡ b.names = one_all name_cmp names_total (IsAsked s) (IsAsked t)
    (same_asked f s t same s t same) (same_asked f s t same t s back) a.names b.names a.names_are b.names_are in
    let pairs : a.pairs ≡ b.pairs = one_once pair_order pairs_total (map lesser_first f.conflicts) a.pairs b.pairs a.pairs_are b.pairs_are in
    let parked : a.parked ≡ b.parked = one_parked t a.parked b.parked (parked_of_set s t a.parked same a.parked_are) b.parked_are in
    let live : a.live ≡ b.live = one_parts_of_two (AreInForce f s at (IsLiveLine base)) (AreInForce f t at (IsLiveLine base))
    (one_in_force f s t same (IsLiveLine base) (one_live_line base) at) b.names a.live b.live
    (subst (λ (ns : List RequestName). AreParts (AreInForce f s at (IsLiveLine base)) ns a.live) names a.live_are) b.live_are in
    let barred : a.barred ≡ b.barred = one_parts_of_two (AreBarred f s) (AreBarred f t) (one_barred f s t same) b.names a.barred b.barred
    (subst (λ (ns : List RequestName). AreParts (AreBarred f s) ns a.barred) names a.barred_are) b.barred_are in
    let broad : a.broad ≡ b.broad = one_parts_of_two (AreInForce f s at AreBroadLines) (AreInForce f t at AreBroadLines)
    (one_in_force f s t same AreBroadLines one_broad_lines at) b.names a.broad b.broad
    (subst (λ (ns : List RequestName). AreParts (AreInForce f s at AreBroadLines) ns a.broad) names a.broad_are) b.broad_are in
    a.text_is
    ∙ ap (λ (l : List (List ℕ)). lines_text (report_lines at l a.barred (flat_map (conflicts_of f at a.pairs) f.people) a.broad a.parked)) live
    ∙ ap (λ (l : List (List ℕ)). lines_text (report_lines at b.live l (flat_map (conflicts_of f at a.pairs) f.people) a.broad a.parked)) barred
    ∙ ap (λ (l : List (List ℕ × List ℕ)). lines_text (report_lines at b.live b.barred (flat_map (conflicts_of f at l) f.people) a.broad a.parked)) pairs
    ∙ ap (λ (l : List (List ℕ)). lines_text (report_lines at b.live b.barred (flat_map (conflicts_of f at b.pairs) f.people) l a.parked)) broad
    ∙ ap (λ (l : List (List ℕ)). lines_text (report_lines at b.live b.barred (flat_map (conflicts_of f at b.pairs) f.people) b.broad l)) parked
    ∙ sym b.text_is

-- Each set of messages has a report at each moment.
use Rattle.std.proofs.Common.{◌≡◌, ℕ, Bool, true, false, ◌&&◌, leb, if◌then◌else◌, List, [], ◌∷◌, ◌++◌, map, Option, Some, None}
use Rattle.std.proofs.Common.{refl, sym, ap₂, subst, inl, inr, arith}
use Rattle.std.specs.List.{Contains, flat_map}
use Rattle.std.specs.Ordering.{ordering_then}
use Rattle.std.specs.declared.cmp.Ordering.{Ordering}
use Rattle.std.specs.declared.cmp.Ordering.TheVariants.{Less, Equal, Greater}
use Rattle.std.proofs.lemmas.Bool.{cases_Bool}
use Rattle.std.proofs.lemmas.List.Elements.{Contains-append_right}
use Rattle.sudo_words.specs.Moment.{IsMoment}
use Rattle.sudo_words.specs.declared.cmnd.Cmnd.{Cmnd}
use Rattle.sudo_policy.specs.declared.entry.Entry.{Entry}
use Rattle.sudo_policy.specs.Policy.{IsPolicy}
use Rattle.messages.specs.Fields.{IsRequest, RequestFields}
use Rattle.messages.specs.Wire.{IsMessage}
use Rattle.messages.specs.declared.request_name.RequestName.{RequestName}
use Rattle.messages.specs.declared.message.Message.{Message}
use Rattle.messages.specs.declared.message.Message.TheVariants.{Request}
use Rattle.roster.specs.Faults.{IsRosterText}
use Rattle.roster.specs.Fields.{RosterFields}
use Rattle.roster.specs.Relations.{pair_order}
use Rattle.grants.specs.Statuses.{IsAdmitted, IsStatus, window_at}
use Rattle.grants.specs.Summaries.{AreApprovals, Kept, StandsFor}
use Rattle.grants.specs.declared.outcome.Status.{Status}
use Rattle.grants.specs.declared.outcome.Status.TheVariants.{Disputed, Lapsed, Refused, Waiting, Void, Granted}
use Rattle.grants.specs.declared.outcome.Window.{Window}
use Rattle.grants.specs.private.Noting.{shown}
use Rattle.grants.proofs.ApprovalLemmas.{are_approvals}
use Rattle.grants.proofs.SomeStatus.{some_status}
use Rattle.outcomes.proofs.Existence.{some_parked, some_summaries}
use Rattle.sudo_words.specs.Lists.{AreParts, text_order}
use Rattle.sudo_words.proofs.Lists.{contains_head}
use Rattle.sudo_beyond.proofs.Existing.{exact_texts, once_of}
use Rattle.review.specs.declared.reason.Reason.{Reason}
use Rattle.review.specs.Barred.{barred_for, reason}
use Rattle.review.specs.Columns.{lines_text}
use Rattle.review.specs.Report.{AreBarred, AreBroadLines, AreInForce, BarredLines, IsLiveLine, IsReport, LinesInForce}
use Rattle.review.specs.Report.{broad_for, conflicts_of, is_open, lesser_first, live_line, report_lines}
use Rattle.review.specs.private.Reporting.{kept_name}
use Rattle.review.specs.private.Whys.{whys}
use Rattle.review.proofs.Approvers.{approvers_are, barred_are}
use Rattle.review.proofs.OfSummaries.{names_of_summaries}
use Rattle.review.proofs.ReportLists.{parts_mapped}
use Rattle.review.proofs.ReportOne.{pairs_total}
use Rattle.review.proofs.SomeNeed.{some_need}

-- pairs that their order does not tell apart are equal
both_tie : (o p : Ordering) → ordering_then o p ≡ Equal → (o ≡ Equal) × (p ≡ Equal)
both_tie Less p e = absurd cc
both_tie Equal p e = (refl, e)
both_tie Greater p e = absurd cc

exact_pairs : (x y : List ℕ × List ℕ) → pair_order x y ≡ Equal → x ≡ y
exact_pairs x y tied =
    let both = both_tie (text_order x.0 y.0) (text_order x.1 y.1) tied in
    ap₂ (λ (a b : List ℕ). (a, b)) (exact_texts x.0 y.0 both.0) (exact_texts x.1 y.1 both.1)

-- where each element has a part, all have
some_parts : {X Y : Type 0} (IsPart : X → List Y → Type 0) (xs : List X)
    → ((x : X) → Contains xs x → (ys : List Y) × IsPart x ys) → (ys : List Y) × AreParts IsPart xs ys
some_parts IsPart [] each = ([], refl)
some_parts IsPart (x ∷ xs) each =
    let here = each x (contains_head x xs) in
    let more = some_parts IsPart xs (λ y there. each y (Contains-append_right (x ∷ []) xs y there)) in
    (here.0 ++ more.0, (here.0, more.0, refl, here.1, more.1))

module _ (f : RosterFields Cmnd) (set : List Message) (known : (m : Message) → Contains set m → IsMessage m) (at : ℕ) where
  -- ---- the lines of a grant in force

  module _ (Of : RequestFields → Window → List (List ℕ) → Type 0) (some : (q : RequestFields)
      (w : Window) → IsRequest q → IsMoment w.start → IsMoment w.end → (lines : List (List ℕ)) × Of q w lines) where
    not_granted : (name : RequestName) (status : Status) → IsStatus f set name status
        → window_at at status ≡ None → (lines : List (List ℕ)) × AreInForce f set at Of name lines
    not_granted name status is none =
        ([], record { status = status; status_is = is; lines_are = subst (λ (o : Option Window). LinesInForce Of set name o []) (sym none) refl })

    in_force : (name : RequestName) (status : Status) → IsStatus f set name status → (lines : List (List ℕ)) × AreInForce f set at Of name lines
    in_force name Disputed is = not_granted name Disputed is refl
    in_force name Lapsed is = not_granted name Lapsed is refl
    in_force name Refused is = not_granted name Refused is refl
    in_force name Waiting is = not_granted name Waiting is refl
    in_force name Void is = not_granted name Void is refl
    in_force name (Granted w) is =
        let q = is.request in
        let is_q : IsRequest q = known (Request q) is.alone.asked in
        let begins : IsMoment w.start = omega (arith, is.is.0.inside.until, is_q.until) in
        let ends : IsMoment w.end = omega (arith, is.is.1.inside.until, is_q.until) in
        let lines = some q w is_q begins ends in
        elim (cases_Bool (leb w.start at && leb at w.end)) as (λ _. (lines : List (List ℕ)) × AreInForce f set at Of name lines) [
          | inl inside ↦ (
            lines.0,
            record {
              status = Granted w;
              status_is = is;
              lines_are =
                  subst (λ (b : Bool). LinesInForce Of set name (if b then Some w else None) lines.0) (sym inside)
                  (q, record { named = is.named; alone = is.alone }, lines.1);
            },
          )
          | inr outside ↦ (
            [],
            record {
              status = Granted w;
              status_is = is;
              lines_are = subst (λ (b : Bool). LinesInForce Of set name (if b then Some w else None) []) (sym outside) refl;
            },
          )
        ]

  -- ---- the lines of people whose approvals do not count

  module _ (k : Kept) (stands : StandsFor set k) where
    not_open : (status : Status) → IsStatus f set (kept_name k) status → is_open status ≡ false
        → (lines : List (List ℕ)) × AreBarred f set (kept_name k) lines
    not_open status is shut =
        ([], record { status = status; status_is = is; lines_are = subst (λ (b : Bool). BarredLines f set (kept_name k) b []) (sym shut) refl })

    opened : (status : Status) → IsStatus f set (kept_name k) status → is_open status ≡ true → (P : RequestFields → Type 0)
        → IsAdmitted f set (kept_name k) P → (lines : List (List ℕ)) × AreBarred f set (kept_name k) lines
    opened status is open_is P admitted =
        let q = admitted.request in
        let c = admitted.admissible.ceiling in
        let own : k.request ≡ q = admitted.alone.alone k.request stands.asked (sym admitted.named.0, sym admitted.named.1) in
        let marks = are_approvals set k.request k.approvals stands.approvals in
        let list : List (List ℕ × ℕ) = map shown k.approvals in
        let are : AreApprovals set q list = subst (λ (r : RequestFields). AreApprovals set r list) own marks in
        let ws = whys (reason f c q.by) list in
        let lines = flat_map (λ (w : List ℕ × Option Reason). barred_for q w.0 w.1) ws in (
          lines,
          record {
            status = status;
            status_is = is;
            lines_are = subst (λ (b : Bool). BarredLines f set (kept_name k) b lines) (sym open_is) (
              q,
              record { named = admitted.named; alone = admitted.alone },
              record {
                ceiling = c;
                people = map (λ (w : List ℕ × Option Reason). w.0) ws;
                ceiling_is = admitted.admissible.may_ask.ceiling_is;
                people_are = approvers_are f set c q list are;
                lines_are = barred_are f set c q list are;
              },
            );
          },
        )

    pub barred : (status : Status) → IsStatus f set (kept_name k) status → (lines : List (List ℕ)) × AreBarred f set (kept_name k) lines
    barred Disputed is = not_open Disputed is refl
    barred Lapsed is = not_open Lapsed is refl
    barred Refused is = opened Refused is refl _ is
    barred Waiting is = opened Waiting is refl _ is
    barred Void is = opened Void is refl _ is
    barred (Granted w) is = opened (Granted w) is refl _ is

-- ---- the whole

pub some_report : (text : List ℕ) (f : RosterFields Cmnd) (base : List Entry) (set : List Message) (at : ℕ) → IsRosterText text f → IsPolicy base
    → ((m : Message) → Contains set m → IsMessage m) → (report : List ℕ) × IsReport f base set at report
some_report text f base set at roster is_base known =
    let list = some_summaries set known in
    let kept = list.0 in
    let status : (k : Kept) → Contains kept k → (status : Status) × IsStatus f set (kept_name k) status =
    λ k there. let stands = list.1.each k there in some_status text f set k roster (known (Request k.request) stands.asked) stands in
    let pairs = once_of pair_order pairs_total exact_pairs (map lesser_first f.conflicts) in
    let live_line_of : (q : RequestFields) (w : Window) → IsRequest q → IsMoment w.start
    → IsMoment w.end → (lines : List (List ℕ)) × IsLiveLine base q w lines =
    λ q w is_q begins ends. let need = some_need base is_base q is_q w begins ends in (live_line q w need.0 ∷ [], (need.0, need.1, refl)) in
    let broad_of : (q : RequestFields) (w : Window) → IsRequest q → IsMoment w.start
    → IsMoment w.end → (lines : List (List ℕ)) × AreBroadLines q w lines =
    λ q w is_q begins ends. (flat_map (broad_for q) q.cmnds, refl) in
    let live = some_parts (λ (k : Kept). AreInForce f set at (IsLiveLine base) (kept_name k)) kept
    (λ k there. let s = status k there in in_force f set known at (IsLiveLine base) live_line_of (kept_name k) s.0 s.1) in
    let barred_lines = some_parts (λ (k : Kept). AreBarred f set (kept_name k)) kept
    (λ k there. let s = status k there in barred f set known at k (list.1.each k there) s.0 s.1) in
    let broad = some_parts (λ (k : Kept). AreInForce f set at AreBroadLines (kept_name k)) kept
    (λ k there. let s = status k there in in_force f set known at AreBroadLines broad_of (kept_name k) s.0 s.1) in
    let parked = some_parked set in (
      lines_text (report_lines at live.0 barred_lines.0 (flat_map (conflicts_of f at pairs.list) f.people) broad.0 parked.0),
      record {
        names = map kept_name kept;
        pairs = pairs.list;
        live = live.0;
        barred = barred_lines.0;
        broad = broad.0;
        parked = parked.0;
        names_are = names_of_summaries set kept list.1;
        pairs_are = pairs.is;
        live_are = parts_mapped (AreInForce f set at (IsLiveLine base)) kept_name kept live.0 live.1;
        barred_are = parts_mapped (AreBarred f set) kept_name kept barred_lines.0 barred_lines.1;
        broad_are = parts_mapped (AreInForce f set at AreBroadLines) kept_name kept broad.0 broad.1;
        parked_are = parked.1;
        text_is = refl;
      },
    )

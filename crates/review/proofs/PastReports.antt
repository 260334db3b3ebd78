-- The reports of rosters that agree until a moment.
use Rattle.std.proofs.Common.{◌≡◌, ℕ, ◌≤◌, Bool, true, false, not, ◌&&◌, if◌then◌else◌, List, []}
use Rattle.std.proofs.Common.{◌∷◌, ◌++◌, map, Option, Some, None, refl, sym, ap, ap₂, ◌∙◌, subst}
use Rattle.std.specs.List.{flat_map}
use Rattle.std.specs.Map.{keys_of}
use Rattle.std.specs.Str.{bytes_eq}
use Rattle.sudo_words.specs.declared.cmnd.Cmnd.{Cmnd}
use Rattle.sudo_policy.specs.declared.entry.Entry.{Entry as PolicyEntry}
use Rattle.messages.specs.Fields.{RequestFields}
use Rattle.messages.specs.declared.request_name.RequestName.{RequestName}
use Rattle.messages.specs.declared.message.Message.{Message}
use Rattle.messages.specs.declared.message.Message.TheVariants.{Verdict}
use Rattle.roster.specs.Agreement.{AgreeUntil}
use Rattle.roster.specs.Fields.{CeilingFields, Entry, RosterFields}
use Rattle.roster.specs.Relations.{pair_order}
use Rattle.roster.proofs.RightLemmas.{against_alike, eligible_until, same_ceiling}
use Rattle.grants.specs.Past.{AreMadeBy}
use Rattle.grants.specs.declared.outcome.Window.{Window}
use Rattle.grants.proofs.PastLaws.{judge_alike, status}
use Rattle.sudo_words.specs.Lists.{AreParts, IsEachOnce}
use Rattle.suspects.specs.LookedAt.{approval}
use Rattle.review.specs.declared.reason.Reason.{Reason}
use Rattle.review.specs.declared.reason.Reason.TheVariants.{Asker, Duty, Conflict}
use Rattle.review.specs.Barred.{AreBarredLines, HasApprovedAt, IsWhy, reason}
use Rattle.review.specs.Columns.{lines_text}
use Rattle.review.specs.Report.{AreBarred, AreBarredUnder, AreBroadLines, AreInForce, BarredLines, IsLiveLine, IsReport}
use Rattle.review.specs.Report.{conflict_for, conflict_line, conflicts_of, is_open, lesser_first, report_lines}

parts_more : {X Y : Type 0} (IsPart Also : X → List Y → Type 0) → ((x : X) (ys : List Y) → IsPart x ys → Also x ys)
    → (xs : List X) (ys : List Y) → AreParts IsPart xs ys → AreParts Also xs ys
parts_more IsPart Also more [] ys are = are
parts_more IsPart Also more (x ∷ xs) ys are =
    (are.0, are.1, are.2, more x are.0 are.3, parts_more IsPart Also more xs are.1 are.4)

flat_same : {X Y : Type 0} (h k : X → List Y) → ((x : X) → h x ≡ k x) → (xs : List X) → flat_map h xs ≡ flat_map k xs
flat_same h k same [] = refl
flat_same h k same (x ∷ xs) = ap₂ (λ a b. a ++ b) (same x) (flat_same h k same xs)

-- the lines under CONFLICTS of one name
abbrev told_of : RosterFields Cmnd → (at : ℕ) → (pairs : List (List ℕ × List ℕ)) → (name : List ℕ) → List (List ℕ)
told_of f at pairs name = flat_map (conflict_for f at name) pairs

by_names : (f : RosterFields Cmnd) (at : ℕ) (pairs : List (List ℕ × List ℕ)) (people : List (List ℕ × List Entry))
    → flat_map (conflicts_of f at pairs) people ≡ flat_map (told_of f at pairs) (keys_of people)
by_names f at pairs [] = refl
by_names f at pairs (p ∷ people) =
    ap (λ (rest : List (List ℕ)). told_of f at pairs p.0 ++ rest) (by_names f at pairs people)

module _ (f g : RosterFields Cmnd) (moment : ℕ) (agree : AgreeUntil moment f g) where
  same_reason : (c : CeilingFields Cmnd) (asker person : List ℕ) (at : ℕ) → at ≤ moment → reason f c asker person at ≡ reason g c asker person at
  same_reason c asker person at early =
      ap₂ (λ h a. if bytes_eq person asker then Some Asker else if not h then Some Duty else if a then Some Conflict else None)
      (agree.duties person c.approve at early) (against_alike f g person c.approve at agree.conflicts (λ duty. agree.duties person duty at early))

  same_conflicts : (at : ℕ) (pairs : List (List ℕ × List ℕ)) → at ≤ moment
      → flat_map (conflicts_of f at pairs) f.people ≡ flat_map (conflicts_of g at pairs) g.people
  same_conflicts at pairs early =
      by_names f at pairs f.people ∙ flat_same (told_of f at pairs) (told_of g at pairs)
      (λ name. flat_same (conflict_for f at name) (conflict_for g at name) (one name) pairs) (keys_of f.people)
      ∙ ap (flat_map (told_of g at pairs)) agree.people ∙ sym (by_names g at pairs g.people)
    where
      one : (name : List ℕ) (pair : List ℕ × List ℕ) → conflict_for f at name pair ≡ conflict_for g at name pair
      one name pair =
          ap₂ (λ a b. if a && b then conflict_line name pair ∷ [] else []) (agree.duties name pair.0 at early) (agree.duties name pair.1 at early)

  module _ (set : List Message) (made : AreMadeBy moment set) where
    in_force : (at : ℕ) (Of : RequestFields → Window → List (List ℕ) → Type 0) (name : RequestName) (lines : List (List ℕ))
        → AreInForce f set at Of name lines → AreInForce g set at Of name lines
    in_force at Of name lines are = record {
      status = are.status;
      status_is = status f g set (judge_alike f g moment set agree made) name are.status are.status_is;
      lines_are = are.lines_are;
    }

    why : (c : CeilingFields Cmnd) (q : RequestFields) (person : List ℕ) (o : Option Reason)
        → IsWhy f c q.by person (HasApprovedAt set q person) o → IsWhy g c q.by person (HasApprovedAt set q person) o
    why c q person None was = record {
      moment = was.moment;
      approved = was.approved;
      eligible_then =
          sym (eligible_until f g moment agree person q.by c was.moment (made (Verdict (approval q person was.moment)) was.approved)) ∙ was.eligible_then;
    }
    why c q person (Some r) barred = record {
      first = barred.first;
      approved = barred.approved;
      earliest = barred.earliest;
      why_is = sym (same_reason c q.by person barred.first (made (Verdict (approval q person barred.first)) barred.approved)) ∙ barred.why_is;
      never = λ at there. sym (eligible_until f g moment agree person q.by c at (made (Verdict (approval q person at)) there)) ∙ barred.never at there;
    }

    barred_person : (c : CeilingFields Cmnd) (q : RequestFields) (person : List ℕ) (lines : List (List ℕ))
        → AreBarredLines f set c q person lines → AreBarredLines g set c q person lines
    barred_person c q person lines are = (are.0, why c q person are.0 are.1, are.2)

    barred_under : (q : RequestFields) (lines : List (List ℕ)) → AreBarredUnder f set q lines → AreBarredUnder g set q lines
    barred_under q lines are = record {
      ceiling = are.ceiling;
      people = are.people;
      ceiling_is = sym (same_ceiling f g moment agree q.ceiling) ∙ are.ceiling_is;
      people_are = are.people_are;
      lines_are =
          parts_more (AreBarredLines f set are.ceiling q) (AreBarredLines g set are.ceiling q) (barred_person are.ceiling q) are.people lines are.lines_are;
    }

    barred_lines : (name : RequestName) (open_is : Bool) (lines : List (List ℕ)) → BarredLines f set name open_is lines → BarredLines g set name open_is lines
    barred_lines name false lines are = are
    barred_lines name true lines are = (are.0, are.1, barred_under are.0 lines are.2)

    barred : (name : RequestName) (lines : List (List ℕ)) → AreBarred f set name lines → AreBarred g set name lines
    barred name lines are = record {
      status = are.status;
      status_is = status f g set (judge_alike f g moment set agree made) name are.status are.status_is;
      lines_are = barred_lines name (is_open are.status) lines are.lines_are;
    }

    pub past_lines : (base : List PolicyEntry) (at : ℕ) (text : List ℕ) → (r : IsReport f base set at text)
        → IsReport g base set at (lines_text (report_lines at r.live r.barred (flat_map (conflicts_of g at r.pairs) g.people) r.broad r.parked))
    past_lines base at text r = record {
      names = r.names;
      pairs = r.pairs;
      live = r.live;
      barred = r.barred;
      broad = r.broad;
      parked = r.parked;
      names_are = r.names_are;
      pairs_are = subst (λ (cs : List (List ℕ × List ℕ)). IsEachOnce pair_order (map lesser_first cs) r.pairs) agree.conflicts r.pairs_are;
      live_are =
          parts_more (AreInForce f set at (IsLiveLine base)) (AreInForce g set at (IsLiveLine base)) (in_force at (IsLiveLine base)) r.names r.live r.live_are;
      barred_are = parts_more (AreBarred f set) (AreBarred g set) barred r.names r.barred r.barred_are;
      broad_are = parts_more (AreInForce f set at AreBroadLines) (AreInForce g set at AreBroadLines) (in_force at AreBroadLines) r.names r.broad r.broad_are;
      parked_are = r.parked_are;
      text_is = refl;
    }

    pub past_report : (base : List PolicyEntry) (at : ℕ) (text : List ℕ) → at ≤ moment → IsReport f base set at text → IsReport g base set at text
    past_report base at text early r =
        subst (IsReport g base set at) (ap (λ (lines : List (List ℕ)). lines_text (report_lines at r.live r.barred lines r.broad r.parked))
        (sym (same_conflicts at r.pairs early)) ∙ sym r.text_is) (past_lines base at text r)

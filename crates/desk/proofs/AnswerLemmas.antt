-- What is answered after two runs that acknowledge the same.
use Rattle.std.proofs.Common.{◌≡◌, ℕ, List, Option, length, ap}
use Rattle.sudo_words.specs.declared.cmnd.Cmnd.{Cmnd}
use Rattle.sudo_policy.specs.declared.entry.Entry.{Entry}
use Rattle.messages.specs.Names.{SameMessages}
use Rattle.messages.specs.declared.request_name.RequestName.{RequestName}
use Rattle.messages.specs.declared.message.Message.{Message}
use Rattle.roster.specs.Fields.{RosterFields}
use Rattle.grants.specs.Summaries.{Kept}
use Rattle.grants.specs.declared.outcome.Status.{Status}
use Rattle.outcomes.specs.HostFile.{Line, AreLines, IsHostFile, IsHostFileAfter, lines_after}
use Rattle.outcomes.specs.Outcomes.{AreLive, ComesTo, LiveGrant}
use Rattle.outcomes.specs.Parked.{AreParked}
use Rattle.outcomes.specs.Summaries.{AllKeepTheSame, AreSummaries}
use Rattle.desk.specs.Runs.{Event, IsRun, SameAcked}
use Rattle.desk.specs.Texts.{AreTexts}
use Rattle.outcomes.proofs.FileLemmas.{one_file, one_file_after, one_lines}
use Rattle.outcomes.proofs.SummaryLemmas.{one_of_summaries, summaries_of_set}
use Rattle.desk.proofs.RunLemmas.{runs_agree}
use Rattle.desk.proofs.TextLemmas.{one_texts}
use Rattle.outcomes.proofs.SetLemmas.{Alike, alike_sets, file_after_alike, file_alike, lines_alike, live_alike}
use Rattle.outcomes.proofs.SetLemmas.{one_live, one_outcome, one_parked, outcome_alike, parked_of_set}

module _ (f : RosterFields Cmnd) (old s t : List Message) (r u : List Event) (acked : SameAcked r u) (first : IsRun f old r s) (second : IsRun f old u t) where
  same_left : SameMessages s t
  same_left = runs_agree f old s t r u acked first second

  left_alike : Alike f s t
  left_alike = alike_sets f s t same_left

  pub same_status : (name : RequestName) (a b : Option Status) → ComesTo f s name a → ComesTo f t name b → a ≡ b
  same_status name a b x y = one_outcome f t name a b (outcome_alike f s t left_alike name a x) y

  pub same_live : (moment : ℕ) (a b : List LiveGrant) → AreLive f s moment a → AreLive f t moment b → a ≡ b
  same_live moment a b x y = one_live f t moment a b (live_alike f s t left_alike moment a x) y

  pub same_parked : (a b : List (List ℕ)) → AreParked s a → AreParked t b → a ≡ b
  same_parked a b x y = one_parked t a b (parked_of_set s t a same_left x) y

  pub same_summaries : (a b : List Kept) → AreSummaries s a → AreSummaries t b → AllKeepTheSame a b
  same_summaries a b x y = one_of_summaries t a b (summaries_of_set s t a same_left x) y

  pub same_file : (base : List Entry) (host a b : List ℕ) → IsHostFile f base s host a → IsHostFile f base t host b → a ≡ b
  same_file base host a b x y = one_file f base t host a b (file_alike f s t left_alike base host a x) y

  pub same_count : (host : List ℕ) (a b : List Line) → AreLines f s host a → AreLines f t host b → length a ≡ length b
  same_count host a b x y = ap length (one_lines f t host a b (lines_alike f s t left_alike host a x) y)

  pub same_file_after : (base : List Entry) (host : List ℕ) (moment : ℕ) (a b : List ℕ)
      → IsHostFileAfter f base s host moment a → IsHostFileAfter f base t host moment b → a ≡ b
  same_file_after base host moment a b x y = one_file_after f base t host moment a b (file_after_alike f s t left_alike base host moment a x) y

  pub same_count_after : (host : List ℕ) (moment : ℕ) (a b : List Line) → AreLines f s host a
      → AreLines f t host b → length (lines_after moment a) ≡ length (lines_after moment b)
  same_count_after host moment a b x y =
      ap (λ (lines : List Line). length (lines_after moment lines)) (one_lines f t host a b (lines_alike f s t left_alike host a x) y)

  pub same_texts : (a b : List (List ℕ)) → AreTexts s a → AreTexts t b → a ≡ b
  same_texts a b x y = one_texts s t a b same_left x y

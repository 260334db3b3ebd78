-- The lines of names, part by part, as a loop adds them.
use Rattle.std.proofs.Common.{◌≡◌, ℕ, ◌+◌, ◌<◌, List, [], take, length, get_or, refl, string_bytes}
use Rattle.sudo_words.specs.declared.cmnd.Cmnd.{Cmnd}
use Rattle.sudo_policy.specs.declared.entry.Entry.{Entry}
use Rattle.messages.specs.declared.message.Message.{Message}
use Rattle.roster.specs.Fields.{RosterFields}
use Rattle.grants.specs.Summaries.{Kept}
use Rattle.review.specs.declared.names.Parts.{Parts}
use Rattle.sudo_words.specs.Lists.{AreParts}
use Rattle.review.specs.private.Names.{AddsName, AreBarredOf, AreBroadOf, AreLiveOf, HaveNames}
use Rattle.review.specs.private.Reporting.{AddsLines}
use Rattle.review.proofs.ReportLists.{more_lines}

-- an empty text has the lines of no names
pub empty_part : (IsPart : Kept → List (List ℕ) → Type 0) (text : List ℕ) → text ≡ [] → AddsLines (AreParts IsPart []) [] text
empty_part IsPart text none = ([], none, refl)

module _ (f : RosterFields Cmnd) (base : List Entry) (set : List Message) (at : ℕ) where
  pub one_more_name : (xs : List Kept) (i : ℕ) (k : Kept) (old new : Parts) → i < length xs → k ≡ get_or xs i k
      → HaveNames f base set at (take i xs) old → AddsName f base set at k old new → HaveNames f base set at (take (i + 1) xs) new
  one_more_name xs i k old new below is have adds = record {
    live = more_lines (AreLiveOf f base set at) xs i k [] (string_bytes old.live) (string_bytes new.live) below is have.live adds.live;
    barred = more_lines (AreBarredOf f set) xs i k [] (string_bytes old.barred) (string_bytes new.barred) below is have.barred adds.barred;
    broad = more_lines (AreBroadOf f set at) xs i k [] (string_bytes old.broad) (string_bytes new.broad) below is have.broad adds.broad;
  }

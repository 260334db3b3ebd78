-- A report's lines for the names under which somebody asks, part by part; only private clauses cite
-- this.
use Rattle.std.specs.Prelude.{ℕ, List, [], string_bytes}
use Rattle.sudo_words.specs.declared.cmnd.Cmnd.{Cmnd}
use Rattle.sudo_policy.specs.declared.entry.Entry.{Entry}
use Rattle.messages.specs.declared.message.Message.{Message}
use Rattle.roster.specs.Fields.{RosterFields}
use Rattle.grants.specs.Summaries.{Kept}
use Rattle.review.specs.declared.names.Parts.{Parts}
use Rattle.sudo_words.specs.Lists.{AreParts}
use Rattle.review.specs.Report.{AreBarred, AreBroadLines, AreInForce, IsLiveLine}
use Rattle.review.specs.private.Reporting.{AddsLines, kept_name}

-- a summary's lines under LIVE, under BARRED and under BROAD
abbrev pub AreLiveOf : RosterFields Cmnd → List Entry
    → List Message → (at : ℕ) → Kept → List (List ℕ) → Type 0
AreLiveOf f base messages at k = AreInForce f messages at (IsLiveLine base) (kept_name k)

abbrev pub AreBarredOf : RosterFields Cmnd → List Message → Kept → List (List ℕ) → Type 0
AreBarredOf f messages k = AreBarred f messages (kept_name k)

abbrev pub AreBroadOf : RosterFields Cmnd → List Message → (at : ℕ) → Kept → List (List ℕ) → Type 0
AreBroadOf f messages at k = AreInForce f messages at AreBroadLines (kept_name k)

-- The summary's lines are added to each part.
pub record AddsName (f : RosterFields Cmnd) (base : List Entry)
    (messages : List Message) (at : ℕ) (k : Kept) (old new : Parts) : Type 0 where
  pub live :
      AddsLines (AreLiveOf f base messages at k) (string_bytes old.live) (string_bytes new.live)
  pub barred :
      AddsLines (AreBarredOf f messages k) (string_bytes old.barred) (string_bytes new.barred)
  pub broad :
      AddsLines (AreBroadOf f messages at k) (string_bytes old.broad) (string_bytes new.broad)

-- Each part has the lines of the summaries, in their order, and no others.
pub record HaveNames (f : RosterFields Cmnd) (base : List Entry)
    (messages : List Message) (at : ℕ) (kept : List Kept) (parts : Parts) : Type 0 where
  pub live : AddsLines (AreParts (AreLiveOf f base messages at) kept) [] (string_bytes parts.live)
  pub barred : AddsLines (AreParts (AreBarredOf f messages) kept) [] (string_bytes parts.barred)
  pub broad : AddsLines (AreParts (AreBroadOf f messages at) kept) [] (string_bytes parts.broad)

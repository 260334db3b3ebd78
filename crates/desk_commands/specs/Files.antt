-- The desk that files make: a roster, and a base policy.
use Rattle.std.specs.Prelude.{◌≡◌, ◌≢◌, ◌⊎◌, ℕ, List, IsUtf8}
use Rattle.sudo_words.specs.declared.cmnd.Cmnd.{Cmnd}
use Rattle.sudo_policy.specs.Spelling.{Spells}
use Rattle.sudo_policy.specs.declared.entry.Entry.{Entry}
use Rattle.sudo_policy.specs.declared.fault.FaultKind.TheVariants.{Line}
use Rattle.sudo_policy.specs.declared.fault.LineFault.TheVariants.{NoMemory}
use Rattle.sudo_policy.specs.declared.fault.ReadFault.{ReadFault}
use Rattle.roster.specs.Fields.{RosterFields}
use Rattle.roster.specs.Faults.{IsLeastFault, IsRosterText}
use Rattle.roster.specs.declared.fault.RosterFault.{RosterFault}
use Rattle.roster.specs.declared.fault.RosterFault.TheVariants as faults
use Rattle.grants.specs.Bases.{FitsBase}
use Rattle.desk.specs.Refusals.{IsWant}
use Rattle.desk.specs.declared.refusal.Refusal.{Refusal}
use Rattle.desk.specs.declared.refusal.Refusal.TheVariants as desk
use Rattle.desk_commands.specs.Kept.{AroundJob}
use Rattle.desk_commands.specs.declared.refusal.JobRefusal.{JobRefusal}
use Rattle.desk_commands.specs.declared.refusal.JobRefusal.TheVariants as reasons

-- the file's bytes are UTF-8, and as a text they are this roster's
pub record IsRosterFile (file : List ℕ) (roster : RosterFields Cmnd) : Type 0 where
  pub utf8 : IsUtf8 file
  pub text : IsRosterText file roster

-- the files make a desk of this roster and this base
pub record AreFilesOf (roster_file base_file : List ℕ)
    (roster : RosterFields Cmnd) (base : List Entry) : Type 0 where
  pub roster_is : IsRosterFile roster_file roster
  pub spelled : Spells base_file base
  pub fits : FitsBase base

-- ---- why files make no desk

-- Bytes that are not UTF-8 are not TOML; else the fault is the least fault of the text. Any file
-- may be refused for want of memory.
abbrev pub IsRosterFault : List ℕ → RosterFault → Type 0
IsRosterFault file fault =
    fault ≢ faults.NoMemory
    → ((fault ≡ faults.NotToml) × (IsUtf8 file → ⊥)) ⊎ (IsUtf8 file × IsLeastFault file fault)

-- where the file spells a policy, the fault is want of memory
abbrev pub IsFaultOf : List ℕ → ReadFault → Type 0
IsFaultOf file fault = (es : List Entry) → Spells file es → fault.kind ≡ Line NoMemory

-- the file is a roster
abbrev pub HoldsRoster : List ℕ → Type 0
HoldsRoster file = (roster : RosterFields Cmnd) × IsRosterFile file roster

-- the file spells a policy that is past a limit of the desk
pub record HasLargeBase (file : List ℕ) : Type 0 where
  pub base : List Entry
  pub spelled : Spells file base
  pub large : FitsBase base → ⊥

-- the files make a desk
abbrev pub MakesDesk : (roster_file base_file : List ℕ) → Type 0
MakesDesk roster_file base_file =
    (roster : RosterFields Cmnd) × (base : List Entry)
    × AreFilesOf roster_file base_file roster base

-- Opening the desk of the files over what a keeper keeps may be refused for this: a base past the
-- limits, else something that is not a desk, a desk of an older form, or one of another roster's
-- text; and want of memory or of the storage anywhere. While the keeper is up there is no other
-- reason.
abbrev pub EndsOpening : (roster_file base_file : List ℕ) → AroundJob → Refusal → Type 0
EndsOpening roster_file base_file k desk.BaseTooLarge =
    HoldsRoster roster_file × HasLargeBase base_file
EndsOpening roster_file base_file k desk.NotADesk = k.up
    → MakesDesk roster_file base_file × (¬ k.before.empty) × (¬ k.before.desk) × (¬ k.before.old)
EndsOpening roster_file base_file k desk.OldSchema =
    k.up → MakesDesk roster_file base_file × k.before.old × (¬ k.before.desk)
EndsOpening roster_file base_file k desk.RosterChanged =
    k.up → MakesDesk roster_file base_file × k.before.desk × (k.before.roster ≢ roster_file)
EndsOpening roster_file base_file k desk.NoMemory = Unit {0}
EndsOpening roster_file base_file k desk.Storage = k.failed
EndsOpening roster_file base_file k _ = ¬ k.up

-- Rebuilding the desk of the files may be refused for this: a base past the limits, else something
-- that is not a desk; and want of memory or of the storage anywhere.
abbrev pub EndsReplacing : (roster_file base_file : List ℕ) → AroundJob → Refusal → Type 0
EndsReplacing roster_file base_file k desk.BaseTooLarge =
    HoldsRoster roster_file × HasLargeBase base_file
EndsReplacing roster_file base_file k desk.NotADesk = k.up
    → MakesDesk roster_file base_file × (¬ k.before.empty) × (¬ k.before.desk) × (¬ k.before.old)
EndsReplacing roster_file base_file k desk.NoMemory = Unit {0}
EndsReplacing roster_file base_file k desk.Storage = k.failed
EndsReplacing roster_file base_file k _ = ⊥

-- The files may make no desk for this: a fault of theirs, or a reason why their desk is refused.
-- The base is looked at where the other file is a roster.
abbrev pub EndsWith : (roster_file base_file : List ℕ) → (Refusal → Type 0) → JobRefusal → Type 0
EndsWith roster_file base_file Ends reasons.FileFailed = ⊥
EndsWith roster_file base_file Ends reasons.BadWord = ⊥
EndsWith roster_file base_file Ends reasons.NoMemory = Unit {0}
EndsWith roster_file base_file Ends (reasons.Roster fault) = IsRosterFault roster_file fault
EndsWith roster_file base_file Ends (reasons.Policy fault) =
    HoldsRoster roster_file × IsFaultOf base_file fault
EndsWith roster_file base_file Ends (reasons.Beyond fault) = ⊥
EndsWith roster_file base_file Ends (reasons.Desk refusal) = Ends refusal

-- no desk of the files is opened, for this
abbrev pub EndsMaking : (roster_file base_file : List ℕ) → AroundJob → JobRefusal → Type 0
EndsMaking roster_file base_file k reason =
    EndsWith roster_file base_file (EndsOpening roster_file base_file k) reason

-- Why an open desk does not take the roster of the file: the file's fault, or want of memory or of
-- the storage.
abbrev pub EndsTakingFile : List ℕ → JobRefusal → Type 0
EndsTakingFile file reasons.FileFailed = ⊥
EndsTakingFile file reasons.BadWord = ⊥
EndsTakingFile file reasons.NoMemory = ⊥
EndsTakingFile file (reasons.Roster fault) = IsRosterFault file fault
EndsTakingFile file (reasons.Policy fault) = ⊥
EndsTakingFile file (reasons.Beyond fault) = ⊥
EndsTakingFile file (reasons.Desk refusal) = IsWant refusal

-- ---- over what a keeper keeps

-- While the keeper is up it keeps a desk then, of the roster's text.
abbrev pub KeepsDesk : (roster_file : List ℕ) → AroundJob → Type 0
KeepsDesk roster_file k = k.up → k.after.desk × (k.after.roster ≡ roster_file)

-- over the desk of the roster and the base that the files make, which the keeper keeps then
abbrev pub OverDesk : (roster_file base_file : List ℕ) → AroundJob
    → (RosterFields Cmnd → List Entry → Type 0) → Type 0
OverDesk roster_file base_file k Answered =
    (roster : RosterFields Cmnd) × (base : List Entry)
    × AreFilesOf roster_file base_file roster base × KeepsDesk roster_file k × Answered roster base

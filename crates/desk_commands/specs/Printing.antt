-- What `print` answers.
use Rattle.std.specs.Prelude.{◌≡◌, ℕ, ◌<◌, true, false, List, length, Option, None, Some}
use Rattle.messages.specs.declared.message.Message.{Message}
use Rattle.sudo_policy.specs.declared.entry.Entry.{Entry}
use Rattle.sudo_words.specs.declared.cmnd.Cmnd.{Cmnd}
use Rattle.roster.specs.Fields.{RosterFields}
use Rattle.roster.specs.Rules.{is_among}
use Rattle.grants.specs.HostFaults.{most_lines}
use Rattle.desk_store.specs.Sets.{Lists, SameSet}
use Rattle.outcomes.specs.HostFile.{AreLines, IsHostFile, IsHostFileAfter, Line, lines_after}
use Rattle.outcomes.specs.Rights.{GivesRights, GivesRightsAfter}
use Rattle.desk.specs.declared.refusal.Refusal.TheVariants as desk
use Rattle.desk_commands.specs.Files.{EndsMaking, AreFilesOf}
use Rattle.desk_commands.specs.Kept.{AroundJob, held}
use Rattle.desk_commands.specs.Taking.{HeldWith, MayFailTaking, Takes}
use Rattle.desk_commands.specs.declared.refusal.JobRefusal.{JobRefusal}
use Rattle.desk_commands.specs.declared.refusal.JobRefusal.TheVariants as reasons
use Rattle.desk_args.specs.declared.status.ExitStatus.{ExitStatus}
use Rattle.desk_args.specs.declared.status.ExitStatus.TheVariants.{Done}
use Rattle.desk_args.specs.declared.task.Store.{Store}

-- the text of the host's file: the whole of it, or without the lines that end before a moment
abbrev pub IsPrinted : RosterFields Cmnd → List Entry
    → List Message → List ℕ → Option ℕ → List ℕ → Type 0
IsPrinted f base messages host None text = IsHostFile f base messages host text
IsPrinted f base messages host (Some moment) text = IsHostFileAfter f base messages host moment text

-- the text gives the host's rights: at every moment, or from one on
abbrev pub HasRights : RosterFields Cmnd → List Entry
    → List Message → List ℕ → Option ℕ → List ℕ → Type 0
HasRights f base messages host None text = GivesRights f base messages host text
HasRights f base messages host (Some moment) text =
    GivesRightsAfter f base messages host moment text

-- the lines that are printed after the base: all, or those that end at a moment or later
abbrev pub lines_printed : Option ℕ → List Line → List Line
lines_printed None lines = lines
lines_printed (Some moment) lines = lines_after moment lines

-- `print` answers with the host's file, over what was held and what the lines of the input bring,
-- where it takes them. It says why the other lines bring none.
pub record PrintsHost (roster : RosterFields Cmnd) (base : List Entry)
    (store : Store) (host : List ℕ) (after : Option ℕ) (old new : Message → Type 0) (Up : Type 0)
    (input : Option (List ℕ)) (status : ExitStatus) (text said : List ℕ) : Type 0 where
  pub lines : List (List ℕ)
  pub taken : Takes store roster input lines said
  pub known : is_among roster.hosts host ≡ true
  pub printed : Up → (messages : List Message) → Lists (HeldWith roster lines old) messages
      → IsPrinted roster base messages host after text
  pub rights : Up → (messages : List Message) → Lists (HeldWith roster lines old) messages
      → HasRights roster base messages host after text
  pub done : status ≡ Done
  pub stays : Up → SameSet (HeldWith roster lines old) new

-- ---- what else printing may end with

-- more than 8,192 lines would be printed after the base
pub record HasManyLines (roster : RosterFields Cmnd) (store : Store) (host : List ℕ)
    (after : Option ℕ) (old : Message → Type 0) (Up : Type 0)
    (input : Option (List ℕ)) : Type 0 where
  pub lines : List (List ℕ)
  pub said : List ℕ
  pub taken : Takes store roster input lines said
  pub known : is_among roster.hosts host ≡ true
  pub many : Up → (messages : List Message) (printed : List Line)
      → Lists (HeldWith roster lines old) messages
      → AreLines roster messages host printed → most_lines < length (lines_printed after printed)

-- `print` may be refused for this. A line that is refused does not end it.
abbrev pub EndsPrinting : (roster_file base_file : List ℕ) (store : Store) (host : List ℕ)
    (after : Option ℕ) → AroundJob → Option (List ℕ) → JobRefusal → Type 0
EndsPrinting roster_file base_file store host after k input reasons.FileFailed = MayFailTaking store
EndsPrinting roster_file base_file store host after k input (reasons.Desk desk.UnknownHost) =
    k.up → (roster : RosterFields Cmnd) × (base : List Entry)
    × AreFilesOf roster_file base_file roster base × (is_among roster.hosts host ≡ false)
EndsPrinting roster_file base_file store host after k input (reasons.Desk desk.TooManyRules) =
    k.up → (roster : RosterFields Cmnd) × (base : List Entry)
    × AreFilesOf roster_file base_file roster base
    × HasManyLines roster store host after (held k.before) k.up input
EndsPrinting roster_file base_file store host after k input reason =
    EndsMaking roster_file base_file k reason

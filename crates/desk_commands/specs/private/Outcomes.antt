-- What a job comes to before its answer is written. For private clauses.
use Rattle.std.specs.Prelude.{◌≡◌, ◌⊎◌, ℕ, false, List, Option, Result}
use Rattle.std.specs.Prelude.{Err, Ok, IfErr, IfOk, string_bytes}
use Rattle.std.specs.Io.KnownBytes.{Appends}
use Rattle.messages.specs.declared.message.Message.{Message}
use Rattle.sudo_words.specs.declared.cmnd.Cmnd.{Cmnd}
use Rattle.roster.specs.Fields.{RosterFields}
use Rattle.roster.specs.Rules.{is_among}
use Rattle.desk_store.specs.declared.keeper.Keeper.{Ghosts}
use Rattle.desk.specs.declared.refusal.Refusal.TheVariants as desk
use Rattle.desk_commands.specs.Answers.{IsAnswer, IsCause}
use Rattle.desk_commands.specs.Files.{HoldsRoster, IsFaultOf, IsRosterFault}
use Rattle.desk_commands.specs.Kept.{AroundJob}
use Rattle.desk_commands.specs.Leaving.{KeepsAfterRefusal, TellsBefore}
use Rattle.desk_commands.specs.Printing.{HasManyLines}
use Rattle.desk_commands.specs.Taking.{MayFailTaking}
use Rattle.desk_commands.specs.Wanting.{IsWanting, ShowsWant, TellsWant}
use Rattle.desk_commands.specs.declared.answer.Answer.{Answer}
use Rattle.desk_commands.specs.declared.refusal.JobRefusal.{JobRefusal}
use Rattle.desk_commands.specs.declared.refusal.JobRefusal.TheVariants as reasons
use Rattle.desk_args.specs.declared.task.Job.{Job}
use Rattle.desk_args.specs.declared.task.Store.{Store}

-- The job has an answer, and what is to be said beside the answer was said on the standard error;
-- or the job is refused for a reason that it may be refused for.
pub record IsOutcome (job : Job) (files : List (List ℕ))
    (k : AroundJob) (input : Option (List ℕ)) (result : Result Answer JobRefusal)
    (err_before err_after : Option (List ℕ)) : Type 0 where
  pub found : IfOk result (λ a. (said : List ℕ) × IsAnswer job files k input a.status
      (string_bytes a.text) said × Appends err_before err_after said)
  pub cause : IfErr result (IsCause job files k input)

-- What a job leaves if it is refused for a cause: at the keeper, and on the standard error before
-- the line that says so.
pub record IsLeft (job : Job) (files : List (List ℕ)) (k : AroundJob) (Same : Type 0)
    (input err_before err_after : Option (List ℕ)) : Type 0 where
  pub kept : k.up → KeepsAfterRefusal job files k Same input
  pub told : TellsBefore job files input err_before err_after

-- memory or the storage was wanting, by what `deliver` came to
abbrev pub ShowsWantIn : Result Answer JobRefusal → Type 0
ShowsWantIn (Ok a) = ShowsWant (string_bytes a.text)
ShowsWantIn (Err reason) = IsWanting reason

-- the same, by what any job came to
abbrev pub WantsIn : Job → Result Answer JobRefusal → Type 0
WantsIn job (Ok a) = TellsWant job (string_bytes a.text)
WantsIn job (Err reason) = IsWanting reason

-- If there is an answer and the disk has been honest, the keeper is up, unless the answer tells of
-- a want.
abbrev pub LivesAfter : {K : Type 0} → Ghosts K
    → (after : K) → (Want : Type 0) → Result Answer JobRefusal → Type 0
LivesAfter g after Want result = IfOk result (λ _. g.is_clean after → Want ⊎ g.is_up after)

-- the files hold no roster and base for this: so they make no desk, whatever is kept
abbrev pub EndsParts : (roster_file base_file : List ℕ) → JobRefusal → Type 0
EndsParts roster_file base_file reasons.NoMemory = Unit {0}
EndsParts roster_file base_file (reasons.Roster fault) = IsRosterFault roster_file fault
EndsParts roster_file base_file (reasons.Policy fault) =
    HoldsRoster roster_file × IsFaultOf base_file fault
EndsParts roster_file base_file reason = ⊥

-- Taking lines may end for this. A line that is refused does not end it.
abbrev pub EndsTaking : (Failed : Type 0) → JobRefusal → Type 0
EndsTaking Failed reasons.FileFailed = Unit {0}
EndsTaking Failed reasons.NoMemory = Unit {0}
EndsTaking Failed (reasons.Desk desk.NoMemory) = Unit {0}
EndsTaking Failed (reasons.Desk desk.Storage) = Failed
EndsTaking Failed reason = ⊥

-- taking the lines that a desk takes may end for this
abbrev pub EndsInput : Store → (Failed : Type 0) → JobRefusal → Type 0
EndsInput store Failed reason = MayFailTaking store × EndsTaking Failed reason

-- `print` over an open desk may be refused for this
abbrev pub EndsFile : RosterFields Cmnd → (store : Store) (host : List ℕ) (after : Option ℕ)
    (old : Message → Type 0) (Up Failed : Type 0) → Option (List ℕ) → JobRefusal → Type 0
EndsFile roster store host after old Up Failed input reasons.FileFailed = MayFailTaking store
EndsFile roster store host after old Up Failed input reasons.NoMemory = Unit {0}
EndsFile roster store host after old Up Failed input (reasons.Desk desk.UnknownHost) =
    is_among roster.hosts host ≡ false
EndsFile roster store host after old Up Failed input (reasons.Desk desk.TooManyRules) =
    HasManyLines roster store host after old Up input
EndsFile roster store host after old Up Failed input (reasons.Desk desk.NoMemory) = Unit {0}
EndsFile roster store host after old Up Failed input (reasons.Desk desk.Storage) = Failed
EndsFile roster store host after old Up Failed input reason = ⊥

-- `review` over an open desk may be refused for this
abbrev pub EndsReport : (store : Store) (Failed : Type 0) → JobRefusal → Type 0
EndsReport store Failed reasons.FileFailed = MayFailTaking store
EndsReport store Failed reasons.NoMemory = Unit {0}
EndsReport store Failed (reasons.Desk desk.NoMemory) = Unit {0}
EndsReport store Failed (reasons.Desk desk.Storage) = Failed
EndsReport store Failed reason = ⊥

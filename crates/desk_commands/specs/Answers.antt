-- What a job answers.
use Rattle.std.specs.Prelude.{◌≡◌, ℕ, List, [], ◌∷◌, ◌++◌, Option}
use Rattle.sudo_policy.specs.Spelling.{Spells}
use Rattle.sudo_policy.specs.Printing.{canon}
use Rattle.sudo_policy.specs.declared.entry.Entry.{Entry}
use Rattle.sudo_decide.specs.Decision.{Decides, decision_text}
use Rattle.sudo_decide.specs.declared.invocation.Invocation.{Invocation}
use Rattle.sudo_decide.specs.declared.decision.Decision.{Decision}
use Rattle.sudo_decide.specs.declared.decision.Decision.TheVariants.{Deny, Allow, AllowNoPassword}
use Rattle.desk_commands.specs.Comparing.{ComparesFiles, EndsComparing}
use Rattle.desk_commands.specs.Delivering.{DeliversLines, EndsDelivering}
use Rattle.desk_commands.specs.Files.{IsFaultOf, OverDesk}
use Rattle.desk_commands.specs.Kept.{AroundJob, held}
use Rattle.desk_commands.specs.Printing.{EndsPrinting, PrintsHost}
use Rattle.desk_commands.specs.Rebuilding.{EndsRebuilding, RebuildsDesk}
use Rattle.desk_commands.specs.Reviewing.{EndsReviewing, ReviewsDesk}
use Rattle.desk_commands.specs.declared.refusal.JobRefusal.{JobRefusal}
use Rattle.desk_commands.specs.declared.refusal.JobRefusal.TheVariants.{BadWord, Beyond as Compared}
use Rattle.desk_commands.specs.declared.refusal.JobRefusal.TheVariants.{Desk, FileFailed, NoMemory}
use Rattle.desk_commands.specs.declared.refusal.JobRefusal.TheVariants.{Policy, Roster}
use Rattle.desk_args.specs.declared.status.ExitStatus.{ExitStatus}
use Rattle.desk_args.specs.declared.status.ExitStatus.TheVariants.{Denied, Done}
use Rattle.desk_args.specs.declared.task.Store.TheVariants.{Memory}
use Rattle.desk_args.specs.declared.task.Job.{Job}
use Rattle.desk_args.specs.declared.task.Job.TheVariants.{Beyond, Check, Decide, Deliver}
use Rattle.desk_args.specs.declared.task.Job.TheVariants.{Print, Rebuild, Review, Serve}

-- how the program ends after the decision
abbrev pub exit_of : Decision → ExitStatus
exit_of Deny = Denied
exit_of Allow = Done
exit_of AllowNoPassword = Done

-- the decision and a newline, with the status that goes with it
abbrev pub IsDecided : Decision → ExitStatus → List ℕ → Type 0
IsDecided decision status text =
    (status ≡ exit_of decision) × (text ≡ decision_text decision ++ 10 ∷ [])

-- `check` answers with the canonical text of the policy that the file spells.
abbrev pub ChecksFile : List ℕ → ExitStatus → List ℕ → Type 0
ChecksFile file status text =
    (es : List Entry) × Spells file es × (status ≡ Done) × (text ≡ canon es)

-- `decide` answers with what the policy that the file spells decides of the invocation.
abbrev pub DecidesByFile : List ℕ → Invocation → ExitStatus → List ℕ → Type 0
DecidesByFile file invocation status text =
    (es : List Entry) × (decision : Decision) × Spells file es
    × Decides es invocation decision × IsDecided decision status text

-- the property holds of the first file
abbrev pub OfFile : (files : List (List ℕ)) → (List ℕ → Type 0) → Type 0
OfFile (file ∷ more) Holds = Holds file
OfFile [] Holds = ⊥

-- the property holds of the first two files
abbrev pub OfFiles : (files : List (List ℕ)) → (List ℕ → List ℕ → Type 0) → Type 0
OfFiles (a ∷ b ∷ more) Holds = Holds a b
OfFiles files Holds = ⊥

-- The job over these files, in the order in which it names them, over what the keeper keeps, and
-- over this input, if it is known, is answered by this text, and ends with this status; `said` is
-- said beside the answer. `serve` has no such answer: what it writes depends on who connects.
abbrev pub IsAnswer : Job → (files : List (List ℕ)) → AroundJob
    → (input : Option (List ℕ)) → ExitStatus → (text said : List ℕ) → Type 0
IsAnswer (Check name) files k input status text said =
    OfFile files (λ file. ChecksFile file status text) × (said ≡ [])
IsAnswer (Decide name invocation) files k input status text said =
    OfFile files (λ file. DecidesByFile file invocation status text) × (said ≡ [])
IsAnswer (Beyond a_name b_name scope) files k input status text said =
    OfFiles files (λ a b. ComparesFiles scope a b status text) × (said ≡ [])
IsAnswer (Deliver places relay) files k input status text said =
    OfFiles files (λ roster base. OverDesk roster base k
    (λ f b. DeliversLines f relay (held k.before) k.after.holds k.up k.failed input status text))
    × (said ≡ [])
IsAnswer (Print places host after) files k input status text said =
    OfFiles files (λ roster base. OverDesk roster base k (λ f b. PrintsHost f b
    places.store host after (held k.before) k.after.holds k.up input status text said))
IsAnswer (Review places at) files k input status text said =
    OfFiles files (λ roster base. OverDesk roster base k (λ f b.
    ReviewsDesk f b places.store at (held k.before) k.after.holds k.up input status text said))
IsAnswer (Rebuild places) files k input status text said =
    OfFiles files (λ roster base. OverDesk roster base k
    (λ f b. RebuildsDesk (held k.before) k.after.holds k.up status text)) × (said ≡ [])
IsAnswer (Serve places addr questions requests) files k input status text said = ⊥

-- The job over these files, what is kept and this input has an answer.
abbrev pub HasAnswer : Job → (files : List (List ℕ)) → AroundJob → (input : Option (List ℕ))
    → Type 0
HasAnswer job files k input =
    (status : ExitStatus) × (text said : List ℕ) × IsAnswer job files k input status text said

-- the job asks a desk, and so a keeper
abbrev pub IsOnDesk : Job → Type 0
IsOnDesk (Deliver places relay) = Unit {0}
IsOnDesk (Print places host after) = Unit {0}
IsOnDesk (Review places at) = Unit {0}
IsOnDesk (Rebuild places) = Unit {0}
IsOnDesk job = ⊥

-- the job takes lines of the input
abbrev pub ReadsInput : Job → Type 0
ReadsInput (Deliver places relay) = Unit {0}
ReadsInput (Print places host after) = places.store ≡ Memory
ReadsInput (Review places at) = places.store ≡ Memory
ReadsInput job = ⊥

-- ---- what else a job may end with

-- `check` and `decide` may be refused for this, before their answer is written
abbrev pub EndsReading : List ℕ → JobRefusal → Type 0
EndsReading file FileFailed = ⊥
EndsReading file BadWord = ⊥
EndsReading file NoMemory = Unit {0}
EndsReading file (Roster fault) = ⊥
EndsReading file (Policy fault) = IsFaultOf file fault
EndsReading file (Compared fault) = ⊥
EndsReading file (Desk refusal) = ⊥

-- a reason of the first file, or that it is missing
abbrev pub CauseOfFile : (files : List (List ℕ)) → (List ℕ → JobRefusal → Type 0)
    → JobRefusal → Type 0
CauseOfFile (file ∷ more) Ends reason = Ends file reason
CauseOfFile [] Ends reason = reason ≡ FileFailed

-- a reason of the first two files, or that one is missing
abbrev pub CauseOfFiles : (files : List (List ℕ))
    → (List ℕ → List ℕ → JobRefusal → Type 0) → JobRefusal → Type 0
CauseOfFiles (a ∷ b ∷ more) Ends reason = Ends a b reason
CauseOfFiles files Ends reason = reason ≡ FileFailed

-- The job over these files, what is kept and this input may be refused for this, before its answer
-- is written. Without its files it is refused, and so is `serve`, which has no answer.
abbrev pub IsCause : Job → (files : List (List ℕ))
    → AroundJob → (input : Option (List ℕ)) → JobRefusal → Type 0
IsCause (Check name) files k input reason = CauseOfFile files EndsReading reason
IsCause (Decide name invocation) files k input reason = CauseOfFile files EndsReading reason
IsCause (Beyond a_name b_name scope) files k input reason =
    CauseOfFiles files (EndsComparing scope) reason
IsCause (Deliver places relay) files k input reason =
    CauseOfFiles files (λ roster base. EndsDelivering roster base k) reason
IsCause (Print places host after) files k input reason = CauseOfFiles files
    (λ roster base. EndsPrinting roster base places.store host after k input) reason
IsCause (Review places at) files k input reason =
    CauseOfFiles files (λ roster base. EndsReviewing roster base places.store k) reason
IsCause (Rebuild places) files k input reason =
    CauseOfFiles files (λ roster base. EndsRebuilding roster base k) reason
IsCause (Serve places addr questions requests) files k input reason = reason ≡ FileFailed

-- the job may be refused for such a reason
abbrev pub HasCause : Job → (files : List (List ℕ)) → AroundJob → (input : Option (List ℕ))
    → Type 0
HasCause job files k input = (reason : JobRefusal) × IsCause job files k input reason

-- When memory or the storage was wanting in a job, so that the keeper may be down after it.
use Rattle.std.specs.Prelude.{◌≡◌, ℕ, List, Result}
use Rattle.desk.specs.Delivery.{WasWantingAmong}
use Rattle.desk.specs.Refusals.{IsWant}
use Rattle.desk.specs.declared.ack.Ack.{Ack}
use Rattle.desk.specs.declared.refusal.Refusal.{Refusal}
use Rattle.desk_commands.specs.Delivering.{answer_lines}
use Rattle.desk_commands.specs.declared.refusal.JobRefusal.{JobRefusal}
use Rattle.desk_commands.specs.declared.refusal.JobRefusal.TheVariants as reasons
use Rattle.desk_args.specs.declared.task.Job.{Job}
use Rattle.desk_args.specs.declared.task.Job.TheVariants.{Deliver}

-- the refusal is one of want: of memory, or of the storage
abbrev pub IsWanting : JobRefusal → Type 0
IsWanting reasons.NoMemory = Unit {0}
IsWanting (reasons.Desk refusal) = IsWant refusal
IsWanting reason = ⊥

-- the text has a line for an answer of want
abbrev pub ShowsWant : List ℕ → Type 0
ShowsWant text =
    (answers : List (Result Ack Refusal)) × (text ≡ answer_lines answers) × WasWantingAmong answers

-- An answer tells of want. Only `deliver` answers so, line by line; any other job is refused then.
abbrev pub TellsWant : Job → (text : List ℕ) → Type 0
TellsWant (Deliver places relay) text = ShowsWant text
TellsWant job text = ⊥

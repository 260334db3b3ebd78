-- What `rebuild` answers.
use Rattle.std.specs.Prelude.{◌≡◌, ℕ, List, codes}
use Rattle.messages.specs.declared.message.Message.{Message}
use Rattle.desk_store.specs.Sets.{SameSet}
use Rattle.desk_commands.specs.Files.{EndsReplacing, EndsWith}
use Rattle.desk_commands.specs.Kept.{AroundJob}
use Rattle.desk_commands.specs.declared.refusal.JobRefusal.{JobRefusal}
use Rattle.desk_args.specs.declared.status.ExitStatus.{ExitStatus}
use Rattle.desk_args.specs.declared.status.ExitStatus.TheVariants.{Done}

-- `rebuild` answers `ok`. What was held is held, also what the new roster does not admit.
pub record RebuildsDesk (old new : Message → Type 0)
    (Up : Type 0) (status : ExitStatus) (text : List ℕ) : Type 0 where
  pub done : status ≡ Done
  pub told : text ≡ codes "ok\n"
  pub stays : Up → SameSet old new

-- `rebuild` may be refused for this: never because the desk has another roster's text or an older
-- form.
abbrev pub EndsRebuilding : (roster_file base_file : List ℕ) → AroundJob → JobRefusal → Type 0
EndsRebuilding roster_file base_file k reason =
    EndsWith roster_file base_file (EndsReplacing roster_file base_file k) reason

-- What `review` answers.
use Rattle.std.specs.Prelude.{◌≡◌, ℕ, List, Option}
use Rattle.messages.specs.declared.message.Message.{Message}
use Rattle.sudo_policy.specs.declared.entry.Entry.{Entry}
use Rattle.sudo_words.specs.declared.cmnd.Cmnd.{Cmnd}
use Rattle.roster.specs.Fields.{RosterFields}
use Rattle.desk_store.specs.Sets.{Lists, SameSet}
use Rattle.review.specs.Report.{IsReport}
use Rattle.desk_commands.specs.Files.{EndsMaking}
use Rattle.desk_commands.specs.Kept.{AroundJob}
use Rattle.desk_commands.specs.Taking.{HeldWith, MayFailTaking, Takes}
use Rattle.desk_commands.specs.declared.refusal.JobRefusal.{JobRefusal}
use Rattle.desk_commands.specs.declared.refusal.JobRefusal.TheVariants as reasons
use Rattle.desk_args.specs.declared.status.ExitStatus.{ExitStatus}
use Rattle.desk_args.specs.declared.status.ExitStatus.TheVariants.{Done}
use Rattle.desk_args.specs.declared.task.Store.{Store}

-- `review` answers with the report at the moment, over what was held and what the lines of the
-- input bring, where it takes them. It says why the other lines bring none.
pub record ReviewsDesk (roster : RosterFields Cmnd) (base : List Entry)
    (store : Store) (at : ℕ) (old new : Message → Type 0) (Up : Type 0) (input : Option (List ℕ))
    (status : ExitStatus) (text said : List ℕ) : Type 0 where
  pub lines : List (List ℕ)
  pub taken : Takes store roster input lines said
  pub reported : Up → (messages : List Message)
      → Lists (HeldWith roster lines old) messages → IsReport roster base messages at text
  pub done : status ≡ Done
  pub stays : Up → SameSet (HeldWith roster lines old) new

-- `review` may be refused for this. A line that is refused does not end it.
abbrev pub EndsReviewing : (roster_file base_file : List ℕ) (store : Store) → AroundJob
    → JobRefusal → Type 0
EndsReviewing roster_file base_file store k reasons.FileFailed = MayFailTaking store
EndsReviewing roster_file base_file store k reason = EndsMaking roster_file base_file k reason

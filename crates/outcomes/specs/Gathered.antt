-- What is known of a set of messages.
use Rattle.std.specs.Prelude.{◌↔◌, List, Contains}
use Rattle.messages.specs.Fields.{VerdictFields}
use Rattle.messages.specs.declared.message.Message.{Message}
use Rattle.grants.specs.Summaries.{Kept}
use Rattle.outcomes.specs.Parked.{IsParked}
use Rattle.outcomes.specs.Summaries.{AreSummaries}

-- summaries, and verdicts that wait for their request
pub record Known : Type 0 where
  pub summaries : List Kept
  pub waiting : List VerdictFields

-- At each name that somebody asks under there is a summary that stands for the set, and at the
-- other names exactly the set's verdicts about them wait.
pub record AreGathered (messages : List Message) (known : Known) : Type 0 where
  pub summaries : AreSummaries messages known.summaries
  pub waiting : (v : VerdictFields) → Contains known.waiting v ↔ IsParked messages v

-- When two sets of messages answer every question alike.
use Rattle.std.specs.Prelude.{◌↔◌, ℕ, List}
use Rattle.sudo_words.specs.declared.cmnd.Cmnd.{Cmnd}
use Rattle.messages.specs.declared.message.Message.{Message}
use Rattle.roster.specs.Fields.{RosterFields}
use Rattle.store_tables.specs.Sets.{Lists}
use Rattle.outcomes.specs.Parked.{AreParked}
use Rattle.outcomes.specs.Same.{GrantTheSame}
use Rattle.desk.specs.Texts.{AreTexts}

-- A desk that holds the one set and a desk that holds the other answer every question alike: lists
-- of their messages grant the same, and have the same parked verdicts and the same texts.
pub record AnswerAlike (f : RosterFields Cmnd) (S T : Message → Type 0) : Type 0 where
  pub grants : (s t : List Message) → Lists S s → Lists T t → GrantTheSame f s t
  pub texts : (s t : List Message) (texts : List (List ℕ))
      → Lists S s → Lists T t → AreTexts s texts ↔ AreTexts t texts
  pub parked : (s t : List Message) (texts : List (List ℕ))
      → Lists S s → Lists T t → AreParked s texts ↔ AreParked t texts

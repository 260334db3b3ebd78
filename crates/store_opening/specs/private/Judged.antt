-- How the rows that were read are judged.
use Rattle.std.specs.Prelude.{◌≡◌, ◌⊎◌, true, Bool, ℕ, List, Option}
use Rattle.std.specs.Prelude.{Some, None, Contains, IsUtf8, string_bytes}
use Rattle.sqlite.specs.Order.{Row}
use Rattle.messages.specs.declared.message.Message.{Message}
use Rattle.store_opening.specs.declared.in_database.Contents.{Contents}
use Rattle.store_opening.specs.private.Reading.{AreBodies, AreHeld, HasForeign, shown_mark}

-- the rows of `desk` and of `messages` show the roster's text and the messages, and nothing else
pub record AreContents (version : ℕ) (desk messages : List Row)
    (roster : List ℕ) (all : List Message) : Type 0 where
  pub marked : shown_mark version desk ≡ Some roster
  pub utf8 : IsUtf8 roster
  pub bodies : AreBodies messages all

-- they show something else
abbrev pub LackContents : ℕ → (desk messages : List Row) → Type 0
LackContents version desk messages =
    ((t : List ℕ) → shown_mark version desk ≡ Some t → ¬ IsUtf8 t) ⊎ HasForeign messages

-- they show these contents and nothing else, or something else
abbrev pub ShowsContents : ℕ → (desk messages : List Row) → Option Contents → Type 0
ShowsContents version desk messages None = LackContents version desk messages
ShowsContents version desk messages (Some c) =
    AreContents version desk messages (string_bytes c.roster) c.messages.items

-- no foreign key refers to the tables, and the rows of the other three are those of the messages
pub record IsWhole (alone : Bool) (all : List Message)
    (names verdicts parked : List Row) : Type 0 where
  pub alone_is : alone ≡ true
  pub held : AreHeld (λ m. Contains all m) names verdicts parked

-- A run of a desk: what the desk is asked, in the order of time, and the set that the run
-- acknowledges.
use Rattle.std.specs.Prelude.{◌⊎◌, List, [], ◌∷◌, Contains, Result}
use Rattle.sudo_words.specs.declared.cmnd.Cmnd.{Cmnd}
use Rattle.messages.specs.Names.{SameMessages}
use Rattle.messages.specs.declared.message.Message.{Message}
use Rattle.roster.specs.Fields.{RosterFields}
use Rattle.store_tables.specs.Sets.{SameSet}
use Rattle.desk.specs.Delivery.{Acknowledges, Delivery, HeldAfter, IsDeliveryAnswer}
use Rattle.desk.specs.declared.ack.Ack.{Ack}
use Rattle.desk.specs.declared.refusal.Refusal.{Refusal}

-- A delivery with its answer, or any question with any answer. What is lost on its way is not an
-- event.
pub data Event : Type 0 where
  Delivered : Delivery → Result Ack Refusal → Event
  Asked : Event

-- From the messages held before, the run leaves these: each delivery is answered, and changes the
-- set, by the rule of deliveries, and a question changes nothing. Only the members of the lists
-- count.
abbrev pub IsRun : RosterFields Cmnd → (old : List Message)
    → List Event → (new : List Message) → Type 0
IsRun f old [] new = SameMessages old new
IsRun f old (Delivered d answer ∷ run) new =
    (held : List Message) × IsDeliveryAnswer f d answer
    × HeldAfter (λ m. Contains old m) d answer (λ m. Contains held m) × IsRun f held run new
IsRun f old (Asked ∷ run) new = IsRun f old run new

-- some delivery of the run brought the message, and was acknowledged
abbrev pub IsAckedIn : List Event → Message → Type 0
IsAckedIn [] m = ⊥
IsAckedIn (Delivered d answer ∷ run) m = Acknowledges d answer m ⊎ IsAckedIn run m
IsAckedIn (Asked ∷ run) m = IsAckedIn run m

-- both runs acknowledge one set of messages
abbrev pub SameAcked : List Event → List Event → Type 0
SameAcked r u = SameSet (IsAckedIn r) (IsAckedIn u)

-- the deliveries, each with its answer, as a run
abbrev pub run_of_deliveries : List Delivery → List (Result Ack Refusal) → List Event
run_of_deliveries [] answers = []
run_of_deliveries (d ∷ ds) [] = []
run_of_deliveries (d ∷ ds) (answer ∷ answers) = Delivered d answer ∷ run_of_deliveries ds answers

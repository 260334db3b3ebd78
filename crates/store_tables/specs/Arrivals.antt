-- What the arrival of a message tells about the message.
use Rattle.store_tables.specs.declared.arrival.Arrival.{Arrival}
use Rattle.store_tables.specs.declared.arrival.Arrival.TheVariants.{New, Held}

-- The message was held before exactly where the answer says so.
abbrev pub IsTold : (WasHeld : Type 0) → Arrival → Type 0
IsTold WasHeld Held = WasHeld
IsTold WasHeld New = ¬ WasHeld

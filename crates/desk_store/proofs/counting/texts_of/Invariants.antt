use Rattle.std.proofs.Common.{◌≡◌, ℕ, Bor, List, map, take}
use Rattle.messages.specs.Wire.{wire}
use Rattle.desk_store.proofs.counting.texts_of.Given as goal

-- the texts are those of the messages that were gone through
abbrev pub invariant-loop-stored : goal.invariant-loop-stored
invariant-loop-stored l = map (λ (t : Bor (List ℕ)). t.now) l.texts.items ≡ map wire (take l.stored-index l.messages)

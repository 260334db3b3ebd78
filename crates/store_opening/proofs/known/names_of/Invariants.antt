use Rattle.std.proofs.Common.{◌≡◌, map, take}
use Rattle.store_opening.specs.private.Names.{name_of}
use Rattle.store_opening.proofs.known.names_of.Given as goal

abbrev pub invariant-loop-one : goal.invariant-loop-one
invariant-loop-one l = l.names.items ≡ map name_of (take l.one-index l.told)

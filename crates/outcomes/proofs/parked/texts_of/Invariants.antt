use Rattle.std.proofs.Common.{◌≡◌, ◌++◌, List, Vec, map}
use Rattle.std.specs.Prelude.{string_bytes}
use Rattle.std.specs.BTreeMap.{values}
use Rattle.std.specs.declared.alloc.Global.{Global}
use Rattle.messages.specs.Fields.{VerdictFields}
use Rattle.messages.specs.Wire.{verdict_text}
use Rattle.outcomes.specs.private.ByName.{in_turn}
use Rattle.outcomes.proofs.parked.texts_of.Given as goal

abbrev pub invariant-loop-verdicts : goal.invariant-loop-verdicts
invariant-loop-verdicts l =
    (seen : List (Vec VerdictFields Global)) × (seen ++ l.verdicts-iterator ≡ values l.waiting)
    × (map string_bytes l.texts.items ≡ map verdict_text (in_turn seen))

use Rattle.std.proofs.Common.{◌≡◌, ◌++◌, map, take}
use Rattle.std.specs.Prelude.{string_bytes}
use Rattle.messages.specs.Wire.{verdict_text}
use Rattle.outcomes.proofs.parked.push_texts.Given as goal

abbrev pub invariant-loop-verdict : goal.invariant-loop-verdict
invariant-loop-verdict l =
    map string_bytes l.texts.items ≡ map string_bytes l.fn.texts.items ++ map verdict_text (take l.verdict-index l.verdicts)

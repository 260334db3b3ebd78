use Rattle.std.proofs.Common.{◌≡◌, ◌++◌, drop, map}
use Rattle.std.specs.Prelude.{string_bytes}
use Rattle.relay_http.specs.Responses.{each_on_a_line}
use Rattle.relay_http.proofs.bodies.lines_text.Given as goal

-- what was written, and then the lines of what is left, are all
abbrev pub invariant-loop-text : goal.invariant-loop-text
invariant-loop-text l = string_bytes l.out ++ each_on_a_line (map string_bytes (drop l.text-index l.texts)) ≡ each_on_a_line (map string_bytes l.texts)

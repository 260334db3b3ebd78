use Rattle.std.proofs.Common.{◌≡◌, ◌++◌, drop, map}
use Rattle.std.specs.Prelude.{string_bytes}
use Rattle.relay_http.specs.Responses.{each_on_a_line, live_grant_line}
use Rattle.relay_http.proofs.bodies.live_text.Given as goal

-- what was written, and then the lines of what is left, are all
abbrev pub invariant-loop-live : goal.invariant-loop-live
invariant-loop-live l = string_bytes l.out ++ each_on_a_line (map live_grant_line (drop l.live-index l.list)) ≡ each_on_a_line (map live_grant_line l.list)

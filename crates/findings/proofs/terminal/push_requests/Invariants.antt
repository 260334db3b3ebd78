use Rattle.std.proofs.Common.{◌≡◌, ◌++◌, drop, string_bytes}
use Rattle.std.specs.List.{flat_map}
use Rattle.findings.specs.Terminal.{request_lines}
use Rattle.findings.proofs.terminal.push_requests.Given as goal

abbrev pub invariant-loop-request : goal.invariant-loop-request
invariant-loop-request l =
    string_bytes l.out ++ flat_map request_lines (drop l.request-index l.requests)
    ≡ string_bytes l.fn.out ++ flat_map request_lines l.requests

use Rattle.std.proofs.Common.{◌≡◌, ◌++◌, true, map, drop, string_bytes}
use Rattle.std.specs.Prelude.{codes}
use Rattle.messages.specs.Wire.{wire}
use Rattle.messages.specs.declared.message.Message.TheVariants.{Request}
use Rattle.findings.specs.Document.{joined}
use Rattle.findings.proofs.document.push_requests.Given as goal

abbrev pub invariant-loop-request : goal.invariant-loop-request
invariant-loop-request l =
    string_bytes l.out ++ joined l.is_first (map (λ q. wire (Request q)) (drop l.request-index l.requests))
    ≡ (string_bytes l.fn.out ++ codes "\"requests\":[") ++ joined true (map (λ q. wire (Request q)) l.requests)

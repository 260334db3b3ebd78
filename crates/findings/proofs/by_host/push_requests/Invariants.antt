use Rattle.std.proofs.Common.{◌≡◌, ◌++◌, drop}
use Rattle.std.specs.List.{flat_map}
use Rattle.findings.specs.Windows.{windows_on}
use Rattle.findings.proofs.by_host.push_requests.Given as goal

abbrev pub invariant-loop-request : goal.invariant-loop-request
invariant-loop-request l =
    l.list.items ++ flat_map (λ q. windows_on l.pick q l.window q.hosts) (drop l.request-index l.requests)
    ≡ l.fn.list.items ++ flat_map (λ q. windows_on l.pick q l.window q.hosts) l.requests

use Rattle.std.proofs.Common.{◌≡◌, ◌++◌, drop}
use Rattle.findings.specs.Windows.{windows_on}
use Rattle.findings.proofs.by_host.push_hosts.Given as goal

abbrev pub invariant-loop-host : goal.invariant-loop-host
invariant-loop-host l =
    l.list.items ++ windows_on l.pick l.request l.window (drop l.host-index l.request.hosts)
    ≡ l.fn.list.items ++ windows_on l.pick l.request l.window l.request.hosts

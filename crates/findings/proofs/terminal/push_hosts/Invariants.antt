use Rattle.std.proofs.Common.{◌≡◌, ◌++◌, true, drop, string_bytes}
use Rattle.std.specs.Prelude.{codes}
use Rattle.findings.specs.Terminal.{beside_heading, headed, wrapped}
use Rattle.findings.proofs.terminal.push_hosts.Given as goal

abbrev pub invariant-loop-host : goal.invariant-loop-host
invariant-loop-host l =
    string_bytes l.out ++ wrapped l.place.room l.place.is_first (drop l.host-index l.hosts)
    ≡ (string_bytes l.fn.out ++ headed (codes "hosts")) ++ wrapped beside_heading true l.hosts

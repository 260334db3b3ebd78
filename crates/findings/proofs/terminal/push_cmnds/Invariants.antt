use Rattle.std.proofs.Common.{◌≡◌, ◌++◌, drop, string_bytes}
use Rattle.std.specs.List.{flat_map}
use Rattle.findings.specs.Terminal.{cmnd_line}
use Rattle.findings.proofs.terminal.push_cmnds.Given as goal

abbrev pub invariant-loop-cmnd : goal.invariant-loop-cmnd
invariant-loop-cmnd l =
    string_bytes l.out ++ flat_map cmnd_line (drop l.cmnd-index l.cmnds) ≡ string_bytes l.fn.out ++ flat_map cmnd_line l.cmnds

use Rattle.std.proofs.Common.{take}
use Rattle.std.specs.List.{flat_map}
use Rattle.sudo_beyond.specs.Cases.{of_target}
use Rattle.sudo_beyond.specs.private.Compared.{IsAnsweredGap}
use Rattle.sudo_beyond.proofs.Gaps.{NoGap}
use Rattle.sudo_beyond.proofs.search.of_host.Given as goal

abbrev pub invariant-loop-runas : goal.invariant-loop-runas
invariant-loop-runas l = NoGap (IsAnsweredGap l.a l.b) (flat_map (of_target l.cases l.user l.host) (take l.runas-index l.cases.targets))

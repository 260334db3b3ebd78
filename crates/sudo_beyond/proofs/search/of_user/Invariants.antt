use Rattle.std.proofs.Common.{take}
use Rattle.std.specs.List.{flat_map}
use Rattle.sudo_beyond.specs.Cases.{of_host}
use Rattle.sudo_beyond.specs.private.Compared.{IsAnsweredGap}
use Rattle.sudo_beyond.proofs.Gaps.{NoGap}
use Rattle.sudo_beyond.proofs.search.of_user.Given as goal

abbrev pub invariant-loop-host : goal.invariant-loop-host
invariant-loop-host l = NoGap (IsAnsweredGap l.a l.b) (flat_map (of_host l.cases l.user) (take l.host-index l.cases.hosts))

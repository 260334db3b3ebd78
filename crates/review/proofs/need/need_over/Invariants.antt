use Rattle.std.proofs.Common.{take}
use Rattle.review.specs.Needs.{IsNeedOn, IsNeedOver}
use Rattle.review.proofs.need.need_over.Given as goal

abbrev pub invariant-loop-host : goal.invariant-loop-host
invariant-loop-host l = IsNeedOver (IsNeedOn l.base l.request l.window) (take l.host-index l.hosts) l.need

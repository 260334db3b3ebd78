use Rattle.std.proofs.Common.{◌≡◌, ◌∷◌, [], take}
use Rattle.std.specs.List.{flat_map}
use Rattle.sudo_beyond.specs.Cases.{invocation_of}
use Rattle.sudo_beyond.specs.private.Compared.{IsAnsweredGap}
use Rattle.sudo_beyond.proofs.Gaps.{NoGap}
use Rattle.sudo_beyond.proofs.search.try_run.Given as goal

abbrev pub invariant-loop-at : goal.invariant-loop-at
invariant-loop-at l = record {
  none : NoGap (IsAnsweredGap l.a l.b) (flat_map (λ t. invocation_of l.fn.i.user l.fn.i.host l.fn.i.runas l.run t ∷ []) (take l.at-index l.cases.moments));
  parts : invocation_of l.fn.i.user l.fn.i.host l.fn.i.runas l.run l.i.at ≡ l.i;
}

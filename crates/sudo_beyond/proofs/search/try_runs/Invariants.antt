use Rattle.std.proofs.Common.{◌≡◌, take}
use Rattle.std.specs.List.{flat_map}
use Rattle.sudo_beyond.specs.Cases.{of_run}
use Rattle.sudo_beyond.specs.private.Compared.{IsAnsweredGap}
use Rattle.sudo_beyond.proofs.Gaps.{NoGap}
use Rattle.sudo_beyond.proofs.search.try_runs.Given as goal

abbrev pub invariant-loop-run : goal.invariant-loop-run
invariant-loop-run l = record {
  none : NoGap (IsAnsweredGap l.a l.b) (flat_map (of_run l.cases l.fn.first.user l.fn.first.host l.fn.first.runas) (take l.run-index l.cases.runs));
  user_is : l.i.user ≡ l.fn.first.user;
  host_is : l.i.host ≡ l.fn.first.host;
  runas_is : l.i.runas ≡ l.fn.first.runas;
}

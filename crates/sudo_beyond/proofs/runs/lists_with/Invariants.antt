use Rattle.std.proofs.Common.{◌≡◌, map, take}
use Rattle.sudo_beyond.specs.private.Gathering.{args_at}
use Rattle.sudo_beyond.proofs.runs.lists_with.Given as goal

abbrev pub invariant-loop-run : goal.invariant-loop-run
invariant-loop-run l = record {
  so_far : l.lists.items ≡ map (λ run. run.args) (take l.run-index l.run-items);
  these : map (λ run. run.args) l.run-items ≡ args_at l.path l.listed;
}

use Rattle.std.proofs.Common.{◌≡◌, ◌≤◌, ◌==◌, false, length, drop}
use Rattle.std.specs.List.{AllByRecursion}
use Rattle.grants.proofs.within.dir_of.Given as goal

-- no slash comes after `end`
abbrev pub invariant-name : goal.invariant-name
invariant-name l = record {
  within : l.end ≤ length l.path;
  name : AllByRecursion (λ b. (b == 47) ≡ false) (drop l.end l.path);
}

abbrev pub decreases-name : goal.decreases-name
decreases-name l = l.end

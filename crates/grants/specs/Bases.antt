-- Which policies may be the base of a host's file.
use Rattle.std.specs.Prelude.{◌≤◌, List, length}
use Rattle.sudo_policy.specs.declared.entry.Entry.{Entry}
use Rattle.sudo_policy.specs.Printing.{canon}
use Rattle.sudo_policy.specs.Policy.{IsPolicy, weight}

-- a policy with a canonical text of at most 1 MiB, 4,096 entries and a weight of 65,536
pub record FitsBase (base : List Entry) : Type 0 where
  pub policy : IsPolicy base
  pub text : length (canon base) ≤ 1_048_576
  pub count : length base ≤ 4_096
  pub light : weight base ≤ 65_536

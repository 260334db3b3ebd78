use Rattle.std.proofs.Common.{ℕ, List, take}
use Rattle.std.specs.List.{Contains}
use Rattle.outcomes.specs.private.Index.{endings_at}
use Rattle.outcomes.proofs.IndexLemmas.{Stays}
use Rattle.outcomes.proofs.index.list_hosts.Given as goal

abbrev pub invariant-loop-host : goal.invariant-loop-host
invariant-loop-host l =
    ((host : List ℕ) → Contains (take l.host-index l.of) host → Contains (endings_at l.hosts host) l.ending)
    × Stays l.fn.hosts l.hosts

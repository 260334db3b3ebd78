-- There is at most one proof that a connection rests, so a ghost field can hold it.
use Rattle.std.proofs.Common.{ap}
use base.Stored.{Coded-set}
use mathlib.Core.Bool.{Bool-set}
use mathlib.Core.HLevel.{Π_prop}
use Rattle.sqlite_schema.specs.declared.schema.Schema.{Schema}
use Rattle.sqlite_schema.specs.contracts.schema.Schema as schema
use Rattle.sqlite_trees.specs.Props.{Trees-set}
use Rattle.sqlite.specs.Effect.{Database}
use Rattle.sqlite.specs.State.{State}
use Rattle.store_tables.specs.SqliteStates.{IsAtRest, Rests}

Schema-set : IsSet Schema
Schema-set = Coded-set schema.the_row.coded

Database-set : IsSet Database
Database-set a b p q = λ i j. record {
  schema = Schema-set a.schema b.schema (ap (λ (d : Database). d.schema) p)
      (ap (λ (d : Database). d.schema) q) i j;
  trees = Trees-set a.trees b.trees (ap (λ (d : Database). d.trees) p)
      (ap (λ (d : Database). d.trees) q) i j;
}

IsAtRest-prop : (s : State) → IsProp (IsAtRest s)
IsAtRest-prop s a b = λ i. record {
  settled = Database-set _ _ a.settled b.settled i;
  autocommit = Bool-set _ _ a.autocommit b.autocommit i;
}

pub Rests-prop : (s : State) → IsProp (Rests s)
Rests-prop s = Π_prop (λ _. IsAtRest-prop s)

use Rattle.std.proofs.Common.{[], ◌∷◌, refl}
use Rattle.std.specs.Prelude.{codes}
use Rattle.outcomes.specs.WorkedSet.{grant}
use Rattle.outcomes.proofs.WorkedGrant.{lines, lines_on, live, parked, text_after, text_on_db1, text_on_db2}
use Rattle.outcomes.proofs.worked.worked_set.Goals as goal

pub returns-clause-parked : goal.returns-clause-parked
returns-clause-parked c = parked

pub returns-clause-before : goal.returns-clause-before
returns-clause-before c = live 1_767_603_599 [] refl

pub returns-clause-first : goal.returns-clause-first
returns-clause-first c = live 1_767_603_600 (grant ∷ []) refl

pub returns-clause-last : goal.returns-clause-last
returns-clause-last c = live 1_767_610_800 (grant ∷ []) refl

pub returns-clause-over : goal.returns-clause-over
returns-clause-over c = live 1_767_610_801 [] refl

pub returns-clause-file : goal.returns-clause-file
returns-clause-file c = record { lines = lines_on (codes "db1"); lines_are = lines (codes "db1"); text_is = text_on_db1 }

pub returns-clause-other_host : goal.returns-clause-other_host
returns-clause-other_host c = record { lines = lines_on (codes "db2"); lines_are = lines (codes "db2"); text_is = text_on_db2 }

pub returns-clause-after : goal.returns-clause-after
returns-clause-after c = record { lines = lines_on (codes "db1"); lines_are = lines (codes "db1"); text_is = text_after }

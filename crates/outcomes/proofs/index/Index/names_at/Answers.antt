use Rattle.std.proofs.Common.{Option, subst}
use Rattle.std.specs.Prelude.{IfOk}
use Rattle.std.specs.BTreeSet.{BTreeSet}
use Rattle.outcomes.specs.declared.index.Ending.{Ending}
use Rattle.outcomes.specs.private.Index.{AreNamesLeft, endings_in, names_lent}
use Rattle.outcomes.proofs.IndexLemmas.{none_at}
use Rattle.outcomes.proofs.index.Index.names_at.Goals as goal

pub returns-in-Some : goal.returns-in-Some
returns-in-Some c =
    subst (λ (o : Option (BTreeSet Ending)). IfOk c.names_left.result (λ names. AreNamesLeft c.args.after.now (endings_in o) (names_lent names.items)))
    c.in-Some.ensures.value c.names_left.ensures

pub returns-in-None : goal.returns-in-None
returns-in-None c =
    subst (λ (o : Option (BTreeSet Ending)). AreNamesLeft c.args.after.now (endings_in o) (names_lent c.new.result.items))
    c.in-None.ensures.value (none_at c.args.after.now c.new.result.items c.new.ensures.items)

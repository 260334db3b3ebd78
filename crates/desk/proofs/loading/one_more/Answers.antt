use Rattle.std.proofs.Common.{ℕ, Option, subst}
use Rattle.desk.specs.private.Known.{IsCounted}
use Rattle.desk.proofs.CountLemmas.{sum_counted}
use Rattle.desk.proofs.loading.one_more.Goals as goal

pub returns-in-Some : goal.returns-in-Some
returns-in-Some c = λ set m lacks of.
    let counted = subst (λ (o : Option ℕ). IsCounted set o) c.in-Some.is of in
    sum_counted c.checked_add.result _ set m c.in-Some.count c.checked_add.ensures lacks counted

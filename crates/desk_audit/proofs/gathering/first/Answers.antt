use Rattle.desk_audit.specs.Told.{name_in}
use Rattle.desk_audit.proofs.ToldLemmas.{told_none}
use Rattle.desk_audit.proofs.gathering.first.Goals as goal

pub returns : goal.returns
returns c = λ set behind nobody.
    let bare = c.nothing-about.ensures in
    c.in_ok-add.ensures set behind (told_none set (name_in c.args.message) c.nothing-about.result bare.requests bare.verdicts nobody)

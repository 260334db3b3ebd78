use Rattle.archive.proofs.Cuts.{same_parked}
use Rattle.archive.proofs.Files.{files, grants, outcomes}
use Rattle.archive.proofs.laws.history_can_be_cut.Goals as goal

pub returns-clause-grants : goal.returns-clause-grants
returns-clause-grants c = λ f set kept later moment cut. grants set kept later moment cut f

pub returns-clause-files : goal.returns-clause-files
returns-clause-files c = λ text f base set kept later moment at host file roster known cut from.
    files set kept later moment cut text f base at host file roster known from

pub returns-clause-statuses : goal.returns-clause-statuses
returns-clause-statuses c = λ f set kept later moment name o cut still. outcomes set kept later moment cut f name o still

pub returns-clause-parked : goal.returns-clause-parked
returns-clause-parked c = λ set kept later moment texts cut. same_parked set kept moment cut later texts

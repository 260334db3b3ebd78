use Rattle.archive_rows.proofs.KeptRows.{kept_rows}
use Rattle.archive_rows.proofs.laws.cut_takes_rows_of_verdicts.Goals as goal

pub returns : goal.returns
returns c = λ set kept moment names verdicts left parked cut rows are. kept_rows set kept moment cut names verdicts left parked rows are

use Rattle.clap.specs.Words.{found_of, rows_of}
use Rattle.desk_args.proofs.Readings.{read_of_line}
use Rattle.desk_args.proofs.Rows.{named_rows}
use Rattle.desk_args.proofs.command_line.named.Goals as goal

pub returns : goal.returns
returns c =
    let is = named_rows c.args.matches.now c.in-Some.name.now (rows_of (found_of c.in-Some.inner.now)) c.in-Some.ensures.name c.in-Some.ensures.rows in
    read_of_line _ _ c.by_name.result is c.by_name.ensures

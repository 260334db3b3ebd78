use Rattle.desk_commands.proofs.FileLemmas.{file_read}
use Rattle.desk_commands.proofs.opening.roster_of.Goals as goal

pub returns-in-Ok : goal.returns-in-Ok
returns-in-Ok c =
    let both = file_read (λ r. r.text) (λ r. r.says) c.args.file.now c.in-Ok.text.now c.read.result
    c.in-Ok.ensures.cases.0 c.in-Ok.ensures.cases.1 c.read.ensures.found c.read.ensures.least in
    record { found = both.0; err = both.1 }

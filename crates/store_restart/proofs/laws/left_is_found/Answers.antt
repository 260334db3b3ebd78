use Rattle.sqlite.specs.Files.{file_state}
use Rattle.store_restart.proofs.FoundLemmas.{shown_is_left}
use Rattle.store_restart.proofs.laws.left_is_found.Goals as goal

pub returns : goal.returns
returns g c = λ image connected may shows. shown_is_left c.args._stopped.now image connected may (file_state c.args._found.now) shows

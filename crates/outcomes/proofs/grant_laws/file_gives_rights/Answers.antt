use Rattle.outcomes.proofs.FileLemmas.{file_gives_rights}
use Rattle.outcomes.proofs.grant_laws.file_gives_rights.Goals as goal

pub returns : goal.returns
returns c = file_gives_rights

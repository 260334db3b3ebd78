use Rattle.outcomes.proofs.LawLemmas.{disputed_status, disputed_windows}
use Rattle.outcomes.proofs.grant_laws.disputed_gives_nothing.Goals as goal

pub returns-clause-status : goal.returns-clause-status
returns-clause-status c = disputed_status

pub returns-clause-window : goal.returns-clause-window
returns-clause-window c = disputed_windows

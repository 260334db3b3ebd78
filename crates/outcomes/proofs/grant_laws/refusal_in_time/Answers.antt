use Rattle.outcomes.proofs.LawLemmas.{late_refusal, refused_status, refused_window}
use Rattle.outcomes.proofs.grant_laws.refusal_in_time.Goals as goal

pub returns-clause-status : goal.returns-clause-status
returns-clause-status c = refused_status

pub returns-clause-window : goal.returns-clause-window
returns-clause-window c = refused_window

pub returns-clause-later : goal.returns-clause-later
returns-clause-later c = λ f set q v complete alone about kind is late. late_refusal f set v kind q alone about complete is late

use Rattle.std.proofs.Common.{arith, subst}
use Rattle.sqlite.specs.Files.{file_state}
use Rattle.sqlite.specs.State.{HasCleanDisk}
use Rattle.store_restart.proofs.stopped.stop.Goals as goal

pub returns-clause-left : goal.returns-clause-left
returns-clause-left g c = λ left there. (
  there.0,
  record {
    left = subst (λ h. (file_state h).may_leave there.0.trees) c.into_connection.ensures.same (c.into_store.ensures.quiet.outcomes there.0.trees there.1);
    sound = there.2;
  },
  there.3,
)

pub returns-clause-clean : goal.returns-clause-clean
returns-clause-clean g c = λ clean.
    subst (λ h. HasCleanDisk (file_state h)) c.into_connection.ensures.same (omega (arith, clean, c.into_store.ensures.quiet.clean))

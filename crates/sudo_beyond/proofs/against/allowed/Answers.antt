use Rattle.sudo_beyond.proofs.Shown.{where_allowed}
use Rattle.sudo_beyond.proofs.against.allowed.Goals as goal

pub returns-in-Ok : goal.returns-in-Ok
returns-in-Ok c = where_allowed c.args.scope.now c.args.a.now _ c.in-Ok.found (rw c.in-Ok.is at c.beyond.ensures.exact)

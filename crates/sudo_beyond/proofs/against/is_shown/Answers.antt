use Rattle.sudo_beyond.proofs.Shown.{shown}
use Rattle.sudo_beyond.proofs.against.is_shown.Goals as goal

pub returns-in-Some : goal.returns-in-Some
returns-in-Some c = λ yes. shown c.args.scope.now c.args.a.now c.args.b.now c.in-Some.i (rw c.in-Some.is at c.in_ok-i.ensures) (c.refuses.ensures yes)

use Rattle.std.proofs.Common.{sym, ◌∙◌}
use Rattle.relay_http.proofs.RouteLemmas.{lacks_at, none_at, takes_at}
use Rattle.relay_http.proofs.routes.Routes.find.Goals as goal

pub returns-then-has : goal.returns-then-has
returns-then-has c =
    let found = c.in-Some.found in
    takes_at c.args.offered c.args.target.now (found.0, found.1.now, found.2.now) c.in-Some.ensures (sym c.has.ensures ∙ c.if-has.true)

pub returns-else-has : goal.returns-else-has
returns-else-has c =
    let found = c.in-Some.found in
    lacks_at c.args.offered c.args.target.now (found.0, found.1.now, found.2.now) c.in-Some.ensures (sym c.has.ensures ∙ c.if-has.false)

pub returns-in-None : goal.returns-in-None
returns-in-None c = none_at c.args.offered c.args.target.now c.in-None.ensures

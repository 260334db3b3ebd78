use Rattle.std.proofs.Common.{◌≡◌, Option, Some, refl, sym, subst}
use Rattle.std.specs.Prelude.{OnOk}
use Rattle.grants.specs.Summaries.{Kept}
use Rattle.outcomes.specs.private.ByName.{at_name}
use Rattle.outcomes.specs.private.InTurn.{AddsAt, live_for}
use Rattle.outcomes.proofs.GivenLists.{kept_stands}
use Rattle.outcomes.proofs.NameMaps.{value_at}
use Rattle.outcomes.proofs.live.push_named.Goals as goal

pub returns-in-Some : goal.returns-in-Some
returns-in-Some c = λ set g.
    let m = c.args.summaries.now in
    let name = c.args.name.now in
    let k = c.in-Some.summary.now in
    let there : at_name m name ≡ Some k = sym c.in-Some.ensures.value in
    subst (λ (o : Option Kept). OnOk c.push_live.result
    (AddsAt c.args.roster.now.says set (live_for c.args.at) o c.args.list.now.items c.push_live.new.list.items)) (sym there)
    (c.push_live.ensures set (kept_stands set m g k (value_at m name k there)))

pub returns-in-None : goal.returns-in-None
returns-in-None c = λ set g.
    subst (λ (o : Option Kept). AddsAt c.args.roster.now.says set (live_for c.args.at) o c.args.list.now.items c.args.list.now.items)
    c.in-None.ensures.value refl

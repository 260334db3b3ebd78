use Rattle.std.proofs.lemmas.Result.{IfOk-weaker}
use Rattle.outcomes.specs.private.Index.{kept_of, names_lent}
use Rattle.outcomes.proofs.ByNameLemmas.{opened}
use Rattle.outcomes.proofs.HostRoll.{live_roll}
use Rattle.outcomes.proofs.LiveLemmas.{are_live}
use Rattle.outcomes.proofs.live.live_in.Goals as goal

pub returns : goal.returns
returns c = λ set are.
    let inside = c.gathered.inside in
    let m = inside.summaries in
    let names = names_lent c.deref.result.now in
    let g = (opened set m inside.waiting c.args.gathered.now c.gathered.view_is c.gathered.invariant.0 are).summaries in
    let roll = live_roll m set g inside.index c.args.at names c.gathered.invariant.1 (rw c.deref.ensures.value c.in_ok-names.ensures) in
    IfOk-weaker c.live_among.result _ _
    (λ list given. are_live c.args.roster.now.says set c.args.at (kept_of m names) roll list.items given) (c.live_among.ensures set g)

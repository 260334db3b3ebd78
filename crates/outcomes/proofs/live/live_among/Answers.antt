use Rattle.std.proofs.Common.{List, take, sym, subst, Bor}
use Rattle.std.proofs.lemmas.List.{take_all}
use Rattle.messages.specs.declared.request_name.RequestName.{RequestName}
use Rattle.grants.specs.Summaries.{Kept}
use Rattle.outcomes.specs.private.ByName.{at_name}
use Rattle.outcomes.specs.private.Index.{kept_of, names_lent}
use Rattle.outcomes.specs.private.InTurn.{Give, live_for}
use Rattle.outcomes.proofs.GivenLists.{some_given}
use Rattle.outcomes.proofs.HostRoll.{lent_more}
use Rattle.outcomes.proofs.live.live_among.Goals as goal

pub loop-name-preserved : goal.loop-name-preserved
loop-name-preserved c = λ set g.
    let l = c.loop-name in
    let f = c.args.roster.now.says in
    let give = live_for c.args.at in
    let m = c.args.summaries.now in
    let names = c.args.names.now in
    let i = l.name-index in
    let n = c.name-item.result in
    let new = c.push_named.new.list.items in
    subst (λ (ks : List Kept). Give f set give ks new) (sym (lent_more m names i n c.loop-name-test.true c.name-item.is))
    (some_given f set give (kept_of m (names_lent (take i names))) (at_name m n.now) l.list.items new
    (l.invariant set g) (c.in_ok-push_named.ensures set g))

pub returns : goal.returns
returns c = λ set g.
    let l = c.loop-name in
    let names = c.args.names.now in
    subst (λ (ns : List (Bor RequestName)). Give c.args.roster.now.says set (live_for c.args.at)
    (kept_of c.args.summaries.now (names_lent ns)) l.list.items) (take_all l.name-index names c.loop-name-test.false) (l.invariant set g)

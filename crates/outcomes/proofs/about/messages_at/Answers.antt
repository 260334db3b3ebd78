use Rattle.std.proofs.Common.{◌≡◌, ◌∙◌, List, ◌++◌, IfOk, map, ap, sym, subst}
use Rattle.messages.specs.Names.{NobodyAsks}
use Rattle.messages.specs.declared.message.Message.{Message}
use Rattle.messages.specs.declared.request_name.RequestName.{RequestName}
use Rattle.outcomes.specs.About.{AreAbout, AreTold}
use Rattle.outcomes.specs.private.ByName.{verdicts_at}
use Rattle.outcomes.proofs.AboutLemmas.{about_waiting}
use Rattle.outcomes.proofs.ByNameLemmas.{opened}
use Rattle.outcomes.proofs.GatherLemmas.{IsAt, of_verdict}
use Rattle.outcomes.proofs.Standing.{name_from_named}
use Rattle.outcomes.proofs.about.messages_at.Goals as goal

pub returns-in-Some : goal.returns-in-Some
returns-in-Some c = λ set are.
    let name = c.args.name.now in
    let inside = c.gathered.inside in
    let by = opened set inside.summaries inside.waiting c.args.gathered.now c.gathered.view_is c.gathered.invariant.0 are in
    let k = c.in-Some.summary.now in
    let is = subst (IsAt set name) (sym c.in-Some.ensures.value) (by.summaries.each name) in
    subst (λ (n : RequestName). IfOk c.messages_of.result (AreTold set n)) (name_from_named k.request name is.named) (c.messages_of.ensures set is.stands)

pub returns-in_ok-push_copies-in-None : goal.returns-in_ok-push_copies-in-None
returns-in_ok-push_copies-in-None c = λ set are.
    let name = c.args.name.now in
    let inside = c.gathered.inside in
    let by = opened set inside.summaries inside.waiting c.args.gathered.now c.gathered.view_is c.gathered.invariant.0 are in
    let nobody : NobodyAsks set name = subst (IsAt set name) (sym c.in-None.ensures.value) (by.summaries.each name) in
    let vs = verdicts_at inside.waiting name in
    let list : c.push_copies.new.list.items ≡ map of_verdict vs =
    c.in_ok-push_copies-in-None.ensures
    ∙ ap (λ (ms : List Message). ms ++ map of_verdict c.waited.result.now) c.new-list.ensures.items
    ∙ ap (map of_verdict) c.waited.ensures in
    subst (λ (ms : List Message). AreAbout set name ms) (sym list) (about_waiting set name vs nobody (by.waiting.each name))

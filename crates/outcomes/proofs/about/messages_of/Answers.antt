use Rattle.std.proofs.Common.{◌≡◌, ◌∙◌, List, [], ◌∷◌, ◌++◌, map, ap, sym, subst}
use Rattle.messages.specs.Fields.{RequestFields, VerdictFields}
use Rattle.messages.specs.Names.{name_of}
use Rattle.messages.specs.declared.message.Message.{Message}
use Rattle.messages.specs.declared.message.Message.TheVariants.{Request}
use Rattle.grants.specs.Summaries.{AreVerdictsOn}
use Rattle.outcomes.specs.About.{AreAbout}
use Rattle.outcomes.proofs.AboutLemmas.{about_asked}
use Rattle.outcomes.proofs.GatherLemmas.{of_verdict}
use Rattle.outcomes.proofs.about.messages_of.Goals as goal

pub returns : goal.returns
returns c = λ set s.
    let q = c.in-Some.request.now in
    let same : q ≡ c.args.summary.now.request = c.in-Some.ensures.value in
    let vs = c.in_ok-verdicts.field-0.items in
    let copy = c.in_ok-clone.field-0 in
    let on : AreVerdictsOn set q vs = subst (λ (r : RequestFields). AreVerdictsOn set r vs) (sym same) (c.in_ok-verdicts.ensures set s) in
    let pushed : c.push.new.self.items ≡ Request q ∷ [] =
    c.in_ok-push.ensures.items
    ∙ ap (λ (ms : List Message). ms ++ Request copy ∷ []) c.new-list.ensures.items
    ∙ ap (λ (r : RequestFields). Request r ∷ []) c.in_ok-clone.ensures.cases in
    let list : c.push_copies.new.list.items ≡ Request q ∷ map of_verdict vs =
    c.in_ok-push_copies.ensures
    ∙ ap (λ (ws : List VerdictFields). c.push.new.self.items ++ map of_verdict ws) c.deref.ensures.value
    ∙ ap (λ (ms : List Message). ms ++ map of_verdict vs) pushed in
    let about : AreAbout set (name_of q) (Request q ∷ map of_verdict vs) = about_asked set q vs (c.in-Some.ensures.alone set s) on in
    subst (λ (ms : List Message). AreAbout set (name_of c.args.summary.now.request) ms) (sym list)
    (subst (λ (r : RequestFields). AreAbout set (name_of r) (Request q ∷ map of_verdict vs)) same about)

use Rattle.std.proofs.Common.{◌≢◌, ◌∙◌, sym, subst, [], ◌∷◌}
use Rattle.messages.specs.Fields.{RequestFields}
use Rattle.messages.specs.Names.{SameName}
use Rattle.messages.specs.declared.message.Message.TheVariants.{Request}
use Rattle.grants.proofs.summary.ask_disputed.Goals as goal

pub returns-clause-stands : goal.returns-clause-stands
returns-clause-stands c = λ p named differ.
    let q = c.args.request.now in
    let first = c.in_ok-summary.ensures.same_request in
    c.dispute.ensures.stands (Request q ∷ []) p (subst (λ (r : RequestFields). SameName p r) (sym first) named)
    (subst (λ (r : RequestFields). p ≢ r) (sym first) differ) c.in_ok-summary.ensures.stands

pub returns-clause-same_request : goal.returns-clause-same_request
returns-clause-same_request c = c.dispute.ensures.same_request ∙ c.in_ok-summary.ensures.same_request

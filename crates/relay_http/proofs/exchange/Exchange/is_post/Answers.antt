use Rattle.std.proofs.Common.{ap, subst}
use Rattle.relay_http.specs.Needs.{HasNoHead, Taken}
use Rattle.relay_http.specs.Stages.{IsStage}
use Rattle.relay_http.specs.declared.exchange.Stage.{Stage}
use Rattle.relay_http.specs.declared.exchange.Stage.TheVariants as stage
use Rattle.relay_http.proofs.StageLemmas.{never_has, no_head_yet}
use Rattle.relay_http.proofs.exchange.Exchange.is_post.Goals as goal

pub returns-in-Begins-clause-head : goal.returns-in-Begins-clause-head
returns-in-Begins-clause-head c = λ h has.
    let come = c.self.inside.come.items in
    let at : IsStage c.self.inside.offered come (stage.Begins c.in-Begins.field-0) =
    subst (λ (s : Stage). IsStage c.self.inside.offered come s) c.in-Begins.is c.self.invariant in
    absurd (subst HasNoHead (ap (λ (t : Taken). t.bytes) c.self.view_is) (no_head_yet come c.in-Begins.field-0 at.0 at.1) h has)

pub returns-in-Broken-clause-head : goal.returns-in-Broken-clause-head
returns-in-Broken-clause-head c = λ h has.
    let come = c.self.inside.come.items in
    let at : IsStage c.self.inside.offered come stage.Broken = subst (λ (s : Stage). IsStage c.self.inside.offered come s) c.in-Broken.is c.self.invariant in
    absurd (subst HasNoHead (ap (λ (t : Taken). t.bytes) c.self.view_is) (never_has come at) h has)

use Rattle.std.proofs.Common.{ap, inr, refl, subst}
use Rattle.relay_http.specs.Needs.{HasNoHead, Taken}
use Rattle.relay_http.specs.Stages.{IsStage}
use Rattle.relay_http.specs.declared.exchange.Stage.{Stage}
use Rattle.relay_http.specs.declared.exchange.Stage.TheVariants as stage
use Rattle.relay_http.proofs.StageLemmas.{no_head_yet}
use Rattle.relay_http.proofs.exchange.Exchange.request.Goals as goal

pub returns-in-Begins : goal.returns-in-Begins
returns-in-Begins c =
    let come = c.self.inside.come.items in
    let at : IsStage c.self.inside.offered come (stage.Begins c.in-Begins.field-0) =
    subst (λ (s : Stage). IsStage c.self.inside.offered come s) c.in-Begins.is c.self.invariant in
    inr (subst HasNoHead (ap (λ (t : Taken). t.bytes) c.self.view_is) (no_head_yet come c.in-Begins.field-0 at.0 at.1), refl)

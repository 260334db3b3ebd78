use Rattle.std.proofs.Common.{◌<◌, ℕ, List, ap, subst, length}
use Rattle.relay_http.specs.Needs.{HasNoHead, IsSettled, Taken}
use Rattle.relay_http.specs.Stages.{IsStage}
use Rattle.relay_http.specs.declared.exchange.Stage.{Stage}
use Rattle.relay_http.specs.declared.exchange.Stage.TheVariants as stage
use Rattle.relay_http.proofs.StageLemmas.{never_settles, no_head_yet}
use Rattle.relay_http.proofs.exchange.Exchange.need.Goals as goal

pub returns-in-Begins : goal.returns-in-Begins
returns-in-Begins c =
    let come = c.self.inside.come.items in
    let at : IsStage c.self.inside.offered come (stage.Begins c.in-Begins.field-0) =
    subst (λ (s : Stage). IsStage c.self.inside.offered come s) c.in-Begins.is c.self.invariant in
    subst (λ (l : List ℕ). HasNoHead l × (length l < 8192)) (ap (λ (t : Taken). t.bytes) c.self.view_is)
    (no_head_yet come c.in-Begins.field-0 at.0 at.1, at.2)

pub returns-in-Found : goal.returns-in-Found
returns-in-Found c =
    let come = c.self.inside.come.items in
    let at : IsStage c.self.inside.offered come (stage.Found c.in-Found.field-0) =
    subst (λ (s : Stage). IsStage c.self.inside.offered come s) c.in-Found.is c.self.invariant in
    subst (λ (t : Taken). IsSettled t.offered t.bytes) c.self.view_is at.1

pub returns-in-Broken : goal.returns-in-Broken
returns-in-Broken c =
    let come = c.self.inside.come.items in
    let at : IsStage c.self.inside.offered come stage.Broken = subst (λ (s : Stage). IsStage c.self.inside.offered come s) c.in-Broken.is c.self.invariant in
    subst (λ (t : Taken). IsSettled t.offered t.bytes) c.self.view_is (never_settles c.self.inside.offered come at)

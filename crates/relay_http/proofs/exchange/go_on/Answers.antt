use Rattle.std.proofs.Common.{take, subst, sym, refl}
use Rattle.relay_http.specs.Stages.{IsStage}
use Rattle.relay_http.specs.declared.exchange.Stage.{Stage}
use Rattle.relay_http.proofs.StageLemmas.{stage_broken, stage_found, stage_lacks, stage_whole}
use Rattle.relay_http.proofs.exchange.go_on.Goals as goal

pub returns-then-more-n : goal.returns-then-more-n
returns-then-more-n c =
    stage_lacks c.args.offered c.args.bytes.now c.in-Lacks.field-0 c.args.from c.in-Lacks.n c.if-more-n.true
    (subst (λ (s : Stage). IsStage c.args.offered (take c.args.from c.args.bytes.now) s) c.in-Lacks.is c.requires.stage)

pub returns-else-more-n : goal.returns-else-more-n
returns-else-more-n c =
    subst (λ (s : Stage). IsStage c.args.offered c.args.bytes.now s) (sym (c.complete.ensures c.in-Lacks.field-0 c.in-Lacks.n refl))
    (stage_whole c.args.offered c.args.bytes.now c.in-Lacks.field-0 c.args.from c.in-Lacks.n c.if-more-n.false
    (subst (λ (s : Stage). IsStage c.args.offered (take c.args.from c.args.bytes.now) s) c.in-Lacks.is c.requires.stage))

pub returns-in-Found : goal.returns-in-Found
returns-in-Found c =
    subst (λ (s : Stage). IsStage c.args.offered c.args.bytes.now s) (sym c.in-Found.is)
    (stage_found c.args.offered c.args.bytes.now c.in-Found.field-0 c.args.from
    (subst (λ (s : Stage). IsStage c.args.offered (take c.args.from c.args.bytes.now) s) c.in-Found.is c.requires.stage))

pub returns-in-Broken : goal.returns-in-Broken
returns-in-Broken c =
    subst (λ (s : Stage). IsStage c.args.offered c.args.bytes.now s) (sym c.in-Broken.is) (stage_broken c.args.bytes.now c.args.from
    (subst (λ (s : Stage). IsStage c.args.offered (take c.args.from c.args.bytes.now) s) c.in-Broken.is c.requires.stage))

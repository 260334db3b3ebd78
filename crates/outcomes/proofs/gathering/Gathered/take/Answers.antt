use Rattle.std.proofs.Common.{[], ◌∷◌, ◌++◌, sym, subst}
use Rattle.std.specs.Prelude.{OnOk}
use Rattle.messages.specs.declared.message.Message.{Message}
use Rattle.messages.specs.declared.message.Message.TheVariants.{Request}
use Rattle.outcomes.specs.Gathered.{AreGathered}
use Rattle.outcomes.proofs.ByNameLemmas.{after_err, after_ok, known, opened, still_by_name}
use Rattle.outcomes.proofs.gathering.Gathered.take.Goals as goal

pub invariant_of-self : goal.invariant_of-self
invariant_of-self c =
    let some = c.self.invariant.0 in (
      still_by_name c.put_request.result some.0 (some.0 ++ Request c.in-Request.request ∷ [])
          c.put_request.new.summaries c.put_request.new.waiting (c.put_request.ensures.known some.0 some.1),
      c.put_request.ensures.listed c.self.invariant.1,
    )

pub returns-in-Request-clause-ok : goal.returns-in-Request-clause-ok
returns-in-Request-clause-ok c = λ set are.
    let inside = c.self.inside in
    let by = opened set inside.summaries inside.waiting c.args.self.now c.self.view_is c.self.invariant.0 are in
    let s = c.put_request.new.summaries in
    let w = c.put_request.new.waiting in
    subst (λ (m : Message). OnOk c.put_request.result (AreGathered (set ++ m ∷ []) (known s w))) (sym c.in-Request.is)
    (after_ok c.put_request.result set (set ++ Request c.in-Request.request ∷ []) s w (c.put_request.ensures.known set by))

pub returns-in-Request-clause-err : goal.returns-in-Request-clause-err
returns-in-Request-clause-err c = λ set are.
    let inside = c.self.inside in
    let by = opened set inside.summaries inside.waiting c.args.self.now c.self.view_is c.self.invariant.0 are in
    after_err c.put_request.result set
    (set ++ Request c.in-Request.request ∷ []) c.put_request.new.summaries c.put_request.new.waiting (c.put_request.ensures.known set by)

pub returns-in-Verdict-clause-ok : goal.returns-in-Verdict-clause-ok
returns-in-Verdict-clause-ok c = λ set are.
    subst (λ (m : Message). OnOk c.hear.result (AreGathered (set ++ m ∷ []) c.hear.new.self)) (sym c.in-Verdict.is) (c.hear.ensures.ok set are)

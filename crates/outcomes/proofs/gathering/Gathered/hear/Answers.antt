use Rattle.std.proofs.Common.{[], ◌∷◌, ◌++◌}
use Rattle.messages.specs.declared.message.Message.TheVariants.{Verdict}
use Rattle.outcomes.proofs.ByNameLemmas.{after_err, after_ok, opened, still_by_name}
use Rattle.outcomes.proofs.gathering.Gathered.hear.Goals as goal

pub invariant_of-self : goal.invariant_of-self
invariant_of-self c =
    let some = c.self.invariant.0 in (
      still_by_name c.put_verdict.result some.0 (some.0 ++ Verdict c.args.verdict.now ∷ [])
          c.put_verdict.new.summaries c.put_verdict.new.waiting (c.put_verdict.ensures.known some.0 some.1),
      c.put_verdict.ensures.listed c.self.inside.index c.self.invariant.1,
    )

pub returns-clause-ok : goal.returns-clause-ok
returns-clause-ok c = λ set are.
    let inside = c.self.inside in
    let by = opened set inside.summaries inside.waiting c.args.self.now c.self.view_is c.self.invariant.0 are in
    after_ok c.put_verdict.result set
    (set ++ Verdict c.args.verdict.now ∷ []) c.put_verdict.new.summaries c.put_verdict.new.waiting (c.put_verdict.ensures.known set by)

pub returns-clause-err : goal.returns-clause-err
returns-clause-err c = λ set are.
    let inside = c.self.inside in
    let by = opened set inside.summaries inside.waiting c.args.self.now c.self.view_is c.self.invariant.0 are in
    after_err c.put_verdict.result set
    (set ++ Verdict c.args.verdict.now ∷ []) c.put_verdict.new.summaries c.put_verdict.new.waiting (c.put_verdict.ensures.known set by)

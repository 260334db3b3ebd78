use Rattle.std.proofs.Common.{◌≡◌, ◌∙◌, true, false, Option, None, ap, sym, subst}
use Rattle.std.specs.declared.ops.Bound.TheVariants.{Included, Unbounded}
use Rattle.grants.specs.Summaries.{Kept}
use Rattle.outcomes.specs.private.ByName.{at_name}
use Rattle.outcomes.specs.private.Walk.{AreEntriesOf}
use Rattle.outcomes.proofs.IndexLemmas.{same_from_test, same_passes}
use Rattle.outcomes.proofs.WalkLemmas.{behind, entries_from, next_is, none_from, none_next, none_rest}
use Rattle.outcomes.proofs.walk.sought.Goals as goal
use Rattle.outcomes.proofs.walk.sought.Goals.{in_default-via-in-Some+else-eq, in_default-via-in_default}

pub returns-in-Some-clause-value : goal.returns-in-Some-clause-value
returns-in-Some-clause-value c =
    let m = c.args.summaries.now in
    let next = c.in-Some.next.now in
    let are = entries_from m (Included c.args.name.now) Unbounded c.range.result (c.range.ensures.in_range tt) in
    sym (next_is m c.range.result c.next.new.self (next, c.in-Some.summary.now) c.in-Some.ensures.steps are)
    ∙ ap (at_name m) (same_from_test next c.args.name.now (sym c.eq.ensures ∙ c.if-eq.true))

pub returns-in-Some-clause-rest : goal.returns-in-Some-clause-rest
returns-in-Some-clause-rest c =
    let m = c.args.summaries.now in
    behind m c.range.result c.next.new.self (c.in-Some.next.now, c.in-Some.summary.now) c.in-Some.ensures.steps
    (entries_from m (Included c.args.name.now) Unbounded c.range.result (c.range.ensures.in_range tt))

pub returns-in_default-clause-value : goal.returns-in_default-clause-value
returns-in_default-clause-value c =
    let m = c.args.summaries.now in
    let name = c.args.name.now in
    let is = c.range.ensures.in_range tt in
    elim c.in_default.branch as (λ _. ◌≡◌ {A = Option Kept} None (at_name m name)) [
      | in_default-via-in-Some+else-eq w ↦
          let next = w.in-Some.next.now in
          sym (none_next m name c.range.result c.next.new.self (next, w.in-Some.summary.now) is w.in-Some.ensures.steps (λ same.
          let wrong : false ≡ true = sym w.if-eq.false ∙ w.eq.ensures ∙ same_passes next name same in
          absurd cc))
      | in_default-via-in_default w ↦ sym (none_from m name c.range.result is w.in_default.ensures.steps.0)
    ]

pub returns-in_default-clause-rest : goal.returns-in_default-clause-rest
returns-in_default-clause-rest c =
    let m = c.args.summaries.now in
    let are = entries_from m (Included c.args.name.now) Unbounded c.range.result (c.range.ensures.in_range tt) in
    elim c.in_default.branch as (λ _. AreEntriesOf m c.next.new.self) [
      | in_default-via-in-Some+else-eq w ↦
          behind m c.range.result c.next.new.self (w.in-Some.next.now, w.in-Some.summary.now) w.in-Some.ensures.steps are
      | in_default-via-in_default w ↦ subst (AreEntriesOf m) (sym w.in_default.ensures.steps.1) (none_rest m)
    ]

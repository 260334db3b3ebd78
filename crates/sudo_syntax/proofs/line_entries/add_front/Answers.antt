use Rattle.std.proofs.Common.{◌≡◌, ◌∷◌, [], ◌∙◌, length, ap, append_assoc, arith}
use Rattle.std.proofs.lemmas.Result.{err_from_is_err_and}
use Rattle.std.specs.Vec.Iter.{into_iter_items}
use Rattle.sudo_policy.specs.Inheritance.{rules_of}
use Rattle.sudo_syntax.proofs.EntryLemmas.{front_is}
use Rattle.sudo_syntax.proofs.line_entries.add_front.Goals as goal

pub returns-in_err-held-2-clause-only : goal.returns-in_err-held-2-clause-only
returns-in_err-held-2-clause-only c = λ all.
    let l = c.loop-spec in
    let p = err_from_is_err_and c.from_residual-in_err-held-2.result c.from_residual-in_err-held-2.ensures.1 in
    let next : into_iter_items l.spec-iterator ≡ c.in-Some.spec ∷ into_iter_items c.next.new.self = c.in-Some.ensures.steps.0 in
    let one = rules_of c.args.users.now c.args.hosts.now l.held (c.in-Some.spec ∷ []) in
    rw (p.1, p.2) (c.in_err-held-2.ensures.only (front_is l.draft.entries.items one _ _ (rw next at l.invariant.whole) all))

pub loop-spec-preserved : goal.loop-spec-preserved
loop-spec-preserved c =
    let l = c.loop-spec in
    let next : into_iter_items l.spec-iterator ≡ c.in-Some.spec ∷ into_iter_items c.next.new.self = c.in-Some.ensures.steps.0 in
    let added = c.in_ok-held-2.ensures in
    record {
      draft = added.found.draft;
      whole = rw (added.found.entries, added.after) (append_assoc l.draft.entries.items _ _ ∙ rw next at l.invariant.whole);
      are = rw added.after (rw next at l.invariant.are).1;
      behind = rw added.after (rw next at l.invariant.behind);
      rest =
          let was = l.invariant.rest in
          let gone = c.in-Some.ensures.steps.1 in
          let short = ap length next in
          omega arith;
    }

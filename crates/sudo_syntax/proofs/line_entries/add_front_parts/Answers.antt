use Rattle.std.proofs.Common.{◌≡◌, ◌∷◌, ◌∙◌, length, ap, append_assoc, arith}
use Rattle.std.proofs.lemmas.Result.{err_from_is_err_and}
use Rattle.std.specs.Vec.Iter.{into_iter_items}
use Rattle.sudo_syntax.proofs.EntryLemmas.{front_is, parts_are, parts_next}
use Rattle.sudo_syntax.proofs.line_entries.add_front_parts.Goals as goal

pub add_part-requires-clause-entries : goal.add_part-requires-clause-entries
add_part-requires-clause-entries c =
    let next : into_iter_items c.loop-part.part-iterator ≡ c.in-Some.part ∷ into_iter_items c.next.new.self = c.in-Some.ensures.steps.0 in
    (parts_are c.args.users.now c.in-Some.part (into_iter_items c.next.new.self) (rw next at c.loop-part.invariant.are)).0

pub returns-in_err-add_part-clause-only : goal.returns-in_err-add_part-clause-only
returns-in_err-add_part-clause-only c = λ all.
    let l = c.loop-part in
    let p = err_from_is_err_and c.from_residual.result c.from_residual.ensures.1 in
    let next : into_iter_items l.part-iterator ≡ c.in-Some.part ∷ into_iter_items c.next.new.self = c.in-Some.ensures.steps.0 in
    let whole = parts_next c.args.users.now l.draft.entries.items c.in-Some.part (into_iter_items c.next.new.self) _ (rw next at l.invariant.whole) in
    rw (p.1, p.2) (c.in_err-add_part.ensures.only (front_is l.draft.entries.items _ _ _ whole all))

pub loop-part-preserved : goal.loop-part-preserved
loop-part-preserved c =
    let l = c.loop-part in
    let next : into_iter_items l.part-iterator ≡ c.in-Some.part ∷ into_iter_items c.next.new.self = c.in-Some.ensures.steps.0 in
    let others = into_iter_items c.next.new.self in
    let added = c.in_ok-add_part.ensures.found in
    record {
      draft = added.draft;
      whole = rw added.entries
          (append_assoc l.draft.entries.items _ _ ∙ parts_next c.args.users.now l.draft.entries.items c.in-Some.part others _ (rw next at l.invariant.whole));
      are = (parts_are c.args.users.now c.in-Some.part others (rw next at l.invariant.are)).1;
      rest =
          let was = l.invariant.rest in
          let gone = c.in-Some.ensures.steps.1 in
          let short = ap length next in
          omega arith;
    }

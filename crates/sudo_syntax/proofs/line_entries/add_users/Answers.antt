use Rattle.std.proofs.Common.{◌≡◌, ◌∷◌, [], ◌∙◌, length, map, ap, append_assoc, arith}
use Rattle.std.proofs.lemmas.Result.{err_from_is_err_and}
use Rattle.std.specs.Vec.Iter.{into_iter_items}
use Rattle.sudo_policy.specs.declared.entry.Entry.TheVariants as entries
use Rattle.sudo_syntax.proofs.EntryLemmas.{front_is}
use Rattle.sudo_syntax.proofs.line_entries.add_users.Goals as goal

pub returns-in_err-add-clause-only : goal.returns-in_err-add-clause-only
returns-in_err-add-clause-only c = λ all.
    let l = c.loop-def in
    let p = err_from_is_err_and c.from_residual.result c.from_residual.ensures.1 in
    let next : into_iter_items l.def-iterator ≡ c.in-Some.def ∷ into_iter_items c.next.new.self = c.in-Some.ensures.steps.0 in
    let one = entries.UserAlias c.in-Some.def.name c.in-Some.def.list ∷ [] in
    rw (p.1, p.2) (c.in_err-add.ensures.only
    (front_is l.draft.entries.items one (map (λ d. entries.UserAlias d.name d.list) (into_iter_items c.next.new.self)) _ (rw next at l.invariant.whole) all))

pub loop-def-preserved : goal.loop-def-preserved
loop-def-preserved c =
    let l = c.loop-def in
    let next : into_iter_items l.def-iterator ≡ c.in-Some.def ∷ into_iter_items c.next.new.self = c.in-Some.ensures.steps.0 in
    record {
      draft = c.in_ok-add.ensures.found.draft;
      whole = rw c.in_ok-add.ensures.found.entries (append_assoc l.draft.entries.items _ _ ∙ rw next at l.invariant.whole);
      are = (rw next at l.invariant.are).1;
      rest =
          let was = l.invariant.rest in
          let gone = c.in-Some.ensures.steps.1 in
          let short = ap length next in
          omega arith;
    }

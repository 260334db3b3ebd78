use Rattle.std.proofs.Common.{◌≤◌, ◌||◌, Bool, suc, ◌-◌, length, refl, sym, ap, ◌∙◌, arith}
use Rattle.std.specs.List.{list_any}
use Rattle.store_opening.specs.private.Names.{is_at}
use Rattle.store_opening.proofs.NameLemmas.{added_at, kept_at, none_left, or_end}
use Rattle.store_opening.proofs.names.disputed.Goals as goal
use Rattle.store_opening.proofs.names.disputed.Goals.{then-differ+in_ok-push, else-differ}

pub loop-i-preserved : goal.loop-i-preserved
loop-i-preserved c = (
  omega arith,
  λ asker number. elim c.if-differ.branch [
    | then-differ+in_ok-push w ↦ rw (w.names-is, w.in_ok-push.ensures.items) (added_at asker number c.loop-i.names.items c.args.asked.now
        c.loop-i.i _ c.loop-i.invariant.0 c.loop-i-test.true (c.loop-i.invariant.1 asker number) (sym c.differ.ensures ∙ w.if-differ.true) _ refl)
    | else-differ w ↦ rw w.names-is (kept_at asker number c.loop-i.names.items c.args.asked.now c.loop-i.i _ c.loop-i.invariant.0 c.loop-i-test.true
        (c.loop-i.invariant.1 asker number) (sym c.differ.ensures ∙ w.if-differ.false))
  ],
)

pub returns : goal.returns
returns c asker number =
    let short : length c.args.asked.now ≤ suc (c.loop-i.i - 1) = omega arith in
    let found = list_any (is_at asker number) c.loop-i.names.items in
    sym (or_end found) ∙ ap (λ (b : Bool). found || b) (sym (none_left asker number c.args.asked.now (c.loop-i.i - 1) short))
    ∙ c.loop-i.invariant.1 asker number

use Rattle.std.proofs.Common.{◌≡◌, List, [], ◌∷◌, ◌++◌, ◌∙◌, rules, refl, ap, sym, subst, append_assoc}
use Rattle.outcomes.specs.declared.index.Ending.{Ending}
use Rattle.outcomes.specs.private.Index.{names_lent}
use Rattle.outcomes.proofs.IndexLemmas.{AreLeft, left_in_order, left_more, left_whole, none_left}
use Rattle.outcomes.proofs.index.names_left.Goals as goal
use Rattle.outcomes.proofs.index.names_left.Goals.{in-None, in-Some+then-not-is_left}

pub loop-ending-init : goal.loop-ending-init
loop-ending-init c = record {
  seen = [];
  split = search rules;
  sorted = search rules;
  left = none_left c.args.after.now c.new-names.result.items c.new-names.ensures.items;
}

pub loop-ending-preserved : goal.loop-ending-preserved
loop-ending-preserved c =
    let l = c.loop-ending in
    let seen = l.invariant.seen in
    let e = c.in-Some.ending.now in
    record {
      seen = e ∷ seen;
      split = sym (append_assoc c.next.new.self.iter (e ∷ []) seen)
          ∙ ap (λ (es : List Ending). es ++ seen) (sym c.in-Some.ensures.steps)
          ∙ l.invariant.split;
      sorted = l.invariant.sorted;
      left = left_more c.args.after.now seen l.names.items c.push.new.self.items e _ c.in_ok-push.ensures.items refl
          (sym c.is_left.ensures ∙ c.if-not-is_left.false) l.invariant.left;
    }

pub returns : goal.returns
returns c =
    let l = c.loop-ending in
    let seen = l.invariant.seen in
    let after = c.args.after.now in
    let keys = c.args.endings.now.keys in
    let names = l.names.items in
    let whole : AreLeft after keys (names_lent names) = elim c.match-next.branch as (λ _. AreLeft after keys (names_lent names)) [
      | in-None w ↦ subst (λ (es : List Ending). AreLeft after es (names_lent names))
          (ap (λ (es : List Ending). es ++ seen) (sym w.in-None.ensures.steps.0) ∙ l.invariant.split) l.invariant.left
      | in-Some+then-not-is_left w ↦
          let e = w.in-Some.ending.now in
          let split : (c.next.new.self.iter ++ e ∷ []) ++ seen ≡ keys =
          ap (λ (es : List Ending). es ++ seen) (sym w.in-Some.ensures.steps) ∙ l.invariant.split in
          left_whole after c.next.new.self.iter seen keys e (names_lent names) split l.invariant.sorted
          (sym w.is_left.ensures ∙ w.if-not-is_left.true) l.invariant.left
    ] in
    left_in_order after keys names c.sort_unstable.new.self.items c.dedup.new.self.items whole
    c.sort_unstable.ensures.permutation c.sort_unstable.ensures.sorted c.dedup.ensures.filtered

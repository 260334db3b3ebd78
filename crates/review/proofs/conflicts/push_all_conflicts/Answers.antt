use Rattle.std.proofs.Common.{◌++◌, string_bytes, List, ℕ, map, ap, subst, ◌∙◌}
use Rattle.std.specs.List.{flat_map}
use Rattle.std.proofs.lemmas.List.{take_all}
use Rattle.roster.specs.Fields.{Entry}
use Rattle.roster.specs.Relations.{pair_order}
use Rattle.sudo_words.specs.Lists.{IsEachOnce}
use Rattle.review.specs.Columns.{lines_text}
use Rattle.review.specs.Report.{conflict_for, conflicts_of, lesser_first}
use Rattle.review.proofs.ReportLists.{flat_more}
use Rattle.review.proofs.conflicts.push_all_conflicts.Goals as goal

pub loop-entry-preserved : goal.loop-entry-preserved
loop-entry-preserved c =
    let f = c.args.roster.now.says in
    let mid = string_bytes c.loop-entry.out in
    flat_more (conflicts_of f c.args.at c.in_order-pairs.result.items) c.people-entry-items.result.now c.loop-entry.entry-index c.entry-item.result
    (string_bytes c.args.out.now) mid (string_bytes c.push_conflicts.new.out) c.loop-entry-test.true c.entry-item.is c.loop-entry.invariant
    (c.in_ok-push_conflicts.ensures
    ∙ ap (λ (pairs : List (List ℕ × List ℕ)). mid ++ lines_text (flat_map (conflict_for f c.args.at c.entry-item.result.0) pairs)) c.deref.ensures.value)

pub returns : goal.returns
returns c =
    let f = c.args.roster.now.says in
    let pairs = c.in_order-pairs.result.items in
    let old = string_bytes c.args.out.now in (
      pairs,
      subst (λ (xs : List (List ℕ × List ℕ)). IsEachOnce pair_order xs pairs)
          (c.in_ok-turned.ensures ∙ ap (λ (xs : List (List ℕ × List ℕ)). map lesser_first xs) c.conflicts.ensures) c.in_order-pairs.ensures,
      c.loop-entry.invariant
          ∙ ap (λ (es : List (List ℕ × List Entry)). old ++ lines_text (flat_map (conflicts_of f c.args.at pairs) es))
          (take_all c.loop-entry.entry-index c.people-entry-items.result.now c.loop-entry-test.false ∙ c.people-entry-items.ensures.value),
    )

use Rattle.std.proofs.Common.{[], sym, rules}
use Rattle.std.proofs.lemmas.List.{append-nil, nil_from_length}
use Rattle.std.proofs.lemmas.Result.{err_from_is_err_and, IfOk-weaker, IfErr-weaker}
use Rattle.sudo_syntax.proofs.LineLemmas.{stands_nowhere, leads_ends, ends_stuck, leads_on}
use Rattle.sudo_syntax.proofs.read.add_piece.Goals as goal

pub returns-in_err-front-clause-only : goal.returns-in_err-front-clause-only
returns-in_err-front-clause-only c =
    let p = err_from_is_err_and c.from_residual.result c.from_residual.ensures.1 in
    rw (p.1, p.2) (λ rest es s policy. absurd (stands_nowhere _ _ rest c.in_err-front.ensures.body c.in_err-front.ensures.front es s))

pub returns-then-is_empty-clause-found : goal.returns-then-is_empty-clause-found
returns-then-is_empty-clause-found c =
    let none = nil_from_length c.args.pending.now.items (search rules) in
    let is = rw c.in-Ends.is at c.in_ok-front.ensures.found in
    IfOk-weaker c.add_joined.result _ _
    (λ _ h. (h.0, h.3, λ rest. rw none (leads_ends [] c.args.line.now c.in-Ends.body.now rest h.0 is h.1 h.2)))
    c.add_joined.ensures.found

pub returns-then-is_empty-clause-only : goal.returns-then-is_empty-clause-only
returns-then-is_empty-clause-only c =
    let none = nil_from_length c.args.pending.now.items (search rules) in
    let is = rw c.in-Ends.is at c.in_ok-front.ensures.found in
    IfErr-weaker c.add_joined.result _ _
    (λ e h rest es s policy. ends_stuck [] c.args.line.now c.in-Ends.body.now rest c.args.draft.now.entries.items _ is h es (rw none at s) policy)
    c.add_joined.ensures.only

pub returns-in_err-add_joined-in-Ends-clause-only : goal.returns-in_err-add_joined-in-Ends-clause-only
returns-in_err-add_joined-in-Ends-clause-only c =
    let p = err_from_is_err_and c.from_residual-in_err-add_joined-in-Ends.result c.from_residual-in_err-add_joined-in-Ends.ensures.1 in
    let is = rw c.in-Ends.is at c.in_ok-front.ensures.found in
    let only = rw (c.deref.ensures.value, c.in_ok-extend_from_slice-in-Ends.ensures.items) at c.in_err-add_joined-in-Ends.ensures.only in
    rw (p.1, p.2)
    (λ rest es s policy. ends_stuck c.args.pending.now.items c.args.line.now c.in-Ends.body.now rest c.args.draft.now.entries.items _ is only es s policy)

pub returns-in_ok-push-in-GoesOn-clause-found : goal.returns-in_ok-push-in-GoesOn-clause-found
returns-in_ok-push-in-GoesOn-clause-found c =
    let is = rw c.in-GoesOn.is at c.in_ok-front.ensures.found in (
      [],
      record { draft = c.requires; entries = sym (append-nil c.args.draft.now.entries.items) },
      λ rest.
          rw (c.in_ok-push-in-GoesOn.ensures.items, c.in_ok-extend_from_slice-in-GoesOn.ensures.items)
          (leads_on c.args.pending.now.items c.args.line.now c.in-GoesOn.front.now rest is),
    )

pub returns-in_ok-add_joined-in-Ends-clause-found : goal.returns-in_ok-add_joined-in-Ends-clause-found
returns-in_ok-add_joined-in-Ends-clause-found c =
    let is = rw c.in-Ends.is at c.in_ok-front.ensures.found in
    let found = rw (c.deref.ensures.value, c.in_ok-extend_from_slice-in-Ends.ensures.items) at c.in_ok-add_joined-in-Ends.ensures.found in (
      found.0,
      found.3,
      λ rest. rw c.clear.ensures.items (leads_ends c.args.pending.now.items c.args.line.now c.in-Ends.body.now rest found.0 is found.1 found.2),
    )

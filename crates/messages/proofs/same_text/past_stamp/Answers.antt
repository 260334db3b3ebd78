use Rattle.std.proofs.Common.{None, Some, subst, sym, true≢false, ◌∙◌}
use Rattle.std.specs.Prelude.{IsUtf8}
use Rattle.messages.proofs.Passing.{past_front, stamp_cut, stamp_here, stamp_missing, stamp_utf8}
use Rattle.messages.proofs.same_text.past_stamp.Goals as goal

pub returns-in_err-stamp : goal.returns-in_err-stamp
returns-in_err-stamp c = λ moment.
    let s = c.in_ok-rest.field-0 in
    rw (c.in_ok-rest.was, c.from_residual-in_err-stamp.ensures)
    (past_front s None (λ rest e. stamp_missing s.now rest c.args.moment c.in_err-stamp.ensures.cases e))

pub returns-then-is_stamp : goal.returns-then-is_stamp
returns-then-is_stamp c = λ moment.
    let s = c.in_ok-rest.field-0 in
    let cut = c.in_ok-stamp.ensures.cases in
    let same = sym c.in-Ok.ensures.cases.0 ∙ (c.is_stamp.ensures moment).0 c.if-is_stamp.true in
    rw c.in_ok-rest.was (past_front s (Some c.in_ok-stamp.left) (stamp_cut s.now c.in_ok-stamp.stamp.now c.in_ok-stamp.left.now c.args.moment cut.1 cut.2 same))

pub returns-else-is_stamp : goal.returns-else-is_stamp
returns-else-is_stamp c = λ moment.
    let s = c.in_ok-rest.field-0 in
    let cut = c.in_ok-stamp.ensures.cases in
    rw c.in_ok-rest.was (past_front s None (λ rest e.
    let same = c.in-Ok.ensures.cases.0 ∙ stamp_here s.now c.in_ok-stamp.stamp.now rest c.args.moment cut.1 e in
    true≢false (sym ((c.is_stamp.ensures moment).1 same) ∙ c.if-is_stamp.false)))

pub returns-in-Err : goal.returns-in-Err
returns-in-Err c = λ moment.
    let s = c.in_ok-rest.field-0 in
    let cut = c.in_ok-stamp.ensures.cases in
    rw c.in_ok-rest.was (past_front s None (λ rest e.
    let same = stamp_here s.now c.in_ok-stamp.stamp.now rest c.args.moment cut.1 e in
    c.in-Err.ensures.cases.0 (subst IsUtf8 (sym same) (stamp_utf8 c.args.moment moment))))

use Rattle.std.proofs.Common.{string_bytes, Option, ap, sym, ◌∙◌}
use Rattle.review.specs.declared.barred.Approver.{Approver}
use Rattle.review.specs.private.Whys.{before, joined, with_lines}
use Rattle.review.proofs.Joined.{another_person}
use Rattle.review.proofs.barred.next.Goals as goal

pub returns : goal.returns
returns c = λ ws.
    let q = c.args.request.now in
    let old = string_bytes c.args.out.now in
    let person = c.args.approver.person.now in
    let why = c.args.approver.why in
    another_person q old (string_bytes c.push_barred_line.new.out) c.in-Some.last.person.now person c.in-Some.last.why why ws
    (sym c.eq.ensures ∙ c.if-eq.false) c.in_ok-push_barred_line.ensures
    ∙ ap (λ (o : Option Approver). with_lines q old (before o (joined person why ws))) (sym c.in-Some.is)

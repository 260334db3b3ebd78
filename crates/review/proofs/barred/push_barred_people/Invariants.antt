use Rattle.std.proofs.Common.{◌≡◌, drop, string_bytes}
use Rattle.review.specs.Barred.{reason}
use Rattle.review.specs.private.Whys.{before, whys, with_lines}
use Rattle.review.proofs.barred.push_barred_people.Given as goal

abbrev pub invariant-loop-person : goal.invariant-loop-person
invariant-loop-person l =
    with_lines l.request (string_bytes l.out) (before l.last (whys (reason l.roster.says l.ceiling l.request.by) (drop l.person-index l.approvals)))
    ≡ with_lines l.request (string_bytes l.fn.out) (whys (reason l.roster.says l.ceiling l.request.by) l.approvals)

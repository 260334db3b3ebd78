use Rattle.std.proofs.Common.{◌≡◌, ◌++◌, map, drop}
use Rattle.findings.specs.Judging.{approvals_for, those_who_may}
use Rattle.findings.proofs.judged.Judged.those_who_may.Given as goal

abbrev pub invariant-loop-entry : goal.invariant-loop-entry
invariant-loop-entry l =
    let f = l.self.roster.now.says in
    let rest = those_who_may f (approvals_for f l.self.entry.now) (l.asked.request.now, l.asked.ceiling.now) l.at in
    map (λ p. p.now) l.people.items ++ rest (drop l.entry-index l.all) ≡ rest l.all

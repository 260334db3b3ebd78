use Rattle.std.proofs.Common.{◌≡◌, ◌++◌, true, map, drop, string_bytes}
use Rattle.findings.specs.Document.{in_quotes, joined}
use Rattle.findings.proofs.document.push_people.Given as goal

abbrev pub invariant-loop-person : goal.invariant-loop-person
invariant-loop-person l =
    string_bytes l.out ++ joined l.is_first (map (λ p. in_quotes p.now) (drop l.person-index l.people))
    ≡ string_bytes l.fn.out ++ joined true (map (λ p. in_quotes p.now) l.people)

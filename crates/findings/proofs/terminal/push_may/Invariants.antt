use Rattle.std.proofs.Common.{◌≡◌, ◌++◌, true, ◌∷◌, map, drop, string_bytes}
use Rattle.std.specs.Prelude.{codes}
use Rattle.findings.specs.Terminal.{beside_heading, headed, wrapped}
use Rattle.findings.proofs.terminal.push_may.Given as goal

abbrev pub invariant-loop-person : goal.invariant-loop-person
invariant-loop-person l =
    string_bytes l.out ++ wrapped l.place.room l.place.is_first (map (λ p. p.now) (drop l.person-index l.people))
    ≡ (string_bytes l.fn.out ++ headed (codes "may")) ++ wrapped beside_heading true (l.at ∷ map (λ p. p.now) l.people)

use Rattle.std.proofs.Common.{◌≡◌, map}
use Rattle.std.specs.Prelude.{option_map}
use Rattle.grants.specs.private.Firsts.{earliest_from, earliest_of, is_of_another}
use Rattle.grants.specs.private.Voters.{counting}
use Rattle.grants.proofs.firsts.earliest.Given as goal

-- the earliest of the first so far and the marks to come is the earliest of all
abbrev pub invariant-loop-mark : goal.invariant-loop-mark
invariant-loop-mark l =
    let test = is_of_another (counting l.voters) (map (λ p. p.now) l.others) in
    earliest_from (option_map (λ m. m.now) l.first) test l.mark-iterator ≡ earliest_of test l.marks.keys

use Rattle.std.proofs.Common.{arith, rules, sym}
use Rattle.grants.specs.private.Voters.{counting}
use Rattle.grants.proofs.NthLemmas.{no_second}
use Rattle.grants.proofs.firsts.nth.Goals as goal

pub returns-in_err-second : goal.returns-in_err-second
returns-in_err-second c =
    let none = no_second (counting c.args.voters.now) c.args.marks.now.keys c.args.n c.in_ok-first.first.now
    (omega (arith, c.requires.some, c.if-n-eq1.false)) (sym c.in_ok-first.ensures) (sym c.in_err-second.ensures) in
    search (rules, none)

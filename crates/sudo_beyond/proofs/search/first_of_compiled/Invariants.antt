use Rattle.std.proofs.Common.{take}
use Rattle.std.specs.List.{flat_map}
use Rattle.sudo_beyond.specs.Cases.{of_user}
use Rattle.sudo_beyond.specs.private.Compared.{IsAnsweredGap}
use Rattle.sudo_beyond.proofs.Gaps.{NoGap}
use Rattle.sudo_beyond.proofs.search.first_of_compiled.Given as goal

abbrev pub invariant-loop-user : goal.invariant-loop-user
invariant-loop-user l = NoGap (IsAnsweredGap l.a l.b) (flat_map (of_user l.cases) (take l.user-index l.cases.users))

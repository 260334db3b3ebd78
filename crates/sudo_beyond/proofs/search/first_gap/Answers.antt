use Rattle.sudo_beyond.specs.Beyond.{IsGap}
use Rattle.sudo_beyond.specs.Cases.{invocations}
use Rattle.sudo_beyond.specs.private.Compared.{IsAnsweredGap}
use Rattle.sudo_beyond.proofs.CompiledGaps.{gap_from_answers, gap_to_answers}
use Rattle.sudo_beyond.proofs.Gaps.{first_of_same, if_ok}
use Rattle.sudo_beyond.proofs.search.first_gap.Goals as goal

pub returns : goal.returns
returns c =
    if_ok c.first_of_compiled.result
    (λ found. first_of_same (IsAnsweredGap c.in_ok-a.a c.in_ok-b.b) (IsGap c.args.a.now c.args.b.now) (invocations c.args.cases.now) found
    (gap_from_answers c.args.a.now c.args.b.now c.in_ok-a.a c.in_ok-b.b c.in_ok-a.ensures c.in_ok-b.ensures)
    (gap_to_answers c.args.a.now c.args.b.now c.in_ok-a.a c.in_ok-b.b c.in_ok-a.ensures c.in_ok-b.ensures))
    c.first_of_compiled.ensures

use Rattle.std.proofs.Common.{◌<◌, length, string_bytes, ap, ◌∙◌}
use Rattle.desk_commands.proofs.ComplaintLemmas.{said_nothing, said_refusal}
use Rattle.desk_commands.proofs.taking.complaints_of.Goals as goal
use Rattle.desk_commands.proofs.taking.complaints_of.Goals.{in-Err+in_ok-complain, in_default}

pub loop-index-preserved : goal.loop-index-preserved
loop-index-preserved c =
    let lt : c.loop-index.index < length c.args.answers.now = c.loop-index-test.true in
    elim c.match-answer.branch [
      | in-Err+in_ok-complain w ↦ said_refusal c.args.answers.now _ c.loop-index.index w.in-Err.refusal _ _ lt w.in-Err.is
          (ap string_bytes w.said-is ∙ w.in_ok-complain.ensures.said) w.in_ok-complain.ensures.memory c.loop-index.invariant
      | in_default w ↦
          said_nothing c.args.answers.now _ c.loop-index.index w.in_default.field-0 _ _ lt w.in_default.is (ap string_bytes w.said-is) c.loop-index.invariant
    ]

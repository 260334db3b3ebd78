use Rattle.std.proofs.Common.{string_bytes}
use Rattle.desk_commands.proofs.ComplaintLemmas.{AreSaid}
use Rattle.desk_commands.proofs.taking.complaints_of.Given as goal

abbrev pub invariant-loop-index : goal.invariant-loop-index
invariant-loop-index l = AreSaid l.answers (string_bytes l.said) l.index

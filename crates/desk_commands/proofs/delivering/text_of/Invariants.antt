use Rattle.std.proofs.Common.{string_bytes}
use Rattle.desk_commands.proofs.AnswerLines.{AreWritten}
use Rattle.desk_commands.proofs.delivering.text_of.Given as goal

abbrev pub invariant-loop-answer : goal.invariant-loop-answer
invariant-loop-answer l = AreWritten l.answers (string_bytes l.text) l.answer-index

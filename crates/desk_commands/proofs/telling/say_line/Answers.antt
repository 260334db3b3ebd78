use Rattle.std.proofs.Common.{◌∙◌}
use Rattle.desk_commands.proofs.TellingLemmas.{flushed}
use Rattle.desk_commands.proofs.telling.say_line.Goals as goal

pub returns-clause-front : goal.returns-clause-front
returns-clause-front g c =
    flushed _ _ _ _ _ (c.as_bytes.ensures.value ∙ c.as_str.ensures.value ∙ c.in_ok-line.ensures) c.in_ok-write_front.ensures.whole c.flush.ensures.bytes

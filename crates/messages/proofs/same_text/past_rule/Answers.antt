use Rattle.messages.proofs.Passing.{past_none, empty_rule, escaped_none}
use Rattle.messages.proofs.same_text.past_rule.Goals as goal

pub returns-in-Any : goal.returns-in-Any
returns-in-Any c = rw (c.in-Any.is, escaped_none) past_none

pub returns-in-Empty : goal.returns-in-Empty
returns-in-Empty c = rw (c.in-Empty.is, ← empty_rule) c.past.ensures

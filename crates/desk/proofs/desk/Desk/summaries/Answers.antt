use Rattle.std.proofs.Common.{List}
use Rattle.messages.specs.declared.message.Message.{Message}
use Rattle.store_tables.specs.Sets.{Lists}
use Rattle.outcomes.specs.Summaries.{AreSummaries}
use Rattle.desk.proofs.QueryLemmas.{same_listed}
use Rattle.outcomes.proofs.SummaryLemmas.{summaries_of_set}
use Rattle.desk.proofs.desk.Desk.summaries.Goals as goal

pub returns-clause-summaries : goal.returns-clause-summaries
returns-clause-summaries g c =
    let K = g.K.Keeper in
    let old = c.self.inside.keeper in
    let new = c.known_of.new.keeper in
    let known = c.in_ok-known.ensures.known in
    let answer : (set : List Message) → K.is_up new → Lists (K.holds old) set → AreSummaries set c.in_ok-list.field-0.items = λ set up lists.
    let same = same_listed (K.holds old) (known up).0 set (known up).1 lists in
    summaries_of_set (known up).0 set c.in_ok-list.field-0.items same (c.in_ok-list.ensures (known up).0 (known up).2.0) in
    rw (← c.self.view_is) answer

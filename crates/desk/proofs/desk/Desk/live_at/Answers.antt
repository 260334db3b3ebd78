use Rattle.std.proofs.Common.{List}
use Rattle.messages.specs.declared.message.Message.{Message}
use Rattle.store_tables.specs.Sets.{Lists}
use Rattle.outcomes.specs.Outcomes.{AreLive}
use Rattle.desk.proofs.QueryLemmas.{same_listed}
use Rattle.outcomes.proofs.SetLemmas.{alike_sets, live_alike}
use Rattle.desk.proofs.desk.Desk.live_at.Goals as goal

pub returns-clause-live : goal.returns-clause-live
returns-clause-live g c =
    let K = g.K.Keeper in
    let old = c.self.inside.keeper in
    let new = c.known_of.new.keeper in
    let f = c.self.inside.roster.says in
    let known = c.in_ok-known.ensures.known in
    let answer : (set : List Message) → K.is_up new → Lists (K.holds old) set → AreLive f set c.args.at c.in_ok-list.field-0.items = λ set up lists.
    let same = same_listed (K.holds old) (known up).0 set (known up).1 lists in
    live_alike f (known up).0 set (alike_sets f (known up).0 set same) c.args.at c.in_ok-list.field-0.items
    (c.in_ok-list.ensures (known up).0 (known up).2.0) in
    rw (← c.self.view_is) answer

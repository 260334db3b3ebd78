use Rattle.std.proofs.Common.{List}
use Rattle.messages.specs.declared.message.Message.{Message}
use Rattle.store_tables.specs.Sets.{Lists}
use Rattle.std.specs.Prelude.{map, string_bytes}
use Rattle.outcomes.specs.Parked.{AreParked}
use Rattle.desk.proofs.QueryLemmas.{same_listed}
use Rattle.outcomes.proofs.SetLemmas.{parked_of_set}
use Rattle.desk.proofs.desk.Desk.parked.Goals as goal

pub returns-clause-parked : goal.returns-clause-parked
returns-clause-parked g c =
    let K = g.K.Keeper in
    let old = c.self.inside.keeper in
    let new = c.known_of.new.keeper in
    let known = c.in_ok-known.ensures.known in
    let answer : (set : List Message) → K.is_up new → Lists (K.holds old) set → AreParked set (map string_bytes c.in_ok-texts.field-0.items) = λ set up lists.
    let same = same_listed (K.holds old) (known up).0 set (known up).1 lists in
    parked_of_set (known up).0 set (map string_bytes c.in_ok-texts.field-0.items) same (c.in_ok-texts.ensures (known up).0 (known up).2.0) in
    rw (← c.self.view_is) answer

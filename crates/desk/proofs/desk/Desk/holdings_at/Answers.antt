use Rattle.std.proofs.Common.{List}
use Rattle.std.specs.List.{Contains}
use Rattle.std.specs.Prelude.{map, string_bytes}
use Rattle.messages.specs.Wire.{IsMessage}
use Rattle.messages.specs.declared.message.Message.{Message}
use Rattle.store_tables.specs.Sets.{Lists}
use Rattle.outcomes.specs.Parked.{AreParked}
use Rattle.outcomes.proofs.SetLemmas.{parked_of_set}
use Rattle.suspects.specs.LookedAt.{AreReviewed}
use Rattle.suspects.proofs.ReviewLemmas.{reviewed_of_set}
use Rattle.desk.proofs.KnownLemmas.{desk_looked_at}
use Rattle.desk.proofs.QueryLemmas.{same_listed}
use Rattle.desk.proofs.desk.Desk.holdings_at.Goals as goal

pub returns-clause-reviewed : goal.returns-clause-reviewed
returns-clause-reviewed g c =
    let K = g.K.Keeper in
    let old = c.self.inside.keeper in
    let new = c.known_of.new.keeper in
    let f = c.self.inside.roster.says in
    let at = c.args.at in
    let known = c.in_ok-known.ensures.known in
    let list = c.in_ok-held.field-0.summaries.items in
    let answer : (set : List Message) → K.is_up new → Lists (K.holds old) set → AreReviewed f set at list = λ set up lists.
    let held = known up in
    let same = same_listed (K.holds old) held.0 set held.1 lists in
    let written : (m : Message) → Contains held.0 m → IsMessage m = λ m there. g.met.K.Keeper.holds_messages old m ((held.1 m).1 there) in
    reviewed_of_set f held.0 set at list same (c.in_ok-held.ensures.reviewed held.0 written held.2) in
    rw (← c.self.view_is) answer

pub returns-clause-parked : goal.returns-clause-parked
returns-clause-parked g c =
    let K = g.K.Keeper in
    let old = c.self.inside.keeper in
    let new = c.known_of.new.keeper in
    let known = c.in_ok-known.ensures.known in
    let texts = map string_bytes c.in_ok-held.field-0.parked.items in
    let answer : (set : List Message) → K.is_up new → Lists (K.holds old) set → AreParked set texts = λ set up lists.
    let same = same_listed (K.holds old) (known up).0 set (known up).1 lists in
    parked_of_set (known up).0 set texts same (c.in_ok-held.ensures.parked (known up).0 (known up).2) in
    rw (← c.self.view_is) answer

-- what a report looked for is known from here on, whether or not it has an answer
pub invariant_of-self-in_err-held : goal.invariant_of-self-in_err-held
invariant_of-self-in_err-held g c =
    let k = c.known_of.new.keeper in
    let is = c.in_ok-known.ensures in
    desk_looked_at (g.K.Keeper.holds k) (g.met.K.Keeper.holds_messages k) c.holdings_at-held.ensures.known c.self.invariant.0
    is.desk is.roster c.self.invariant.2 is.served.was_up is.durable is.still_known is.live c.self.invariant.6 c.self.invariant.7

pub invariant_of-self-2 : goal.invariant_of-self-2
invariant_of-self-2 g c =
    let k = c.known_of.new.keeper in
    let is = c.in_ok-known.ensures in
    desk_looked_at (g.K.Keeper.holds k) (g.met.K.Keeper.holds_messages k) c.holdings_at-held.ensures.known c.self.invariant.0
    is.desk is.roster c.self.invariant.2 is.served.was_up is.durable is.still_known is.live c.self.invariant.6 c.self.invariant.7

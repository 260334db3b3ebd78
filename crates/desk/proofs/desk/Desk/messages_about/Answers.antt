use Rattle.std.proofs.Common.{List}
use Rattle.std.specs.List.{Contains}
use Rattle.messages.specs.Wire.{IsMessage}
use Rattle.messages.specs.declared.message.Message.{Message}
use Rattle.messages.specs.declared.request_name.RequestName.{RequestName}
use Rattle.store_tables.specs.Sets.{Lists}
use Rattle.outcomes.specs.About.{AreTold}
use Rattle.outcomes.proofs.AboutLemmas.{told_of_set}
use Rattle.desk.proofs.QueryLemmas.{same_listed}
use Rattle.desk.proofs.desk.Desk.messages_about.Goals as goal

pub returns-clause-about : goal.returns-clause-about
returns-clause-about g c =
    let K = g.K.Keeper in
    let old = c.self.inside.keeper in
    let new = c.known_of.new.keeper in
    let known = c.in_ok-known.ensures.known in
    let name : RequestName = record { by = c.args.asker.now; no = c.args.no } in
    let told = c.in_ok-list.field-0 in
    let answer : (set : List Message) → K.is_up new → Lists (K.holds old) set → AreTold set name told = λ set up lists.
    let held = known up in
    let same = same_listed (K.holds old) held.0 set held.1 lists in
    let messages : (m : Message) → Contains held.0 m → IsMessage m = λ m among. g.met.K.Keeper.holds_messages old m ((held.1 m).1 among) in
    told_of_set held.0 set name told same (c.in_ok-list.ensures held.0 held.2.0 messages) in
    rw (← c.self.view_is) answer

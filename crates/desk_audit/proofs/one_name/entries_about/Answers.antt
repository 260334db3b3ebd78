use Rattle.std.proofs.Common.{IfOk, subst}
use Rattle.std.specs.List.{Contains}
use Rattle.std.proofs.lemmas.Result.{IfOk-weaker}
use Rattle.messages.specs.Wire.{IsMessage}
use Rattle.messages.specs.declared.message.Message.{Message}
use Rattle.messages.specs.declared.request_name.RequestName.{RequestName}
use Rattle.roster.specs.Fields.{Reading}
use Rattle.outcomes.specs.About.{AreAbout, AreTold}
use Rattle.desk_audit.specs.Documents.{AreOfName}
use Rattle.desk_audit.proofs.AuditLemmas.{asks_both, lists_same, of_its_messages}
use Rattle.desk_audit.proofs.one_name.entries_about.Goals as goal

pub returns-in_ok-all-in-Some : goal.returns-in_ok-all-in-Some
returns-in_ok-all-in-Some g c =
    let K = g.K.Keeper in
    let law = g.met.K.Keeper in
    let old = c.args.desk.now in
    let mid = c.messages_about.new.self in
    let new = c.entries_of.new.desk in
    let name : RequestName = record { by = c.args.asker.now; no = c.args.no } in
    let list = c.in-Some.list.items in
    let brought = c.in_ok-told.ensures in
    let told = c.entries_of.ensures in
    let asks = told.asks brought.asks.live in
    record {
      of_name = λ set up lists.
          let was_up = asks.served.was_up up in
          let same = brought.asks.unchanged was_up in
          let was_desk = brought.desk was_up in
          let first_desk = law.stays_desk mid.keeper old.keeper (law.same_back old.keeper mid.keeper same) was_desk in
          let still = lists_same (K.holds old.keeper) (K.holds mid.keeper) set (law.stays_set old.keeper mid.keeper same first_desk) lists in
          let about : AreAbout set name list = subst (AreTold set name) c.in-Some.is (brought.about set was_up lists) in
          let messages : (m : Message) → Contains list m → IsMessage m = λ m among. law.holds_messages old.keeper m ((lists m).1 ((about m).0 among).0) in
          let F : Reading → Type 0 = λ r. IfOk c.entries_of.result (λ es. AreOfName r.says set name es.items) in
          subst F brought.asks.settings.roster
          (IfOk-weaker c.entries_of.result _ _ (λ es are. of_its_messages mid.roster.says set list name about es.items are)
          (told.told set list up was_desk still (c.in_ok-all-in-Some.ensures messages)));
      err = told.err;
      asks = asks_both K old mid new c.entries_of.result (law.same_on old.keeper mid.keeper new.keeper) brought.asks asks;
    }

pub returns-in-None : goal.returns-in-None
returns-in-None g c =
    let K = g.K.Keeper in
    let law = g.met.K.Keeper in
    let old = c.args.desk.now in
    let mid = c.messages_about.new.self in
    let new = c.entries_in_audit.new.desk in
    let name : RequestName = record { by = c.args.asker.now; no = c.args.no } in
    let brought = c.in_ok-told.ensures in
    let told = c.entries_in_audit.ensures in
    let asks = told.asks in
    record {
      of_name = λ set up lists.
          let was_up = asks.served.was_up up in
          let same = brought.asks.unchanged was_up in
          let first_desk = law.stays_desk mid.keeper old.keeper (law.same_back old.keeper mid.keeper same) (brought.desk was_up) in
          let still = lists_same (K.holds old.keeper) (K.holds mid.keeper) set (law.stays_set old.keeper mid.keeper same first_desk) lists in
          let F : Reading → Type 0 = λ r. IfOk c.entries_in_audit.result (λ es. AreOfName r.says set name es.items) in
          subst F brought.asks.settings.roster (told.of_name set up still);
      err = told.err;
      asks = asks_both K old mid new c.entries_in_audit.result (law.same_on old.keeper mid.keeper new.keeper) brought.asks asks;
    }

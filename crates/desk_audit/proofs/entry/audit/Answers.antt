use Rattle.std.proofs.Common.{IfOk, subst}
use Rattle.std.specs.List.{Contains}
use Rattle.std.proofs.lemmas.Result.{IfOk-weaker}
use Rattle.messages.specs.Names.{SameMessages}
use Rattle.messages.specs.Wire.{IsMessage}
use Rattle.messages.specs.declared.message.Message.{Message}
use Rattle.roster.specs.Fields.{Reading}
use Rattle.desk_audit.specs.Audit.{IsAudit}
use Rattle.desk_audit.proofs.AuditLemmas.{asks_both, audit_of_list, lists_same}
use Rattle.desk_audit.proofs.entry.audit.Goals as goal

pub returns : goal.returns
returns g c =
    let K = g.K.Keeper in
    let law = g.met.K.Keeper in
    let old = c.args.desk.now in
    let mid = c.messages.new.self in
    let new = c.entries_of.new.desk in
    let list = c.in_ok-list.list.items in
    let brought = c.in_ok-list.ensures in
    let told = c.entries_of.ensures in
    let asks = told.asks brought.asks.live in
    record {
      audit = λ set up lists.
          let was_up = asks.served.was_up up in
          let same = brought.asks.unchanged was_up in
          let was_desk = brought.desk was_up in
          let first_desk = law.stays_desk mid.keeper old.keeper (law.same_back old.keeper mid.keeper same) was_desk in
          let still = lists_same (K.holds old.keeper) (K.holds mid.keeper) set (law.stays_set old.keeper mid.keeper same first_desk) lists in
          let lent = brought.messages was_up in
          let messages : (m : Message) → Contains list m → IsMessage m = λ m among. law.holds_messages old.keeper m ((lent m).1 among) in
          let both : SameMessages list set = λ m. ((λ among. (lists m).0 ((lent m).1 among)), (λ among. (lent m).0 ((lists m).1 among))) in
          let F : Reading → Type 0 = λ r. IfOk c.entries_of.result (λ es. IsAudit r.says set es.items) in
          subst F brought.asks.settings.roster
          (IfOk-weaker c.entries_of.result _ _ (λ es are. audit_of_list mid.roster.says set list es.items both are)
          (told.told set list up was_desk still (c.in_ok-all.ensures messages)));
      err = told.err;
      asks = asks_both K old mid new c.entries_of.result (law.same_on old.keeper mid.keeper new.keeper) brought.asks asks;
    }

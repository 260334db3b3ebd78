-- What an audit tells.
use Rattle.std.specs.Prelude.{◌≡◌, List, Contains}
use Rattle.sudo_words.specs.declared.cmnd.Cmnd.{Cmnd}
use Rattle.messages.specs.Names.{NamePrecedes}
use Rattle.messages.specs.Order.{AreInOrder}
use Rattle.messages.specs.declared.message.Message.{Message}
use Rattle.roster.specs.Fields.{RosterFields}
use Rattle.outcomes.specs.Outcomes.{ComesTo}
use Rattle.desk_audit.specs.Told.{TellsMessages, name_in}
use Rattle.findings.specs.declared.entry.AuditEntry.{AuditEntry}

-- A name that a message of the set is about, with all its messages, and what they come to.
pub record TellsName (f : RosterFields Cmnd)
    (messages : List Message) (entry : AuditEntry) : Type 0 where
  pub spoken : (m : Message) × Contains messages m × (name_in m ≡ entry.name)
  pub about : TellsMessages messages entry.name entry.about
  pub status : ComesTo f messages entry.name entry.status

-- Each name that somebody asks under or that a verdict is about, once, in the order of names, and
-- no others.
pub record IsAudit (f : RosterFields Cmnd)
    (messages : List Message) (entries : List AuditEntry) : Type 0 where
  pub in_order : AreInOrder (λ d e. NamePrecedes d.name e.name) entries
  pub each : (e : AuditEntry) → Contains entries e → TellsName f messages e
  pub all : (m : Message) → Contains messages m
      → (e : AuditEntry) × Contains entries e × (e.name ≡ name_in m)

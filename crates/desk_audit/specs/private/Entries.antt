-- The entries of the names that some messages are about, with what these names come to in a set.
use Rattle.std.specs.Prelude.{◌≡◌, List, Contains}
use Rattle.sudo_words.specs.declared.cmnd.Cmnd.{Cmnd}
use Rattle.messages.specs.Names.{NamePrecedes}
use Rattle.messages.specs.Order.{AreInOrder}
use Rattle.messages.specs.declared.message.Message.{Message}
use Rattle.roster.specs.Fields.{RosterFields}
use Rattle.outcomes.specs.Outcomes.{ComesTo}
use Rattle.desk_audit.specs.Told.{TellsMessages, name_in}
use Rattle.findings.specs.declared.entry.AuditEntry.{AuditEntry}

-- a name that a message of the list is about, with all the list's messages about the name, and the
-- status that the set comes to there
pub record IsEntryOf (f : RosterFields Cmnd)
    (messages list : List Message) (entry : AuditEntry) : Type 0 where
  pub spoken : (m : Message) × Contains list m × (name_in m ≡ entry.name)
  pub about : TellsMessages list entry.name entry.about
  pub status : ComesTo f messages entry.name entry.status

-- each such name, once and in order
pub record AreEntriesOf (f : RosterFields Cmnd)
    (messages list : List Message) (entries : List AuditEntry) : Type 0 where
  pub in_order : AreInOrder (λ d e. NamePrecedes d.name e.name) entries
  pub each : (e : AuditEntry) → Contains entries e → IsEntryOf f messages list e
  pub all : (m : Message) → Contains list m
      → (e : AuditEntry) × Contains entries e × (e.name ≡ name_in m)

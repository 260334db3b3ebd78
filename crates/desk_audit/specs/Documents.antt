-- What an audit tells of a set of messages, as one JSON document: of the names that are asked
-- about, of one name, or of the requests that are open at a moment.
use Rattle.std.specs.Prelude.{◌≡◌, ◌⊎◌, ◌&&◌, ◌==◌, ℕ, Bool, List, [], ◌∷◌, Contains, filter}
use Rattle.std.specs.Str.{bytes_eq}
use Rattle.sudo_words.specs.declared.cmnd.Cmnd.{Cmnd}
use Rattle.messages.specs.declared.message.Message.{Message}
use Rattle.messages.specs.declared.request_name.RequestName.{RequestName}
use Rattle.roster.specs.Fields.{RosterFields}
use Rattle.findings.specs.Document.{IsDocument}
use Rattle.findings.specs.Picks.{all, is_open, is_told, told_at}
use Rattle.findings.specs.declared.entry.AuditEntry.{AuditEntry}
use Rattle.findings.specs.declared.pick.Pick.{Pick}
use Rattle.desk_audit.specs.Audit.{IsAudit, TellsName}
use Rattle.desk_audit.specs.Told.{name_in}

-- the entries of the audit that are asked about, as a document
pub record IsAuditText (f : RosterFields Cmnd)
    (messages : List Message) (pick : Pick) (text : List ℕ) : Type 0 where
  pub entries : List AuditEntry
  pub audit : IsAudit f messages entries
  pub document : IsDocument f pick (filter (is_told pick) entries) text

-- the entries of requests that do not end before the moment, as a document that tells who may
-- approve at the moment
pub record IsOpenText (f : RosterFields Cmnd)
    (messages : List Message) (at : ℕ) (text : List ℕ) : Type 0 where
  pub entries : List AuditEntry
  pub audit : IsAudit f messages entries
  pub document : IsDocument f (told_at at) (filter (is_open at) entries) text

-- the name's entry; or none, where no message is about it
abbrev pub AreOfName : RosterFields Cmnd → List Message → RequestName → List AuditEntry → Type 0
AreOfName f messages name entries =
    ((e : AuditEntry) × TellsName f messages e × (e.name ≡ name) × (entries ≡ e ∷ []))
    ⊎ (((m : Message) → Contains messages m → name_in m ≡ name → ⊥) × (entries ≡ []))

-- the name's entry, or none, as a document
pub record IsNameText (f : RosterFields Cmnd)
    (messages : List Message) (name : RequestName) (text : List ℕ) : Type 0 where
  pub entries : List AuditEntry
  pub of_name : AreOfName f messages name entries
  pub document : IsDocument f all entries text

-- the entry is that of the asker's request under the number
abbrev pub is_named : (asker : List ℕ) → (number : ℕ) → AuditEntry → Bool
is_named asker number e = bytes_eq e.name.by asker && (e.name.no == number)

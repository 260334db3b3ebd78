-- What stays of a desk's messages, and what goes to the archive.
use Rattle.std.specs.Prelude.{◌≡◌, ℕ, List, length}
use Rattle.messages.specs.declared.message.Message.{Message}
use Rattle.store_tables.specs.Sets.{Lists}
use Rattle.archive.specs.Archive.{IsArchive, IsCut}

-- the second set has the messages of the first one that stay when it is cut at the moment
abbrev pub IsCutOf : (Message → Type 0) → ℕ → (Message → Type 0) → Type 0
IsCutOf S moment T = (set : List Message) → Lists S set
    → (kept : List Message) × IsCut set moment kept × Lists T kept

-- so many messages of a list of the set's stay
abbrev pub IsCountOfCut : (Message → Type 0) → ℕ → ℕ → Type 0
IsCountOfCut S moment count = (set : List Message) × Lists S set
    × (kept : List Message) × IsCut set moment kept × (length kept ≡ count)

-- the list has the messages of the set that do not stay
abbrev pub IsArchiveOf : (Message → Type 0) → ℕ → List Message → Type 0
IsArchiveOf S moment archived = (set : List Message) → Lists S set → IsArchive set moment archived

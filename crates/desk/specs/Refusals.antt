-- How the desk's refusals are shown, and which stand for a fault of the crates below.
use Rattle.std.specs.Prelude.{◌≡◌, ◌⊎◌, ℕ, List, codes}
use Rattle.messages.specs.declared.fault.MessageFault.{MessageFault}
use Rattle.messages.specs.declared.fault.MessageFault.TheVariants as faults
use Rattle.grants.specs.Denials.{denial_text}
use Rattle.grants.specs.declared.host_fault.HostFault.{HostFault}
use Rattle.grants.specs.declared.host_fault.HostFault.TheVariants as host_faults
use Rattle.desk_store.specs.declared.error.KeeperError.{KeeperError}
use Rattle.desk_store.specs.declared.error.KeeperError.TheVariants as errors
use Rattle.desk.specs.declared.refusal.Refusal.{Refusal}
use Rattle.desk.specs.declared.refusal.Refusal.TheVariants.{UnknownRelay, UnknownHost, TooLong}
use Rattle.desk.specs.declared.refusal.Refusal.TheVariants.{NotCanonical, BadField, Denied}
use Rattle.desk.specs.declared.refusal.Refusal.TheVariants.{TooManyRules, RosterChanged}
use Rattle.desk.specs.declared.refusal.Refusal.TheVariants.{NotADesk, OldSchema, Storage}
use Rattle.desk.specs.declared.refusal.Refusal.TheVariants.{NoMemory, BaseTooLarge}

-- the refusal's code and name
abbrev pub refusal_text : Refusal → List ℕ
refusal_text UnknownRelay = codes "P1 UnknownRelay"
refusal_text UnknownHost = codes "P2 UnknownHost"
refusal_text TooLong = codes "M1 TooLong"
refusal_text NotCanonical = codes "M2 NotCanonical"
refusal_text BadField = codes "M3 BadField"
refusal_text (Denied denial) = denial_text denial
refusal_text TooManyRules = codes "G1 TooManyRules"
refusal_text RosterChanged = codes "K1 RosterChanged"
refusal_text NotADesk = codes "K2 NotADesk"
refusal_text OldSchema = codes "K3 OldSchema"
refusal_text Storage = codes "K4 Storage"
refusal_text NoMemory = codes "K5 NoMemory"
refusal_text BaseTooLarge = codes "K6 BaseTooLarge"

-- Memory or the storage was wanting: never a right answer, and it may come at any call that takes
-- memory or uses the storage.
abbrev pub IsWant : Refusal → Type 0
IsWant e = (e ≡ NoMemory) ⊎ (e ≡ Storage)

-- a reader's fault, as the desk names it
abbrev pub refusal_of_fault : MessageFault → Refusal
refusal_of_fault faults.TooLong = TooLong
refusal_of_fault faults.NotCanonical = NotCanonical
refusal_of_fault faults.BadField = BadField
refusal_of_fault faults.NoMemory = NoMemory

-- a keeper's error, as the desk names it
abbrev pub refusal_of_error : KeeperError → Refusal
refusal_of_error errors.NoMemory = NoMemory
refusal_of_error errors.Storage = Storage

-- why a host gets no file, as the desk names it
abbrev pub refusal_of_host : HostFault → Refusal
refusal_of_host host_faults.TooManyRules = TooManyRules
refusal_of_host host_faults.NoMemory = NoMemory

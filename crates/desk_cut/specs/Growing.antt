-- Sets that grow by the messages of a list, and refusals that a keeper's call gives.
use Rattle.std.specs.Prelude.{◌⊎◌, ⊤, List, Contains}
use Rattle.messages.specs.declared.message.Message.{Message}
use Rattle.desk_cut.specs.declared.refusal.CutRefusal.{CutRefusal}
use Rattle.desk_cut.specs.declared.refusal.CutRefusal.TheVariants.{NoMemory, Storage}
use Rattle.desk_cut.specs.declared.refusal.CutRefusal.TheVariants.{NoDesk, OldDesk, NotEmpty}

-- the messages of the set, and those of the list
abbrev pub WithAll : (Message → Type 0) → List Message → Message → Type 0
WithAll S list m = S m ⊎ Contains list m

-- the refusal tells of want of memory or of a storage
abbrev pub IsOfKeeper : CutRefusal → Type 0
IsOfKeeper NoMemory = ⊤
IsOfKeeper Storage = ⊤
IsOfKeeper NoDesk = ⊥
IsOfKeeper OldDesk = ⊥
IsOfKeeper NotEmpty = ⊥

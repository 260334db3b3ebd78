-- Why a message that the desk has is refused.
use Rattle.std.specs.Prelude.{◌≡◌, ◌⊎◌, ⊤, ℕ, ◌<◌, ◌≤◌, ◌-◌, ◌^◌, IsSome}
use Rattle.sqlite.specs.State.{State}
use Rattle.sqlite.specs.declared.error.Error.TheVariants.{SqliteFailure}
use Rattle.sqlite.specs.declared.error.ErrorCode.TheVariants.{OutOfMemory}
use Rattle.store_tables.specs.declared.fault.Fault.{Fault}
use Rattle.store_tables.specs.declared.fault.Fault.TheVariants as fault

-- a growth was refused, here or within the database
abbrev pub IsOfMemory : Fault → Type 0
IsOfMemory fault.NoMemory = ⊤
IsOfMemory (fault.Database e) = e ≡ SqliteFailure OutOfMemory
IsOfMemory fault.Stray = ⊥

-- the count of failures rose, or stands at the greatest number of 64 bits
abbrev pub HasFailed : (before after : ℕ) → Type 0
HasFailed before after = (before < after) ⊎ (2 ^ 64 - 1 ≤ after)

-- The fault tells of memory, or the storage's count of failures rose, or the steps of a query are
-- limited.
abbrev pub IsExplained : (old new : State) → Fault → Type 0
IsExplained old new f =
    IsOfMemory f ⊎ (HasFailed old.faults new.faults ⊎ IsSome old.step_limit)

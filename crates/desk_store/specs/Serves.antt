-- What storage does to calls of a keeper, for a contract that is generic over it (`K: Keeper`).
use Rattle.desk_store.specs.declared.keeper.Keeper.{Ghosts}
use Rattle.desk_store.specs.Serving.{IsServed}

-- `IsServed`, with the keeper's own predicates for being up, for an honest disk and for what else
-- its storage keeps, and with its own count of failures
abbrev pub Serves : {K : Type 0} → Ghosts K → (before after : K) → (Storage Want : Type 0) → Type 0
Serves g = IsServed g.is_up g.is_clean g.failures g.beside

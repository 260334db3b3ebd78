-- What a call leaves of a desk, and what storage does to the calls of its keeper, by the desk's
-- answer; the contracts are generic over the keeper.
use Rattle.std.specs.Prelude.{◌≡◌, ◌⊎◌, Result, Err, IsErrAnd, MatchResult}
use Rattle.desk_store.specs.declared.keeper.Keeper.{Ghosts}
use Rattle.desk_store.specs.Serves.{Serves}
use Rattle.desk.specs.declared.refusal.Refusal.{Refusal}
use Rattle.desk.specs.declared.refusal.Refusal.TheVariants.{Storage, UnknownHost}
use Rattle.desk_store.specs.Left.{AddsOnly}
use Rattle.desk.specs.Refusals.{IsWant}
use Rattle.desk.specs.State.{DeskState}

-- The answer tells of a failed storage where it is the refusal `Storage`, and of a want where it is
-- `Storage` or `NoMemory`.
abbrev pub ServesAnswer : {K T : Type 0} → Ghosts K → (before after : K) → Result T Refusal → Type 0
ServesAnswer g before after result =
    Serves g before after (result ≡ Err Storage) (IsErrAnd result IsWant)

-- The roster and the base, which the desk was opened with, stay, and so does the history.
pub record KeepsSettings {K : Type 0} (before after : DeskState K) : Type 0 where
  pub roster : after.roster ≡ before.roster
  pub base : after.base ≡ before.base
  pub history : after.history ≡ before.history

-- A question changes nothing of a desk. The settings stay, and while the keeper is up it
-- keeps what it kept. The answer tells what storage did. Over a disk that has been honest the
-- keeper is up after an answer, and also after each refusal but a want and an unknown host, which
-- the roster alone tells; and nothing is committed.
pub record OnlyAsks {K T : Type 0} (g : Ghosts K) (before after : DeskState K)
    (result : Result T Refusal) : Type 0 where
  pub settings : KeepsSettings before after
  pub unchanged : g.is_up after.keeper → g.is_same before.keeper after.keeper
  pub served : ServesAnswer g before.keeper after.keeper result
  pub live : g.is_clean after.keeper → MatchResult result (λ _. g.is_up after.keeper)
      (λ e. IsWant e ⊎ (e ≡ UnknownHost) ⊎ g.is_up after.keeper)
  pub leaves : g.is_clean after.keeper
      → AddsOnly (g.may_leave before.keeper) (g.may_leave after.keeper) (λ _. ⊥)

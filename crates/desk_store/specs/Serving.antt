-- What storage does to a keeper's calls.
use Rattle.std.specs.Prelude.{◌⊎◌, ℕ, ◌≤◌}
use Rattle.store_schema.specs.Beside.{TableWithRows}
use Rattle.desk_store.specs.Keeping.{HasFailed}

-- A keeper after some calls, compared with before. If the keeper is up, it was up; if the keeper is
-- clean, it was clean. If the keeper was up and is clean, it is up or a failure was counted; and it
-- is up unless the answer is a `Want`, of memory or of storage. No failure is taken back, and if
-- the answer tells of a failure of the `Storage`, one was counted. If the keeper is up, each table
-- that is not one of a desk's is there as it was, with its rows.
pub record IsServed {K : Type 0} (is_up is_clean : K → Type 0) (failures : K → ℕ)
    (beside : K → TableWithRows → Type 0) (before after : K) (Storage Want : Type 0) : Type 0 where
  pub was_up : is_up after → is_up before
  pub was_clean : is_clean after → is_clean before
  pub shuts : is_up before → is_clean after
      → is_up after ⊎ HasFailed (failures before) (failures after)
  pub counts : failures before ≤ failures after
  pub cause : Storage → HasFailed (failures before) (failures after)
  pub up : is_up before → is_clean after → Want ⊎ is_up after
  pub others : is_up after → (it : TableWithRows) → beside before it → beside after it

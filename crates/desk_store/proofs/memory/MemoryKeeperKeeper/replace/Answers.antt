use Rattle.std.proofs.Common.{inr, subst}
use Rattle.std.specs.Prelude.{[], IsSome, List, ℕ, option_map, string_bytes, unwrap_or}
use Rattle.desk_store.specs.Memory.{MemoryHolds, MemoryContent}
use Rattle.desk_store.specs.Left.{IsDeskOf, IsReplacedOrNot}
use Rattle.desk_store.proofs.MemoryLeft.{replaced_lasts, replaced_leaves}
use Rattle.desk_store.proofs.memory.MemoryKeeperKeeper.replace.Goals as goal

pub returns-clause-crash : goal.returns-clause-crash
returns-clause-crash c = λ up clean left may.
    let roster = option_map string_bytes c.self.inside.roster in
    let old : MemoryContent = record { roster = roster; messages = c.self.inside.messages } in
    let P : MemoryContent → Type 0 = λ k. IsReplacedOrNot (IsSome k.roster) ⊥ (unwrap_or k.roster []) c.args.text.now (MemoryHolds k) left in
    let Q : List ℕ → Type 0 = λ t. IsReplacedOrNot (IsSome roster) ⊥ (unwrap_or roster []) t (MemoryHolds old) left in
    subst P c.self.view_is
    (subst Q c.in_ok-recorded.ensures.ok (replaced_leaves roster (string_bytes c.in_ok-recorded.recorded) c.self.inside.messages left may))

pub returns-clause-lasting : goal.returns-clause-lasting
returns-clause-lasting c = λ up clean left may.
    let roster = option_map string_bytes c.self.inside.roster in
    let old : MemoryContent = record { roster = roster; messages = c.self.inside.messages } in
    let P : MemoryContent → Type 0 = λ k. IsDeskOf c.args.text.now (MemoryHolds k) left in
    let Q : List ℕ → Type 0 = λ t. IsDeskOf t (MemoryHolds old) left in
    subst P c.self.view_is
    (subst Q c.in_ok-recorded.ensures.ok (replaced_lasts roster (string_bytes c.in_ok-recorded.recorded) c.self.inside.messages left may))

pub returns-clause-leaves : goal.returns-clause-leaves
returns-clause-leaves c = λ clean left may.
    let roster = option_map string_bytes c.self.inside.roster in
    let old : MemoryContent = record { roster = roster; messages = c.self.inside.messages } in
    let P : MemoryContent → Type 0 = λ k. IsDeskOf c.args.text.now (MemoryHolds k) left in
    let Q : List ℕ → Type 0 = λ t. IsDeskOf t (MemoryHolds old) left in
    inr (
      tt,
      subst P c.self.view_is
          (subst Q c.in_ok-recorded.ensures.ok (replaced_lasts roster (string_bytes c.in_ok-recorded.recorded) c.self.inside.messages left may)),
    )

use Rattle.std.proofs.Common.{◌⊎◌, subst}
use Rattle.std.specs.Prelude.{⊤, [], IfOk, IsSome, OnOk, option_map, string_bytes, unwrap_or}
use Rattle.desk_store.specs.Memory.{MemoryHolds, MemoryContent}
use Rattle.store_tables.specs.Arrivals.{IsTold}
use Rattle.store_tables.specs.Sets.{IsWith, With}
use Rattle.desk_store.specs.Left.{IsCommitted, IsDeskOf, IsWithOrWithout, LeavesOnly}
use Rattle.desk_store.specs.Crash.{LeavesContent}
use Rattle.desk_store.proofs.MemoryLeft.{put_adds_only, put_lasts, put_leaves}
use Rattle.desk_store.proofs.MemoryLemmas.{put_adds_at_ok, put_told}
use Rattle.desk_store.proofs.memory.MemoryKeeperKeeper.add.Goals as goal

pub returns-clause-added : goal.returns-clause-added
returns-clause-added c = λ up.
    let roster = option_map string_bytes c.self.inside.roster in
    let P : MemoryContent → Type 0 =
    λ old. OnOk c.put.result (IsWith (MemoryHolds old) c.args.message.now (MemoryHolds (record { roster = roster; messages = c.put.new.self }))) in
    subst P c.self.view_is (put_adds_at_ok c.put.result roster c.self.inside.messages c.args.message.now c.put.new.self c.requires.message c.put.ensures.put)

pub returns-clause-told : goal.returns-clause-told
returns-clause-told c = λ up.
    let roster = option_map string_bytes c.self.inside.roster in
    let P : MemoryContent → Type 0 = λ old. IfOk c.put.result (IsTold (MemoryHolds old c.args.message.now)) in
    subst P c.self.view_is (put_told c.put.result roster c.self.inside.messages c.args.message.now c.requires.message c.put.ensures.told)

pub returns-clause-crash : goal.returns-clause-crash
returns-clause-crash c = λ up clean left may.
    let roster = option_map string_bytes c.self.inside.roster in
    let P : MemoryContent → Type 0 = λ old. IsSome old.roster → IsWithOrWithout (unwrap_or old.roster []) (MemoryHolds old) c.args.message.now left in
    subst P c.self.view_is (λ some. put_leaves roster c.self.inside.messages c.args.message.now c.put.new.self
    c.requires.message some c.put.result c.put.ensures.put c.put.ensures.unchanged left may) (c.requires.desk up)

pub returns-clause-lasting : goal.returns-clause-lasting
returns-clause-lasting c = λ up clean.
    let roster = option_map string_bytes c.self.inside.roster in
    let new : MemoryContent = record { roster = roster; messages = c.put.new.self } in
    let P : MemoryContent → Type 0 = λ old. IsSome old.roster
    → OnOk c.put.result (LeavesOnly (LeavesContent new) (IsDeskOf (unwrap_or old.roster []) (With (MemoryHolds old) c.args.message.now))) in
    subst P c.self.view_is (λ some.
    put_lasts roster c.self.inside.messages c.args.message.now c.put.new.self c.requires.message some c.put.result c.put.ensures.put) (c.requires.desk up)

pub returns-clause-leaves : goal.returns-clause-leaves
returns-clause-leaves c = λ clean left may.
    let roster = option_map string_bytes c.self.inside.roster in
    let P : MemoryContent → Type 0 =
    λ old. IsSome old.roster → LeavesContent old left ⊎ IsCommitted ⊤ (unwrap_or old.roster []) (With (MemoryHolds old) c.args.message.now) left in
    subst P c.self.view_is (λ some. put_adds_only roster c.self.inside.messages c.args.message.now c.put.new.self
    c.requires.message some c.put.result c.put.ensures.put c.put.ensures.unchanged left may) (c.requires.desk tt)

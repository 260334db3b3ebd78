-- What an opening finds in files that a crash may have left.
use Rattle.std.proofs.Common.{◌≡◌, IsTrue, ap, refl, sym, subst}
use Rattle.std.proofs.lemmas.Bool.{and_from, and_parts}
use Rattle.std.proofs.Math.Logic.{∥∥₁_elim, ∥∥₁_prop}
use mathlib.Core.HLevel.{Σ_prop_path, ×_prop}
use Rattle.sqlite_disk.specs.declared.Disk.{Ghosts}
use Rattle.sqlite_wal.specs.Recovery.{Image}
use Rattle.sqlite_wal.specs.Reads.{AreClean}
use Rattle.sqlite_wal.specs.Files.{outcomes, seen_image}
use Rattle.sqlite_pages.specs.PageMap.{PageMap}
use Rattle.sqlite_pool.specs.Stored.{Recovers}
use Rattle.sqlite_pool.specs.StoredLaws.{recovers_once}
use Rattle.sqlite_pool.proofs.StateLemmas.{clean_if_left, may_leave_is, size_is_allowed}
use Rattle.sqlite_pool.proofs.PoolLemmas.{pages_from}
use Rattle.sqlite_pool.proofs.ResealLemmas.{adopts_of}
use Rattle.sqlite_trees.specs.Tree.{Trees}
use Rattle.sqlite_trees.specs.Props.{Trees-set}
use Rattle.sqlite_trees.specs.View.{IsClean}
use Rattle.sqlite_trees.proofs.Doubt.{no_doubt}
use Rattle.sqlite_store.specs.declared.store.FileStore.{FileStore}
use Rattle.sqlite_store.specs.Listing.{file_trees, IsOurs}
use Rattle.sqlite_store.specs.FileStore.{files, state, schema_in, recovers, view}
use Rattle.sqlite.specs.State.{State}
use Rattle.sqlite.specs.Files.{HoldsDatabase}
use Rattle.sqlite.specs.Effect.{Database}
use Rattle.sqlite.specs.Start.{FindsIn}
use Rattle.desk_store.specs.Crash.{IsFound}
use Rattle.desk_store.specs.Left.{LeavesOnly}
use Rattle.store_restart.specs.Stopped.{LeavesDesk, MayLeaveFiles, ShowsFound, WasConnected}

module _ {D : Type 0} {g : Ghosts D} (it : FileStore D g) where
  -- both files crash
  pub after_crash : (log db new_log new_db : D) → (log, db) ≡ files it → g.may_leave log (g.seen new_log) → g.may_leave db (g.seen new_db)
      → (IsTrue (g.is_clean new_log) → IsTrue (g.is_clean log)) → (IsTrue (g.is_clean new_db) → IsTrue (g.is_clean db))
      → AreClean g new_log new_db → MayLeaveFiles it (seen_image g new_log new_db)
  after_crash log db new_log new_db is left_log left_db clean_log clean_db clean =
      let parts = and_parts (g.is_clean new_log) (g.is_clean new_db) clean in
      let P : D × D → Type 0 = λ p. AreClean g p.0 p.1 × outcomes g p.0 p.1 (seen_image g new_log new_db) in
      subst P is (and_from (g.is_clean log) (g.is_clean db) (clean_log parts.0) (clean_db parts.1), (left_log, left_db))

module _ {D : Type 0} {g : Ghosts D} (it : FileStore D g) (left : Image) where
  -- the files recover to these pages, which read as these trees
  abbrev IsReadAs : Trees → PageMap → Type 0
  IsReadAs db pages = ∥ Recovers (state it).page_size left pages ∥₁ × (db ≡ file_trees (state it).page_size (schema_in it pages) pages)

  abbrev ReadsAs : Trees → Type 0
  ReadsAs db = (pages : PageMap) × IsReadAs db pages

  -- they recover to no others
  reads_once : (db : Trees) → IsProp (ReadsAs db)
  reads_once db a b =
      let each : (pages : PageMap) → IsProp (IsReadAs db pages) =
      λ pages. ×_prop ∥∥₁_prop (Trees-set db (file_trees (state it).page_size (schema_in it pages) pages)) in
      let same : a.0 ≡ b.0 = pages_from a.0 b.0 a.1.0 (λ x. pages_from a.0 b.0 b.1.0 (λ y. recovers_once _ left a.0 b.0 x y)) in
      Σ_prop_path each {u = a} {v = b} same

  -- so the disk has been honest
  pub honest : MayLeaveFiles it left → IsClean (view it)
  honest may = no_doubt (state it).is_clean (clean_if_left it.pool left (may_leave_is it.pool left may.0 may.1))

  -- The opening finds trees that a crash may leave. This is the law `next_run` of the crate
  -- `sqlite`, without its truncation: the files recover to one database alone.
  pub found_is_left : WasConnected it → MayLeaveFiles it left → (opened : State) → FindsIn left opened → recovers it opened.committed.trees
  found_is_left connected may opened found =
      let leaves : (state it).may_leave left = may_leave_is it.pool left may.0 may.1 in
      let clean = honest may in
      let there : ReadsAs opened.committed.trees = ∥∥₁_elim it.safe (reads_once _) (λ all.
      let pages = all left leaves in
      let db = file_trees (state it).page_size (schema_in it pages.0) pages.0 in
      let schema = connected.sound clean db (left, pages.0, leaves, ∣ pages.1 ∣₁, refl) in
      ∥∥₁_elim (size_is_allowed it.pool) (reads_once _) (λ size. ∥∥₁_elim pages.2 (reads_once _) (λ ours.
      let holds : HoldsDatabase left db = (
        (state it).page_size,
        size,
        record {
          pages = pages.0;
          wanted = schema_in it pages.0;
          schema = schema.0;
          found = adopts_of _ left pages.0 pages.1;
          reads = refl;
          sound = schema.1;
          ours = subst (λ b. IsOurs (state it).page_size b (schema_in it pages.0) pages.0) (connected.numbered clean) ours;
        },
      ) in
      (pages.0, (∣ pages.1 ∣₁, found.holds db holds))))) in
      (left, there.0, leaves, there.1.0, there.1.1)

  -- so a look at what it shows finds of a desk what a crash may leave
  pub shown_is_left : WasConnected it → MayLeaveFiles it left → (opened : State) → ShowsFound left opened
      → LeavesOnly (IsFound opened.now) (LeavesDesk it)
  shown_is_left connected may opened shows desk is =
      let trees : opened.committed.trees ≡ opened.now.trees = ap (λ (d : Database). d.trees) (sym shows.settled) in
      (opened.now, subst (recovers it) trees (found_is_left connected may opened shows.finds), shows.sound, is)

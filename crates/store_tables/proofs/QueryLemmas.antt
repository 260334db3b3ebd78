-- What a query in a transaction leaves as it is.
use Rattle.std.proofs.Common.{Result, Ok, Err, Vec, IfOk, IfErr, codes, ◌⊎◌, inl, inr, ℕ, List, Option, Some, None, IsTrue, subst, ◌∙◌}
use Rattle.std.specs.declared.alloc.Global.{Global}
use Rattle.sqlite_schema.specs.declared.command.Returning.{Returning}
use Rattle.sqlite.specs.Order.{Row}
use Rattle.sqlite.specs.Listing.{understood}
use Rattle.sqlite.specs.Clock.{timed}
use Rattle.sqlite.specs.declared.error.Error.{Error}
use Rattle.sqlite.specs.State.{State, IsUnchanged, IsRolledBack, IsTooLate, KeepsCommit, Shown, ShowsRows, FailsToQuery, FailsToShow, IsNotRun}
use Rattle.sqlite.specs.State.{HasCleanDisk, Survives}
use Rattle.sqlite.proofs.Callers.{IsPlain}
use Rattle.store_tables.specs.Stored.{tree_of}
use Rattle.store_tables.specs.Kept.{IsTidy}
use Rattle.store_tables.specs.Steps.{IsStep}
use Rattle.store_tables.specs.private.Stepping.{IsOpenInside}
use Rattle.store_tables.proofs.Where.{names_select, names_selects, parked_select, parked_selects}

-- a query that fails changes nothing
pub undone : (sql : List ℕ) (params : Row) (old new : State) (e : Error) → FailsToQuery sql params old new e → IsUnchanged old new ⊎ IsRolledBack old new
unfolding FailsToQuery IsNotRun
undone sql params old new e (inl (inl refused)) = inl refused.1
undone sql params old new e (inl (inr failed)) = inr failed.3
undone sql params old new e (inr ran) = go ran.0.returning ran.2
  where
    go : (o : Option Returning) → FailsToShow old new sql ran.0 (timed params ran.0.formats ran.1.now) e o → IsUnchanged old new ⊎ IsRolledBack old new
    go None h = inl h.3
    go (Some what) (inl refused) = inl refused.1
    go (Some what) (inr failed) = inr failed.3

pub shown_same : (sql : List ℕ) (params : Row) (old new : State) (rows : List Row)
    → IsPlain (understood old.now.schema sql) → Shown sql params old new rows → IsUnchanged old new
unfolding Shown
shown_same sql params old new rows plain h =
    let none = (subst IsPlain h.1.is plain).0 in
    (subst (ShowsRows old new sql h.0 (timed params h.0.formats h.1.now) rows) none h.2).3

-- nothing was committed by it
keeps : (old new : State) → IsUnchanged old new ⊎ IsRolledBack old new → KeepsCommit old new
keeps old new (inl same) = record { was_open = λ is_open. same.0.was_open; committed = λ is_open. same.0.committed_is }
keeps old new (inr back) = record { was_open = back.was_open; committed = λ is_open. (back.undone is_open).1 }

shown_keeps : (sql : List ℕ) (params : Row) (old new : State) (rows : List Row)
    → IsTrue old.in_transaction → Shown sql params old new rows → KeepsCommit old new
unfolding Shown
shown_keeps sql params old new rows inside h = go h.0.returning h.2
  where
    go : (o : Option Returning) → ShowsRows old new sql h.0 (timed params h.0.formats h.1.now) rows o → KeepsCommit old new
    go None it = keeps old new (inl it.3)
    go (Some what) it = record { was_open = λ is_open. it.1.shown.was_open; committed = λ is_open. rw inside at it.1.shown.committed_is }

keeps_query : (sql : List ℕ) (params : Row) (old new : State) (r : Result (Vec Row Global) Error)
    → IsTrue old.in_transaction → IfOk r (λ rows. Shown sql params old new rows.items)
    → IfErr r (λ e. FailsToQuery sql params old new e ⊎ IsTooLate sql params old new e) → KeepsCommit old new
keeps_query sql params old new (Ok rows) inside shown fails = shown_keeps sql params old new rows.items inside shown
keeps_query sql params old new (Err e) inside shown (inl fails) = keeps old new (undone sql params old new e fails)
keeps_query sql params old new (Err e) inside shown (inr late) = keeps old new (inl late.5)

pub query_steps : (sql : List ℕ) (params : Row) (old new : State) (r : Result (Vec Row Global) Error) → Survives old new (λ _. ⊥)
    → (HasCleanDisk new → IfOk r (λ rows. Shown sql params old new rows.items))
    → (HasCleanDisk new → IfErr r (λ e. FailsToQuery sql params old new e ⊎ IsTooLate sql params old new e)) → IsStep old new
query_steps sql params old new r lives shown fails = record {
  survives = lives;
  kept = λ clean inside. keeps_query sql params old new r inside (shown clean) (fails clean);
}

-- the transaction goes on
pub asks_inside : (sql : List ℕ) (params : Row) (old new : State) (rows : List Row)
    → IsTrue old.in_transaction → Shown sql params old new rows → IsOpenInside old new
unfolding Shown
asks_inside sql params old new rows inside h = go h.0.returning h.2
  where
    go : (o : Option Returning) → ShowsRows old new sql h.0 (timed params h.0.formats h.1.now) rows o → IsOpenInside old new
    go None it = record { was_open = it.3.0.was_open; is_open = it.3.0.is_open; mode = it.3.0.mode ∙ inside }
    go (Some what) it = record { was_open = it.1.shown.was_open; is_open = it.1.shown.is_open; mode = it.1.shown.mode ∙ inside }

pub names_plain : (s : State) → IsTidy s.now → IsPlain (understood s.now.schema names_select)
names_plain s tidy = (names_selects s.now.schema tidy.desk.n (tree_of s.now.schema (codes "names")) tidy.desk.names).plain

pub parked_plain : (s : State) → IsTidy s.now → IsPlain (understood s.now.schema parked_select)
parked_plain s tidy = (parked_selects s.now.schema tidy.desk.p (tree_of s.now.schema (codes "parked")) tidy.desk.parked).plain

-- What a statement that reads does to a connection, and what it shows.
use Rattle.std.proofs.Common.{Result, Ok, Err, OnOk, Vec, IfOk, IfErr, nat_le, ◌^◌, false, ◌≡◌, ◌⊎◌, inl, inr, ℕ}
use Rattle.std.proofs.Common.{List, [], ◌∷◌, map, Option, Some, None, IsTrue, refl, sym, ap, subst, ◌∙◌, arith}
use Rattle.std.specs.List.{flat_map}
use Rattle.std.specs.List.Sorted.{IsPermutation}
use Rattle.std.proofs.lemmas.List.Sorted.{IsPermutation-map}
use Rattle.std.specs.declared.alloc.Global.{Global}
use Rattle.sqlite_schema.specs.declared.command.Returning.{Returning}
use Rattle.sqlite.specs.declared.types.Value.TheVariants.{Null}
use Rattle.sqlite.specs.Order.{Row}
use Rattle.sqlite.specs.Term.{Term}
use Rattle.sqlite_sql.specs.Term.{eval_all}
use Rattle.sqlite.specs.Query.{IsAnswer, Output, output}
use Rattle.sqlite.specs.Program.{overlay}
use Rattle.sqlite.specs.Tree.{Trees}
use Rattle.sqlite.specs.Listing.{understood}
use Rattle.sqlite.specs.Clock.{timed}
use Rattle.sqlite.specs.declared.error.Error.{Error}
use Rattle.sqlite.specs.State.{State, CommitsShowing, HasCleanDisk, Survives, IsUnchanged, IsRolledBack, Shown, ShowsRows, FailsToQuery, FailsToShow, IsNotRun}
use Rattle.sqlite.proofs.Callers.{IsPlain, reads_as}
use Rattle.sqlite.proofs.StateLemmas.{survives_then}
use Rattle.sqlite.specs.Effect.{Database}
use Rattle.store_tables.specs.SqliteStates.{IsUp, IsAtRest, Rests}
use Rattle.store_schema.specs.declared.part.DeskPart.{DeskPart}
use Rattle.store_schema.specs.declared.part.DeskPart.TheVariants.{Desk, Messages, Names, Marks, Verdicts, Parked}
use Rattle.store_schema.specs.Shapes.{FindsPart}
use Rattle.store_schema.proofs.ShapeLemmas.{tree_in}
use Rattle.store_opening.specs.Statements.{select_of}
use Rattle.store_opening.specs.private.Selecting.{ShowsPart, shown_of}
use Rattle.store_opening.proofs.PartQueries.{means_of, project_of, showing}
use Rattle.store_opening.proofs.NoneReturned.{part_commits_none}
use Rattle.store_opening.specs.Opened.{Reads}

-- ---- the connection

-- the connection was up, and is as it was
pub record Same (old new : State) : Type 0 where
  pub was_up : IsUp old
  pub rests : IsAtRest new
  pub now : new.now ≡ old.now

same : (old new : State) → IsUp old → IsUp new → IsAtRest old → IsUnchanged old new ⊎ IsRolledBack old new → Same old new
same old new before up rest (inl it) = record {
  was_up = before;
  rests = record { settled = it.0.now_is ∙ rest.settled ∙ sym it.0.committed_is; autocommit = it.0.mode ∙ rest.autocommit };
  now = it.0.now_is;
}
same old new before up rest (inr undone) =
    let both = undone.undone up.is_open in
    record {
      was_up = before;
      rests = record { settled = both.0 ∙ sym both.1; autocommit = undone.autocommit };
      now = both.0 ∙ sym rest.settled;
    }

-- a query that fails changes nothing
undone : (sql : List ℕ) (params : Row) (old new : State) (e : Error) → FailsToQuery sql params old new e → IsUnchanged old new ⊎ IsRolledBack old new
unfolding FailsToQuery IsNotRun
undone sql params old new e (inl (inl refused)) = inl refused.1
undone sql params old new e (inl (inr failed)) = inr failed.3
undone sql params old new e (inr ran) = go ran.0.returning ran.2
  where
    go : (o : Option Returning) → FailsToShow old new sql ran.0 (timed params ran.0.formats ran.1.now) e o → IsUnchanged old new ⊎ IsRolledBack old new
    go None h = inl h.3
    go (Some what) (inl refused) = inl refused.1
    go (Some what) (inr failed) = inr failed.3

shown_open : (sql : List ℕ) (params : Row) (old new : State) (rows : List Row) → Shown sql params old new rows → IsTrue old.is_open
unfolding Shown
shown_open sql params old new rows h = go h.0.returning h.2
  where
    go : (o : Option Returning) → ShowsRows old new sql h.0 (timed params h.0.formats h.1.now) rows o → IsTrue old.is_open
    go None it = it.3.0.was_open
    go (Some what) it = it.1.shown.was_open

shown_still : (sql : List ℕ) (params : Row) (old new : State) (rows : List Row) → Shown sql params old new rows → IsTrue new.is_open
unfolding Shown
shown_still sql params old new rows h = go h.0.returning h.2
  where
    go : (o : Option Returning) → ShowsRows old new sql h.0 (timed params h.0.formats h.1.now) rows o → IsTrue new.is_open
    go None it = it.3.0.is_open
    go (Some what) it = it.1.shown.is_open

shown_same : (sql : List ℕ) (params : Row) (old new : State) (rows : List Row)
    → IsPlain (understood old.now.schema sql) → Shown sql params old new rows → IsUnchanged old new
unfolding Shown
shown_same sql params old new rows plain h =
    let none = (subst IsPlain h.1.is plain).0 in
    (subst (ShowsRows old new sql h.0 (timed params h.0.formats h.1.now) rows) none h.2).3

module _ (sql : List ℕ) (old new : State) where
  -- after an answer the connection is open
  pub answered_up : HasCleanDisk new → (r : Result (Vec Row Global) Error) → IfOk r (λ rows. Shown sql [] old new rows.items) → OnOk r (IsUp new)
  answered_up clean (Ok rows) shown = record { clean = clean; is_open = shown_still sql [] old new rows.items shown }
  answered_up clean (Err e) shown = tt

  module _ (P : Trees → Type 0) (lives : Survives old new P) (rests : Rests old) (plain : IsUp old
      → IsPlain (understood old.now.schema sql)) (up : IsUp new) where
    pub stays : (r : Result (Vec Row Global) Error) → IfOk r (λ rows. Shown sql [] old new rows.items) → IfErr r (FailsToQuery sql [] old new) → Same old new
    stays (Ok rows) shown fails =
        let before : IsUp old = record { clean = omega (arith, lives.clean, up.clean); is_open = shown_open sql [] old new rows.items shown } in
        same old new before up (rests before) (inl (shown_same sql [] old new rows.items (plain before) shown))
    stays (Err e) shown fails =
        let way = undone sql [] old new e fails in
        let before : IsUp old =
        record { clean = omega (arith, lives.clean, up.clean); is_open = elim way [ inl it ↦ it.0.was_open | inr back ↦ back.was_open up.is_open ] } in
        same old new before up (rests before) way

-- ---- a crash

-- where each commit that is possible has a property, that stands in its place
survives_as : (old new : State) (P Q : Trees → Type 0) → ((db : Trees) → P db → Q db) → Survives old new P → Survives old new Q
survives_as old new P Q each s = record {
  clean = s.clean;
  shield = s.shield;
  counts = s.counts;
  limit = s.limit;
  closes = s.closes;
  crash = λ clean db left. elim (s.crash clean db left) as (λ _. old.may_leave db ⊎ Q db) [ inl before ↦ inl before | inr new ↦ inr (each db new) ];
}

-- the statement of a part commits nothing, whatever the schema is
survives_read : (p : DeskPart) (old new : State) → Survives old new (CommitsShowing (select_of p) [] old) → Survives old new (λ _. ⊥)
survives_read p old new s = survives_as old new (CommitsShowing (select_of p) [] old) (λ _. ⊥) (part_commits_none p old) s

survives_both : (a b c : State) → Survives a b (λ _. ⊥) → Survives b c (λ _. ⊥) → Survives a c (λ _. ⊥)
survives_both a b c one two = survives_then a b c _ _ (λ _. ⊥) (λ _ db none. none) (λ _ db none. none) one two

-- two calls that read, one after the other
pub then_reads : {a b c : State} → Reads a b → Reads b c → Reads a c
then_reads one two = record {
  rests = two.rests;
  was_up = λ h. one.was_up (two.was_up h);
  was_clean = λ h. one.was_clean (two.was_clean h);
  same = λ h. two.same h ∙ one.same (two.was_up h);
  survives = survives_both _ _ _ one.survives two.survives;
}

-- what held before a call that reads holds after it
pub still : {a b : State} (P : Database → Type 0) → Reads a b → (IsUp a → P a.now) → IsUp b → P b.now
still P reads was up = subst P (sym (reads.same up)) (was (reads.was_up up))

-- and what holds after it held before
pub before : {a b : State} (P : Database → Type 0) → Reads a b → IsUp b → P b.now → P a.now
before P reads up is = subst P (reads.same up) is

-- what follows from an answer
pub ok_as : {A E : Type 0} (P Q : A → Type 0) → ((x : A) → P x → Q x) → (r : Result A E) → IfOk r P → IfOk r Q
ok_as P Q each (Ok x) h = each x h
ok_as P Q each (Err e) h = tt

pub up_ok : {A E P : Type 0} (r : Result A E) → P → OnOk r P
up_ok (Ok x) h = h
up_ok (Err e) h = tt

-- ---- what is shown

abbrev seen : List Term → Row → Row
seen project r = eval_all project ([] ∷ r ∷ [])

outputs : (tree : ℕ) (project : List Term) (rows : List Row)
    → map (λ (o : Output). o.1) (map (output (showing tree project)) (flat_map (λ r. ([] ∷ r ∷ []) ∷ []) rows)) ≡ map (seen project) rows
outputs tree project [] = refl
outputs tree project (r ∷ rs) = ap (λ os. seen project r ∷ os) (outputs tree project rs)

overlay_none : (old : Trees) (tree : ℕ) → nat_le (2 ^ 31) tree ≡ false → overlay old [] tree ≡ old tree
overlay_none old tree low = rw low refl

shows_all : (old : Trees) (tree : ℕ) (project : List Term) → nat_le (2 ^ 31) tree ≡ false → (rows : List Row)
    → IsAnswer (showing tree project) (overlay old []) [] rows → IsPermutation (map (seen project) (old tree)) rows
shows_all old tree project low rows a =
    let q = showing tree project in
    let kept = a.distinct ∙ ap (map (output q)) (a.grouped ∙ ap (flat_map (λ r. ([] ∷ r ∷ []) ∷ [])) (overlay_none old tree low)) in
    let shown : map (λ (o : Output). o.1) a.kept ≡ map (seen project) (old tree) = ap (map (λ (o : Output). o.1)) kept ∙ outputs tree project (old tree) in
    subst (λ l. IsPermutation l rows) shown
    (subst (IsPermutation (map (λ (o : Output). o.1) a.kept)) (sym a.shown) (IsPermutation-map (λ (o : Output). o.1) a.kept a.ordered a.same))

seen_is : (p : DeskPart) (rows : List Row) → map (seen (project_of p)) rows ≡ map (shown_of p) rows
seen_is p [] = refl
seen_is p (r ∷ rs) = λ i. one p i ∷ seen_is p rs i
  where
    one : (p : DeskPart) → seen (project_of p) r ≡ shown_of p r
    one Desk = refl
    one Messages = refl
    one Names = refl
    one Marks = refl
    one Verdicts = refl
    one Parked = refl

pub part_plain : (s : State) (p : DeskPart) → FindsPart s.now.schema p → IsPlain (understood s.now.schema (select_of p))
part_plain s p it = (means_of s.now.schema p it).1.plain

pub part_shown : (old new : State) (p : DeskPart) → FindsPart old.now.schema p → (r : Result (Vec Row Global) Error)
    → IfOk r (λ rows. Shown (select_of p) [] old new rows.items) → IfOk r (λ rows. ShowsPart p old.now rows.items)
part_shown old new p it (Ok rows) shown =
    let s = old.now.schema in
    let tree = it.table.tree in
    let means = (means_of s p it).1 in
    let answer = (reads_as (select_of p) [] old new s refl _ means.command means.plain means.unlisted rows.items shown).answer Null in
    subst (λ t. IsPermutation (map (shown_of p) (old.now.trees t)) rows.items) (sym (tree_in s p it))
    (subst (λ l. IsPermutation l rows.items) (seen_is p (old.now.trees tree))
    (shows_all old.now.trees tree (project_of p) it.finds.stored rows.items answer))
part_shown old new p it (Err e) shown = tt

-- ---- the statement of a part

module _ (sql : List ℕ) (p : DeskPart) (is : sql ≡ select_of p) (old new : State) (found : IsUp old
    → FindsPart old.now.schema p) (r : Result (Vec Row Global) Error) where
  plain : IsUp old → IsPlain (understood old.now.schema sql)
  plain up = subst (λ t. IsPlain (understood old.now.schema t)) (sym is) (part_plain old p (found up))

  module _ (lives : Survives old new (CommitsShowing sql [] old)) (rests : Rests old)
      (ok : HasCleanDisk new → IfOk r (λ rows. Shown sql [] old new rows.items)) (err : HasCleanDisk new → IfErr r (FailsToQuery sql [] old new)) where
    stay : (up : IsUp new) → Same old new
    stay up = stays sql old new _ lives rests plain up r (ok up.clean) (err up.clean)

    pub reads_part : Reads old new
    reads_part = record {
      rests = λ up. (stay up).rests;
      was_up = λ up. (stay up).was_up;
      was_clean = λ clean. let lived = lives.clean in omega (arith, lived, clean);
      same = λ up. (stay up).now;
      survives = survives_read p old new (subst (λ t. Survives old new (CommitsShowing t [] old)) is lives);
    }

    pub shows_part : IsUp new → IfOk r (λ rows. ShowsPart p old.now rows.items)
    shows_part up = part_shown old new p (found (stay up).was_up) r (subst (λ t. IfOk r (λ rows. Shown t [] old new rows.items)) is (ok up.clean))

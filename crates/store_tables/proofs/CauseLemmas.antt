-- Why a message that is there is refused.
use Rattle.std.proofs.Common.{◌≡◌, ◌⊎◌, inl, inr, ℕ, ◌+◌, ◌-◌, ◌^◌, ◌≤◌, min, List, [], ◌∷◌, length, Bool, true, false, true≢false}
use Rattle.std.proofs.Common.{IsSome, IsTrue, Ok, Err, Result, codes, IfErr, refl, sym, ap, subst, subst₂, ◌∙◌, append-nil, arith}
use Rattle.std.proofs.lemmas.Bool.{cases_lt}
use Rattle.sqlite.specs.declared.types.Value.TheVariants.{Text}
use Rattle.sqlite.specs.declared.error.Error.{Error}
use Rattle.sqlite.specs.Order.{Row}
use Rattle.sqlite.specs.Schema.{Schema}
use Rattle.sqlite.specs.Clock.{timed}
use Rattle.sqlite.specs.Effect.{RefusesToRead}
use Rattle.sqlite.specs.Command.TheVariants as command
use Rattle.sqlite.specs.Listing.{IsSourceOf}
use Rattle.sqlite.specs.State.{State, Fails, FailsToQuery, FailsToShow, HasCause, HasCleanDisk}
use Rattle.sqlite.specs.State.{IsNotRun, IsNoStatement, IsStatement, IsTooLate, Survives, store_error}
use Rattle.sqlite.specs.Steps.{FailsToCommit}
use Rattle.sqlite.specs.Tree.{Trees}
use Rattle.sqlite.proofs.Callers.{IsPlain, command_of}
use Rattle.sqlite_resolve.specs.declared.compiled.Compiled.{Compiled}
use Rattle.sqlite_trees.specs.declared.error.StoreError.{StoreError}
use Rattle.sqlite_trees.specs.declared.error.StoreError.TheVariants.{OutOfMemory, Io, Corrupt, Full, Broken, Unstorable}
use Rattle.sqlite_typing.specs.Types.{accepts_program}
use Rattle.store_tables.specs.declared.fault.Fault.{Fault}
use Rattle.store_tables.specs.declared.fault.Fault.TheVariants as fault
use Rattle.store_tables.specs.DeskTables.{messages_at}
use Rattle.store_tables.specs.Stored.{Finds, content_of, has}
use Rattle.store_tables.specs.Kept.{IsDeskDatabase}
use Rattle.store_tables.specs.SqliteStates.{IsUp}
use Rattle.store_tables.specs.Steps.{IsStep}
use Rattle.store_tables.specs.private.Stepping.{FindsText}
use Rattle.store_tables.proofs.ArriveLemmas.{begun}
use Rattle.store_tables.specs.Causes.{HasFailed, IsExplained}
use Rattle.store_tables.proofs.Found.{looking, text_select, text_selects, text_understood}
use Rattle.store_tables.proofs.QueriesOf.{Means}

-- ---- the store

rose : (a b : ℕ) → min (a + 1) (2 ^ 64 - 1) ≤ b → HasFailed a b
rose a b more = elim (cases_lt b (2 ^ 64 - 1)) [
  | inl below ↦ inl (omega (arith, more, below))
  | inr great ↦ inr great
]

failed_caused : (old new : State) (cause : StoreError) → IsTrue old.is_open → HasCause old new ⊥ cause
    → IsExplained old new (fault.Database (store_error cause))
failed_caused old new OutOfMemory is_open has = inl refl
failed_caused old new Io is_open has = inr (inl (rose _ _ has))
failed_caused old new Corrupt is_open has = inr (inl (rose _ _ has))
failed_caused old new Full is_open has = inr (inl (rose _ _ has))
failed_caused old new Broken is_open has = absurd (let e = sym has ∙ is_open in cc)
failed_caused old new Unstorable is_open has = absurd has

pub failed : (old new : State) (e : Error) → IsTrue old.is_open → Fails old new ⊥ e → IsExplained old new (fault.Database e)
failed old new e is_open it = subst (λ e. IsExplained old new (fault.Database e)) (sym it.1) (failed_caused old new it.0 is_open it.2)

-- ---- the query of a text

module _ (text : List ℕ) (s : Schema) (at tree : ℕ) (found : Finds s (codes "messages") at (messages_at tree)) where
  accepted : accepts_program s [] (looking tree) (Text text ∷ []) ≡ true
  accepted = rw (found.stored, found.by_tree) refl

module _ (text : List ℕ) (at tree : ℕ) (old new : State) (e : Error) (found : Finds old.now.schema (codes "messages") at (messages_at tree))
    (is_open : IsTrue old.is_open) where
  abbrev params : Row
  params = Text text ∷ []

  means : Means old.now.schema text_select (command.Select (record { lets = []; body = looking tree }) (codes "body" ∷ []))
  means = text_selects old.now.schema at tree found

  -- a refusal to read it is by a limit
  refused : RefusesToRead old.step_limit (command.Select (record { lets = []; body = looking tree }) (codes "body" ∷ [])) old.now params e
      → IsExplained old new (fault.Database e)
  refused (inl typed) = absurd (let t = sym typed.1 ∙ accepted text old.now.schema at tree found in cc)
  refused (inr (inl over)) = elim over.1 [ inl none ↦ absurd none | inr none ↦ absurd none.4 ]
  refused (inr (inr limit)) = inr (inr limit.1)

  shown : (c : Compiled) (it : IsStatement old text_select params c) → FailsToShow old new text_select c (timed params c.formats it.now) e c.returning
      → IsExplained old new (fault.Database e)
  shown c it fails =
      let bare = subst IsPlain it.is means.plain in
      let here = subst (FailsToShow old new text_select c (timed params c.formats it.now) e) bare.0 fails in
      let unlisted = subst (λ b. IsSourceOf b old.now here.0) means.unlisted here.1 in
      let untimed : timed params c.formats it.now ≡ params = ap (λ f. timed params f it.now) bare.1 ∙ append-nil params in
      let read = subst (λ ps. RefusesToRead old.step_limit c.command here.0 ps e) untimed here.2 in
      let same : here.0 ≡ old.now = unlisted in
      let is : c.command ≡ command.Select (record { lets = []; body = looking tree }) (codes "body" ∷ []) = ap command_of (sym it.is) ∙ means.command in
      refused (subst₂ (λ k d. RefusesToRead old.step_limit k d params e) is same read)

  parses : IsNoStatement old text_select params e → ⊥
  parses (inl (err, is, _)) = absurd (let e = sym is ∙ (text_understood old.now.schema at tree found).1 in cc)
  parses (inr (c, is, why)) =
      let it = text_understood old.now.schema at tree found in
      let same : it.0 ≡ c = (let e = sym it.1 ∙ is in cc) in
      let tail = ap (λ (c : Compiled). c.tail) (sym same) ∙ it.2 in
      let names = ap (λ (c : Compiled). length c.names) (sym same) ∙ it.3 in
      elim why [
        | inl short ↦ short.0 (omega (arith, tail))
        | inr more ↦ elim more [
          | inl count ↦ count.0 (sym names)
          | inr formats ↦ formats.0 (ap (λ (c : Compiled). c.formats) (sym same) ∙ it.4)
        ]
      ]

  pub explained : FailsToQuery text_select params old new e ⊎ IsTooLate text_select params old new e → IsExplained old new (fault.Database e)
  unfolding FailsToQuery IsNotRun
  explained (inl (inl (inl unread))) = absurd (parses unread.0)
  explained (inl (inl (inr fails))) = failed old new e is_open fails
  explained (inl (inr ran)) = shown ran.0 ran.1 ran.2
  explained (inr late) = absurd (let none = (subst IsPlain late.1.is means.plain).0 in let some = rw none at late.2 in cc)

-- ---- the transaction of a message

pub never_refused : {T E : Type 0} (r : Result T E) (A B C : Type 0) (D : E → Type 0) → (A → B → C → ⊥) → IfErr r (λ e. A → B → C → D e)
never_refused (Ok x) A B C D no_case = tt
never_refused (Err e) A B C D no_case = λ a b c. absurd (no_case a b c)

pub never_missing : (text : List ℕ) (told : Bool) (a z : State) → told ≡ false → FindsText text told a z
    → IsDeskDatabase a.now → has (content_of a.now) text ≡ true → ⊥
never_missing text told a z is finds desk there = true≢false (sym there ∙ sym (finds.tells desk.tidy) ∙ is)

module _ (old last end : State) (P : Trees → Type 0) (ends : Survives last end P) where
  -- the transaction ended after it was refused
  pub explained_ended : (f : Fault) → IsExplained (begun old) last f → IsExplained old end f
  explained_ended f (inl memory) = inl memory
  explained_ended f (inr (inl (inl more))) = let counts = ends.counts in inr (inl (inl (omega (arith, more, counts))))
  explained_ended f (inr (inl (inr greatest))) = let counts = ends.counts in inr (inl (inr (omega (arith, greatest, counts))))
  explained_ended f (inr (inr limit)) = inr (inr limit)

  module _ (step : IsStep (begun old) last) where
    explained_then : (f : Fault) → IsExplained last end f → IsExplained old end f
    explained_then f (inl memory) = inl memory
    explained_then f (inr (inl (inl more))) = let counts = step.survives.counts in inr (inl (inl (omega (arith, more, counts))))
    explained_then f (inr (inl (inr greatest))) = inr (inl (inr greatest))
    explained_then f (inr (inr limit)) = inr (inr (subst IsSome step.survives.limit limit))

    -- the commit was refused
    pub explained_commit : (e : Error) → IsUp old → HasCleanDisk last → IsTrue last.in_transaction
        → FailsToCommit last end e → IsExplained old end (fault.Database e)
    explained_commit e up clean inside (inl fails) = elim (step.survives.closes clean up.is_open) as (λ _. IsExplained old end (fault.Database e)) [
      | inl is_open ↦ explained_then (fault.Database e) (failed last end e is_open fails)
      | inr shut ↦ explained_ended (fault.Database e) (inr (inl (rose _ _ shut)))
    ]
    explained_commit e up clean inside (inr late) = absurd (let e = sym inside ∙ late.1 in cc)

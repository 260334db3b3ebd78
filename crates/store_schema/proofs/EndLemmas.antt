-- How a transaction ends, whatever it does.
use Rattle.std.proofs.Common.{◌≡◌, false, IsTrue, refl, sym, subst, ◌∙◌, arith}
use Rattle.sqlite.specs.Tree.{Trees}
use Rattle.sqlite.specs.Effect.{Database, IsDatabase}
use Rattle.sqlite.specs.State.{State, HasCleanDisk, KeepsCommit, Shows, Survives}
use Rattle.sqlite.proofs.StateLemmas.{survives_then}
use Rattle.store_tables.specs.SqliteStates.{IsUp, Rests}
use Rattle.store_tables.specs.Steps.{IsStep}
use Rattle.store_tables.proofs.ArriveLemmas.{Ends, begun}
use Rattle.store_tables.proofs.TurnLemmas.{clean_before}

-- any database with these trees has the property
abbrev pub At : (Database → Type 0) → Trees → Type 0
At Does trees = (db : Database) → db.trees ≡ trees → IsDatabase db → Does db

module _ (Does : Database → Type 0) (again' : (a b : Database) → IsDatabase b → b.trees ≡ a.trees → Does a
    → Does b) (old last end : State) (rests : Rests old) (step : IsStep (begun old) last) (P : Trees → Type 0) (ends : Survives last end P) where
  clean_last : HasCleanDisk end → HasCleanDisk last
  clean_last clean = clean_before last end P ends clean

  clean_first : HasCleanDisk last → HasCleanDisk old
  clean_first clean = let before = step.survives.clean in omega (arith, before, clean)

  survives_from : Survives old last (λ _. ⊥)
  survives_from = let s = step.survives in record { clean = s.clean; shield = s.shield; counts = s.counts; limit = s.limit; closes = s.closes; crash = s.crash }

  kept : HasCleanDisk last → KeepsCommit (begun old) last
  kept clean = step.kept clean refl

  -- ---- it was committed

  module _ (mode : HasCleanDisk last → IsTrue last.in_transaction) (does : IsUp old → HasCleanDisk last → Does last.now) where
    -- a crash in the commit may leave the whole, if the connection was up
    pub whole_survives : (HasCleanDisk last → IsTrue old.is_open) → ((db : Trees) → P db
        → db ≡ last.now.trees) → Survives old end (λ trees. IsUp old × At Does trees)
    whole_survives was_open only = survives_then old last end _ _ (λ trees. IsUp old × At Does trees) (λ _ db no_such. absurd no_such)
        (λ clean db left. let mid = clean_last clean in let up : IsUp old = record { clean = clean_first mid; is_open = was_open mid } in
        (up, subst (At Does) (sym (only db left)) (λ b same sound. again' last.now b sound same (does up mid)))) survives_from ends

    module _ (ok : HasCleanDisk end → IsTrue last.in_transaction × Shows last end last.now last.now false) where
      pub commit_ends : Ends old end
      commit_ends = record {
        rests = λ up. let shows = (ok up.clean).1 in record { settled = shows.now_is ∙ sym shows.committed_is; autocommit = shows.mode };
        was_up = λ up. record { clean = clean_first (clean_last up.clean); is_open = (kept (clean_last up.clean)).was_open (ok up.clean).1.was_open };
        was_clean = λ clean. clean_first (clean_last clean);
      }

      pub commit_up : HasCleanDisk end → IsUp end
      commit_up clean = record { clean = clean; is_open = (ok clean).1.is_open }

      pub commit_does : IsUp end → Does end.now
      commit_does up = subst Does (sym (ok up.clean).1.now_is) (does (commit_ends.was_up up) (clean_last up.clean))

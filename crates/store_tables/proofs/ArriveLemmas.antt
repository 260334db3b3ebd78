-- How the transaction of an arriving message ends.
use Rattle.std.proofs.Common.{◌≡◌, ℕ, List, true, false, IsTrue, refl, sym, ap, subst, ◌∙◌, arith}
use Rattle.sqlite.specs.Tree.{Trees}
use Rattle.sqlite.specs.State.{State, HasCleanDisk, IsLive, KeepsCommit, Shows, Survives}
use Rattle.sqlite.proofs.StateLemmas.{survives_then}
use Rattle.store_tables.specs.Stored.{IsListedAs, content_of, has, with_text}
use Rattle.store_tables.specs.Kept.{IsDeskDatabase, Spares}
use Rattle.store_tables.specs.SqliteStates.{IsUp, Rests}
use Rattle.store_tables.specs.Steps.{IsStep}
use Rattle.store_tables.specs.Committed.{ArrivesAt}
use Rattle.store_tables.specs.Arrivals.{IsTold}
use Rattle.store_tables.specs.declared.arrival.Arrival.{Arrival}
use Rattle.store_tables.specs.private.Turning.{Received, Receives}
use Rattle.store_tables.proofs.OneSchema.{again, listed_again}
use Rattle.store_tables.proofs.TurnLemmas.{clean_before}

abbrev pub begun : State → State
begun old = record old { in_transaction = true }

-- what holds of the end, whatever it is
pub record Ends (old end : State) : Type 0 where
  pub rests : Rests end
  pub was_up : IsUp end → IsUp old
  pub was_clean : HasCleanDisk end → HasCleanDisk old

module _ (text : List ℕ) (old last end : State) (rests : Rests old) (step : IsStep (begun old) last) (P : Trees → Type 0) (ends : Survives last end P) where
  clean_last : HasCleanDisk end → HasCleanDisk last
  clean_last clean = clean_before last end P ends clean

  clean_first : HasCleanDisk last → HasCleanDisk old
  clean_first clean = let before = step.survives.clean in omega (arith, before, clean)

  survives_from : Survives old last (λ _. ⊥)
  survives_from = let s = step.survives in record { clean = s.clean; shield = s.shield; counts = s.counts; limit = s.limit; closes = s.closes; crash = s.crash }

  kept : HasCleanDisk last → KeepsCommit (begun old) last
  kept clean = step.kept clean refl

  -- ---- it was committed

  module _ (received : HasCleanDisk last → Received text (begun old) last) (desk : IsUp old → IsDeskDatabase old.now) (live : IsLive old) where
    receives : IsUp old → HasCleanDisk last → Receives text old.now last.now
    receives up clean = (received clean).receives (live up.is_open).0 (desk up)

    up_first : HasCleanDisk last → IsUp old
    up_first clean = record { clean = clean_first clean; is_open = (received clean).was_open }

    -- a crash in the commit may leave the whole, if the connection was up
    pub arrive_survives : ((db : Trees) → P db → db ≡ last.now.trees) → Survives old end (λ trees. IsUp old × ArrivesAt text old.now trees)
    arrive_survives only = survives_then old last end _ _ (λ trees. IsUp old × ArrivesAt text old.now trees) (λ _ db no_such. absurd no_such)
        (λ clean db left. let up = up_first (clean_last clean) in let it = receives up (clean_last clean) in (
          up,
          subst (ArrivesAt text old.now) (sym (only db left)) (λ b same sound.
              let again' = again last.now b it.sound sound same in record {
                desk = again'.desk it.desk;
                content = again'.content ∙ it.content;
                foreign = λ t there foreign. ap (λ (db : Trees). db t.tree) same ∙ it.spares.foreign t there foreign;
                listed = subst (λ s. IsListedAs s b.schema) it.spares.schema (listed_again last.now b it.sound sound same);
              }),
        )) survives_from ends

    module _ (ok : HasCleanDisk end → IsTrue last.in_transaction × Shows last end last.now last.now false) where
      pub commit_ends : Ends old end
      commit_ends = record {
        rests = λ up. let shows = (ok up.clean).1 in record { settled = shows.now_is ∙ sym shows.committed_is; autocommit = shows.mode };
        was_up = λ up. record { clean = clean_first (clean_last up.clean); is_open = (kept (clean_last up.clean)).was_open (ok up.clean).1.was_open };
        was_clean = λ clean. clean_first (clean_last clean);
      }

      pub commit_up : HasCleanDisk end → IsUp end
      commit_up clean = record { clean = clean; is_open = (ok clean).1.is_open }

      pub commit_desk : IsUp end → IsDeskDatabase end.now
      commit_desk up = subst IsDeskDatabase (sym (ok up.clean).1.now_is) (receives (commit_ends.was_up up) (clean_last up.clean)).desk

      pub commit_arrived : IsUp end → content_of end.now ≡ with_text text (content_of old.now)
      commit_arrived up = ap content_of (ok up.clean).1.now_is ∙ (receives (commit_ends.was_up up) (clean_last up.clean)).content

      pub commit_repeated : IsUp end → has (content_of old.now) text ≡ true → end.now ≡ old.now
      commit_repeated up there = (ok up.clean).1.now_is ∙ (received (clean_last up.clean)).repeats (desk (commit_ends.was_up up)) there

      pub commit_told : (arrival : Arrival) → (HasCleanDisk last → IsDeskDatabase old.now → IsTold (has (content_of old.now) text ≡ true) arrival)
          → IsUp end → IsTold (has (content_of old.now) text ≡ true) arrival
      commit_told arrival told up = told (clean_last up.clean) (desk (commit_ends.was_up up))

      pub commit_spared : IsUp end → Spares old.now end.now
      commit_spared up = subst (Spares old.now) (sym (ok up.clean).1.now_is) (receives (commit_ends.was_up up) (clean_last up.clean)).spares

-- What a desk is after its roster's text was replaced, and how that transaction ends.
use Rattle.std.proofs.Common.{◌≡◌, inl, inr, ℕ, List, [], ◌∷◌, map, codes, true, false, IsTrue, refl, sym, ap, subst, ◌∙◌, arith}
use Rattle.std.specs.Prelude.{IsUtf8, unwrap_or}
use Rattle.std.specs.List.{list_any}
use Rattle.std.specs.FinSet as set
use Rattle.sqlite.specs.Tree.{Trees}
use Rattle.sqlite.specs.Effect.{Database}
use Rattle.sqlite.specs.State.{State, HasCleanDisk, KeepsCommit, Shows, Survives}
use Rattle.sqlite.proofs.StateLemmas.{survives_then}
use Rattle.sqlite_rules.specs.Lists.{Has}
use Rattle.sqlite_rules.proofs.ListLemmas.{contains_had, has_contained}
use Rattle.messages.specs.Wire.{wire}
use Rattle.messages.specs.declared.message.Message.{Message}
use Rattle.store_tables.specs.Rows.{AreRows, IsRow}
use Rattle.store_tables.specs.Sets.{Lists, SameSet}
use Rattle.store_tables.specs.Stored.{IsListedAs, Texts, content_of, is_stray, recorded_before, row_texts, with_roster}
use Rattle.store_tables.specs.Kept.{HasRows, Holds, IsDeskDatabase, Spares, table_in}
use Rattle.store_tables.specs.SqliteStates.{IsUp, Rests}
use Rattle.store_tables.specs.Steps.{IsStep}
use Rattle.store_tables.specs.Committed.{ChangesAt}
use Rattle.store_tables.specs.Steps.{texts_in}
use Rattle.store_tables.specs.private.Turning.{Recorded, Records, Replaces}
use Rattle.store_tables.proofs.ArriveLemmas.{Ends, begun}
use Rattle.store_tables.proofs.OneSchema.{again, listed_again}
use Rattle.store_tables.proofs.RefillLemmas.{found_among, in_texts}
use Rattle.store_tables.proofs.TextSets.{same_text}
use Rattle.store_tables.proofs.TurnLemmas.{clean_before, itself, or_true_left, or_true_right, rows_at}

-- ---- the desk

there_among : (ms : List Message) (m : Message) → Has ms m → list_any (same_text (wire m)) (map wire ms) ≡ true
there_among [] m there = absurd there
there_among (n ∷ ms) m (inl same) = or_true_left (same_text (wire m) (wire n))
    (list_any (same_text (wire m)) (map wire ms)) (ap (λ x. same_text (wire m) (wire x)) (sym same) ∙ itself (wire m))
there_among (n ∷ ms) m (inr later) = or_true_right (same_text (wire m) (wire n)) (list_any (same_text (wire m)) (map wire ms)) (there_among ms m later)

-- the texts of the listed messages are the texts of the set
pub same_messages : (texts : Texts) (ms : List Message) → Lists (Holds texts) ms → SameSet (Holds (texts_in ms)) (Holds texts)
same_messages texts ms lists m = (
  (λ held.
      let it = found_among ms (wire m) (sym (in_texts ms (wire m)) ∙ held.1) in
      (held.0, ap (set.contains texts) it.2 ∙ ((lists it.0).1 (contains_had ms it.0 it.1)).1)),
  (λ held. (held.0, in_texts ms (wire m) ∙ there_among ms m (has_contained ms m ((lists m).0 held)))),
)

-- the rows of the messages are there, and so are the tables
rows_still : (texts : Texts) (a b : Database) (roster : List ℕ) → Records roster a b → HasRows texts a → HasRows texts b
rows_still texts a b roster is rows =
    subst (λ n. AreRows (Holds texts) (IsRow n) (rows_at b (codes "verdicts")) (rows_at b (codes "parked"))) (sym is.names)
    (subst (λ v. AreRows (Holds texts) (rows_at a (codes "names")) (IsRow v) (rows_at b (codes "parked"))) (sym is.verdicts)
    (subst (λ p. AreRows (Holds texts) (rows_at a (codes "names")) (rows_at a (codes "verdicts")) (IsRow p)) (sym is.parked) rows))

replaces : (roster : List ℕ) (a b : Database) → IsUtf8 roster → IsDeskDatabase a → Records roster a b → Replaces roster a b
replaces roster a b utf8 is done = record {
  sound = done.sound;
  desk = record {
    tidy = done.tidy;
    marked = (roster, done.row, utf8);
    texts = ap (list_any is_stray) done.messages ∙ is.texts;
    only = λ text there. is.only text (ap (λ (t : Texts). set.contains t text) (sym texts) ∙ there);
    rows = subst (λ t. HasRows t b) (sym texts) (rows_still (content_of a).texts a b roster done is.rows);
  };
  content = λ i. record { roster = unwrap_or (done.row i) (unwrap_or (recorded_before (table_in b (codes "desk"))) []); texts = texts i };
  spares = done.spares;
}
  where
    texts : (content_of b).texts ≡ (content_of a).texts
    texts = ap row_texts done.messages

-- ---- the transaction

module _ (roster : List ℕ) (old last end : State) (rests : Rests old) (step : IsStep (begun old) last) (P : Trees → Type 0) (ends : Survives last end P) where
  clean_last : HasCleanDisk end → HasCleanDisk last
  clean_last clean = clean_before last end P ends clean

  clean_first : HasCleanDisk last → HasCleanDisk old
  clean_first clean = let before = step.survives.clean in omega (arith, before, clean)

  survives_from : Survives old last (λ _. ⊥)
  survives_from = let s = step.survives in record { clean = s.clean; shield = s.shield; counts = s.counts; limit = s.limit; closes = s.closes; crash = s.crash }

  kept : HasCleanDisk last → KeepsCommit (begun old) last
  kept clean = step.kept clean refl

  -- ---- it was committed

  module _ (utf8 : IsUtf8 roster) (received : HasCleanDisk last → Recorded roster (begun old) last) (desk : IsUp old → IsDeskDatabase old.now) where
    does : IsUp old → HasCleanDisk last → Replaces roster old.now last.now
    does up clean = replaces roster old.now last.now utf8 (desk up) ((received clean).records (desk up))

    up_first : HasCleanDisk last → IsUp old
    up_first clean = record { clean = clean_first clean; is_open = (received clean).was_open }

    -- a crash in the commit may leave the whole, if the connection was up
    pub replace_survives : ((db : Trees) → P db → db ≡ last.now.trees) → Survives old end (λ trees. IsUp old × ChangesAt roster old.now trees)
    replace_survives only = survives_then old last end _ _ (λ trees. IsUp old × ChangesAt roster old.now trees) (λ _ db no_such. absurd no_such)
        (λ clean db left. let up = up_first (clean_last clean) in let it = does up (clean_last clean) in (
          up,
          subst (ChangesAt roster old.now) (sym (only db left)) (λ b same sound.
              let again' = again last.now b it.sound sound same in record {
                desk = again'.desk it.desk;
                content = again'.content ∙ it.content;
                foreign = λ t there foreign. ap (λ (db : Trees). db t.tree) same ∙ it.spares.foreign t there foreign;
                listed = subst (λ s. IsListedAs s b.schema) it.spares.schema (listed_again last.now b it.sound sound same);
              }),
        )) survives_from ends

    module _ (ok : HasCleanDisk end → IsTrue last.in_transaction × Shows last end last.now last.now false) where
      pub commit_ends : Ends old end
      commit_ends = record {
        rests = λ up. let shows = (ok up.clean).1 in record { settled = shows.now_is ∙ sym shows.committed_is; autocommit = shows.mode };
        was_up = λ up. record { clean = clean_first (clean_last up.clean); is_open = (kept (clean_last up.clean)).was_open (ok up.clean).1.was_open };
        was_clean = λ clean. clean_first (clean_last clean);
      }

      pub commit_up : HasCleanDisk end → IsUp end
      commit_up clean = record { clean = clean; is_open = (ok clean).1.is_open }

      pub commit_desk : IsUp end → IsDeskDatabase end.now
      commit_desk up = subst IsDeskDatabase (sym (ok up.clean).1.now_is) (does (commit_ends.was_up up) (clean_last up.clean)).desk

      pub commit_replaced : IsUp end → content_of end.now ≡ with_roster roster (content_of old.now)
      commit_replaced up = ap content_of (ok up.clean).1.now_is ∙ (does (commit_ends.was_up up) (clean_last up.clean)).content

      pub commit_spared : IsUp end → Spares old.now end.now
      commit_spared up = subst (Spares old.now) (sym (ok up.clean).1.now_is) (does (commit_ends.was_up up) (clean_last up.clean)).spares

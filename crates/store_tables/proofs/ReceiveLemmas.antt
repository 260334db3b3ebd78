-- What a desk is after a message was taken in.
use Rattle.std.proofs.Common.{◌≡◌, inl, inr, ℕ, List, codes, Bool, true, false, IsTrue, ◌||◌, true≢false, refl, sym, ap, subst, ◌∙◌, arith}
use Rattle.std.proofs.lemmas.Bool.{or_cases}
use Rattle.std.specs.List.{list_any}
use Rattle.std.specs.Cmp.Lexicographic.{nat_list_cmp_total}
use Rattle.std.specs.FinSet as set
use Rattle.sqlite.specs.Effect.{Database, IsDatabase}
use Rattle.sqlite.specs.State.{HasCleanDisk, State, Survives}
use Rattle.messages.specs.Wire.{wire}
use Rattle.messages.specs.declared.message.Message.{Message}
use Rattle.store_tables.specs.Rows.{AreRows, IsRow}
use Rattle.store_tables.specs.Stored.{Content, IsWritten, Texts, content_of, has, is_stray, recorded, roster_of, row_texts, with_text}
use Rattle.store_tables.specs.Steps.{InStep, IsStep}
use Rattle.store_tables.specs.Kept.{HasRows, Holds, IsDeskDatabase, IsTidy, table_in}
use Rattle.store_tables.specs.private.Stepping.{AddsText, FindsText, WroteText}
use Rattle.store_tables.specs.private.Turning.{Received, Receives, Settled, Settles}
use Rattle.store_tables.proofs.AddLemmas.{is_same, same_sets}
use Rattle.store_tables.proofs.TextSets.{same_text}
use Rattle.store_tables.proofs.TurnLemmas.{Messages, Desk, Names, Verdicts, Parked, clean_before, spares_but, spares_then, still}

-- a text that is there adds nothing
there_already : (texts : Texts) (text : List ℕ) → set.contains texts text ≡ true → set.insert texts text ≡ texts
there_already texts text there = same_sets _ _ (λ q. set.contains-insert nat_list_cmp_total texts text q ∙ go q (same_text q text) refl)
  where
    go : (q : List ℕ) (b : Bool) → same_text q text ≡ b → (same_text q text || set.contains texts q) ≡ set.contains texts q
    go q true same = let is = is_same q text same in rw (same, is, there) refl
    go q false other = rw other refl

module _ (a b : Database) (text : List ℕ) (adds : AddsText text a b) (is : IsDeskDatabase a) where
  abbrev texts : Texts
  texts = (content_of a).texts

  rows_still : HasRows texts b
  rows_still =
      let same_names = still a b Messages Names is.tidy.desk (λ e. omega (arith, e)) adds.schema adds.others in
      let same_verdicts = still a b Messages Verdicts is.tidy.desk (λ e. omega (arith, e)) adds.schema adds.others in
      let same_parked = still a b Messages Parked is.tidy.desk (λ e. omega (arith, e)) adds.schema adds.others in
      subst (λ p. AreRows (Holds texts) (IsRow (table_in b (codes "names"))) (IsRow (table_in b (codes "verdicts"))) (IsRow p)) (sym same_parked)
      (subst (λ v. AreRows (Holds texts) (IsRow (table_in b (codes "names"))) (IsRow v) (IsRow (table_in a (codes "parked")))) (sym same_verdicts)
      (subst (λ n. AreRows (Holds texts) (IsRow n) (IsRow (table_in a (codes "verdicts"))) (IsRow (table_in a (codes "parked")))) (sym same_names) is.rows))

  desk_still : table_in b (codes "desk") ≡ table_in a (codes "desk")
  desk_still = still a b Messages Desk is.tidy.desk (λ e. omega (arith, e)) adds.schema adds.others

  -- the text is new, and the rows were settled
  module _ (m : Message) (c : Database) (settles : Settles m b c) where
    desk_same : table_in c (codes "desk") ≡ table_in a (codes "desk")
    desk_same = settles.desk ∙ desk_still

    content_same : content_of c ≡ with_text text (content_of a)
    content_same = λ i. record { roster = roster_of (desk_same i); texts = (ap row_texts settles.messages ∙ adds.texts) i }

    received_new : IsWritten text → text ≡ wire m → set.contains texts text ≡ false → Receives text a c
    received_new written wired missing =
        let rows = settles.rows texts (ap (set.contains texts) (sym wired) ∙ missing) rows_still in
        record {
          sound = settles.sound adds.sound;
          desk = record {
            tidy = settles.tidy;
            marked = (is.marked.0, ap recorded desk_same ∙ is.marked.1, is.marked.2);
            texts = ap (list_any is_stray) settles.messages ∙ adds.typed is.texts;
            only = λ q there.
                let one : (same_text q text || has (content_of a) q) ≡ true =
                sym (set.contains-insert nat_list_cmp_total texts text q) ∙ sym (ap (λ (d : Content). has d q) content_same) ∙ there in
                elim (or_cases _ _ one) [
                  | inl same ↦ subst IsWritten (sym (is_same q text same)) written
                  | inr before ↦ is.only q before
                ];
            rows = subst (λ t. HasRows t c) (ap (set.insert texts) (sym wired) ∙ sym (ap (λ (d : Content). d.texts) content_same)) rows;
          };
          content = content_same;
          spares = spares_then a b c (spares_but a b Messages adds.schema adds.others) settles.spares;
        }

-- the text was there
received_again : (a : Database) (text : List ℕ) → IsDatabase a → IsDeskDatabase a → set.contains (content_of a).texts text ≡ true → Receives text a a
received_again a text sound is there = record {
  sound = sound;
  desk = is;
  content = λ i. record { roster = (content_of a).roster; texts = sym (there_already (content_of a).texts text there) i };
  spares = record { schema = refl; foreign = λ t has foreign. refl };
}

-- ---- states

-- whether the text was there, where what was done since leaves the disk clean
pub found_before : (a z b c : State) (text : List ℕ) (told : Bool) → InStep a z (FindsText text told) → Survives z b (λ _. ⊥) → IsStep b c
    → HasCleanDisk c → IsTrue a.in_transaction → FindsText text told a z
found_before a z b c text told finds survives step clean = finds (clean_before z b _ survives (clean_before b c _ step.survives clean))

pub again : (text : List ℕ) (told : Bool) (a b : State) → told ≡ true → FindsText text told a b → Received text a b
again text told a b is finds = record {
  was_open = finds.begun.was_open;
  mode = finds.begun.mode;
  receives = λ sound desk. subst (Receives text a.now) (sym (finds.same desk.tidy)) (received_again a.now text sound desk (sym (finds.tells desk.tidy) ∙ is));
  repeats = λ desk there. finds.same desk.tidy;
}

pub anew : (text : List ℕ) (told : Bool) (m : Message) (a z b c : State) → IsWritten text → text ≡ wire m
    → told ≡ false → FindsText text told a z → WroteText text z b → Settled m b c → Received text a c
anew text told m a z b c written wired is finds wrote settled = record {
  was_open = finds.begun.was_open;
  mode = settled.mode;
  receives = λ sound desk.
      let adds = subst (λ d. AddsText text d b.now) (finds.same desk.tidy) (wrote.adds (subst IsTidy (sym (finds.same desk.tidy)) desk.tidy)) in
      received_new a.now b.now text adds desk m c.now (settled.settles adds.tidy) written wired (missing desk);
  repeats = λ desk there. absurd (true≢false (sym there ∙ missing desk));
}
  where
    missing : IsDeskDatabase a.now → set.contains (content_of a.now).texts text ≡ false
    missing desk = sym (finds.tells desk.tidy) ∙ is

-- How the rows of one message after another become those of all.
use Rattle.std.proofs.Common.{◌≡◌, ◌≢◌, inl, inr, ℕ, zero, suc, ◌<◌, List, Contains, [], ◌∷◌, ◌++◌, take, map, length, get_or}
use Rattle.std.proofs.Common.{slice_index_or, codes, Bool, true, false, ◌||◌, IsTrue, refl, sym, ap, subst, ◌∙◌, arith}
use Rattle.std.proofs.lemmas.Bool.{cases_Bool, or_cases}
use Rattle.std.specs.List.{list_any}
use Rattle.std.specs.Cmp.Lexicographic.{nat_list_cmp_total}
use Rattle.std.specs.FinSet as set
use Rattle.sqlite.specs.Effect.{Database}
use Rattle.sqlite.specs.State.{HasCleanDisk, State}
use Rattle.sqlite_rules.specs.Lists.{Has}
use Rattle.sqlite_rules.proofs.ListLemmas.{contains_had, has_at}
use Rattle.messages.specs.Wire.{wire, IsMessage}
use Rattle.messages.specs.declared.message.Message.{Message}
use Rattle.messages.proofs.Uniqueness.{one_message}
use Rattle.store_tables.specs.Kept.{HasRows, Holds}
use Rattle.store_tables.specs.Steps.{IsStep}
use Rattle.std.specs.Ordering.{nat_cmp}
use Rattle.std.specs.Cmp.Lexicographic.{slice_cmp}
use Rattle.sqlite.specs.declared.types.Value.{Value}
use Rattle.store_tables.specs.Steps.{Refilled, Refills, texts_in}
use Rattle.store_tables.specs.private.Turning.{Settled, Settles}
use Rattle.store_tables.proofs.RowSets.{rows_of_nothing}
use Rattle.store_tables.proofs.AddLemmas.{is_same, same_sets}
use Rattle.store_tables.proofs.TextSets.{same_text}
use Rattle.store_tables.proofs.TurnLemmas.{clean_before, rows_at, spares_then, then_step}

-- ---- texts of messages

pub in_texts : (ms : List Message) (q : List ℕ) → set.contains (texts_in ms) q ≡ list_any (same_text q) (map wire ms)
in_texts ms q = set.contains-from_list nat_list_cmp_total (map wire ms) q

any_one_more : (q : List ℕ) (ms : List Message) (m : Message)
    → list_any (same_text q) (map wire (ms ++ m ∷ [])) ≡ (same_text q (wire m) || list_any (same_text q) (map wire ms))
any_one_more q [] m = refl
any_one_more q (n ∷ ms) m =
    ap (λ b. same_text q (wire n) || b) (any_one_more q ms m) ∙ swapped (same_text q (wire n)) (same_text q (wire m)) (list_any (same_text q) (map wire ms))
  where
    swapped : (a b c : Bool) → (a || (b || c)) ≡ (b || (a || c))
    swapped true true c = refl
    swapped true false c = refl
    swapped false b c = refl

texts_more : (ms : List Message) (m : Message) → set.insert (texts_in ms) (wire m) ≡ texts_in (ms ++ m ∷ [])
texts_more ms m = same_sets _ _ (λ q. set.contains-insert nat_list_cmp_total (texts_in ms) (wire m) q
    ∙ ap (λ b. same_text q (wire m) || b) (in_texts ms q) ∙ sym (any_one_more q ms m) ∙ sym (in_texts (ms ++ m ∷ []) q))

pub found_among : (ms : List Message) (q : List ℕ) → list_any (same_text q) (map wire ms) ≡ true → (n : Message) × Has ms n × (q ≡ wire n)
found_among [] q h = absurd (let e : false ≡ true = h in cc)
found_among (n ∷ ms) q h = elim (or_cases (same_text q (wire n)) (list_any (same_text q) (map wire ms)) h) [
  | inl same ↦ (n, inl refl, is_same q (wire n) same)
  | inr later ↦ let it = found_among ms q later in (it.0, inr it.1, it.2)
]

-- a message that is not one of these has a text that is not one of theirs
none_such : (ms : List Message) (m : Message) → IsMessage m → ((n : Message) → Has ms n → IsMessage n × (n ≢ m)) → set.contains (texts_in ms) (wire m) ≡ false
none_such ms m is others = elim (cases_Bool (set.contains (texts_in ms) (wire m))) [
  | inl there ↦
      let it = found_among ms (wire m) (sym (in_texts ms (wire m)) ∙ there) in
      let known = others it.0 it.1 in
      absurd (known.1 (one_message it.0 m known.0 is (sym it.2)))
  | inr missing ↦ missing
]

-- what stands before a place differs from what stands there
pub before_differs : (ms : List Message) (i : ℕ) (m : Message)
    → ((a b : ℕ) (d : Message) → a < b → b < length ms → slice_index_or ms a d ≢ slice_index_or ms b d)
    → i < length ms → m ≡ get_or ms i m → (x : Message) → Has (take i ms) x → x ≢ m
before_differs [] i m pairs within at x there = absurd (omega arith)
before_differs (y ∷ ms) zero m pairs within at x there = absurd there
before_differs (y ∷ ms) (suc i) m pairs within at x (inl same) = λ e. pairs 0 (suc i) m (omega arith) within (sym same ∙ e ∙ at)
before_differs (y ∷ ms) (suc i) m pairs within at x (inr later) =
    before_differs ms i m (λ a b d low high. pairs (suc a) (suc b) d (omega (arith, low)) (omega (arith, high))) (omega (arith, within)) at x later

-- ---- the loop

-- the state after the messages that were gone through so far
pub record Refilling (messages : List Message) (old now : State) : Type 0 where
  pub step : IsStep old now
  pub refilled : HasCleanDisk now → IsTrue old.in_transaction → Refilled messages old now

one_more : (ms more : List Message) (m : Message) (a b c : Database) → more ≡ ms ++ m ∷ []
    → set.contains (texts_in ms) (wire m) ≡ false → Refills ms a b → Settles m b c → Refills more a c
one_more ms more m a b c is missing one two = record {
  sound = λ s. two.sound (one.sound s);
  schema = two.schema ∙ one.schema;
  tidy = two.tidy;
  rows = λ none. subst (λ t. HasRows t c) (texts_more ms m ∙ ap texts_in (sym is)) (two.rows (texts_in ms) missing (one.rows none));
  desk = two.desk ∙ one.desk;
  messages_same = two.messages ∙ one.messages_same;
  spares = spares_then a b c one.spares two.spares;
}

pub refilling_more : (ms more : List Message) (m : Message) (a b c : State) → more ≡ ms ++ m ∷ []
    → IsMessage m → ((n : Message) → Has ms n → IsMessage n × (n ≢ m)) → Refilling ms a b → IsStep b c
    → (HasCleanDisk c → IsTrue b.in_transaction → Settled m b c) → Refilling more a c
refilling_more ms more m a b c is message others one step next = record {
  step = then_step a b c one.step (λ clean inside. (one.refilled clean inside).mode) step;
  refilled = λ clean inside.
      let first = one.refilled (clean_before b c _ step.survives clean) inside in
      let settled = next clean first.mode in
      record {
        mode = settled.mode;
        refills = λ tidy. let before = first.refills tidy in
            one_more ms more m a.now b.now c.now is (none_such ms m message others) before (settled.settles before.tidy);
      };
}

has_taken : (xs : List Message) (i : ℕ) (x : Message) → Has (take i xs) x → Has xs x
has_taken [] i x there = absurd (none i there)
  where
    none : (i : ℕ) → Has (take i []) x → ⊥
    none zero there = there
    none (suc i) there = there
has_taken (y ∷ xs) zero x there = absurd there
has_taken (y ∷ xs) (suc i) x (inl same) = inl same
has_taken (y ∷ xs) (suc i) x (inr later) = inr (has_taken xs i x later)

-- the message at a place is one, and so is each before it
pub known_at : (ms : List Message) (i : ℕ) (m : Message) → ((n : Message) → Contains ms n → IsMessage n) → i < length ms → m ≡ get_or ms i m → IsMessage m
known_at ms i m known within at = known m (contains_had ms m (has_at ms i m within at))

pub known_before : (ms : List Message) (i : ℕ) (n : Message) → ((n : Message) → Contains ms n → IsMessage n) → Has (take i ms) n → IsMessage n
known_before ms i n known there = known n (contains_had ms n (has_taken ms i n there))

-- ---- tables without rows

pub no_rows : (db : Database) → ((r : List Value) → ¬ rows_at db (codes "names") r)
    → ((r : List Value) → ¬ rows_at db (codes "verdicts") r) → ((r : List Value) → ¬ rows_at db (codes "parked") r) → HasRows set.empty db
no_rows db names verdicts parked =
    rows_of_nothing (Holds set.empty) (rows_at db (codes "names")) (rows_at db (codes "verdicts")) (rows_at db (codes "parked"))
    (λ m held. let e : false ≡ true = sym (set.contains-empty (slice_cmp nat_cmp) (wire m)) ∙ held.1 in absurd cc) names verdicts parked

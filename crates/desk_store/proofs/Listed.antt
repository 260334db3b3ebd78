-- The messages of a desk are those of some list, and something may be left of it.
use Rattle.std.proofs.Common.{◌≡◌, inl, inr, true, List, [], ◌∷◌, map, Contains, sym, ap, subst, ◌∙◌}
use Rattle.std.specs.FinSet as set
use Rattle.std.specs.List.{list_any}
use Rattle.sqlite.specs.Effect.{Database}
use Rattle.sqlite_rules.specs.Lists.{Has}
use Rattle.sqlite_rules.proofs.ListLemmas.{contains_had, has_contained}
use Rattle.messages.specs.Wire.{wire, IsMessage}
use Rattle.messages.specs.declared.message.Message.{Message}
use Rattle.messages.proofs.Uniqueness.{one_message}
use Rattle.store_tables.specs.Kept.{HoldsText}
use Rattle.store_tables.specs.Sets.{Lists, SameSet}
use Rattle.store_tables.specs.Steps.{texts_in}
use Rattle.store_tables.proofs.RefillLemmas.{found_among, in_texts}
use Rattle.store_tables.proofs.TextSets.{same_text}
use Rattle.store_tables.proofs.TurnLemmas.{itself, or_true_left, or_true_right}
use Rattle.store_opening.specs.Opened.{IsKept, IsOldDesk}
use Rattle.desk_store.proofs.SetListed.{set_listed}

-- a desk of either form holds the messages of some list
pub kept_listed : (db : Database) → IsKept db → (list : List Message) × Lists (HoldsText db) list
kept_listed db kept = set_listed db (record { texts = kept.desk.texts; only = kept.desk.only })

pub old_listed : (db : Database) → IsOldDesk db → (list : List Message) × Lists (HoldsText db) list
old_listed db old = set_listed db (record { texts = old.contents.1.texts; only = old.contents.1.only })

-- ---- a keeper in memory

among : (ms : List Message) (m : Message) → Has ms m → list_any (same_text (wire m)) (map wire ms) ≡ true
among [] m there = absurd there
among (n ∷ ms) m (inl same) = or_true_left (same_text (wire m) (wire n)) (list_any (same_text (wire m)) (map wire ms))
    (ap (λ x. same_text (wire m) (wire x)) (sym same) ∙ itself (wire m))
among (n ∷ ms) m (inr later) = or_true_right (same_text (wire m) (wire n)) (list_any (same_text (wire m)) (map wire ms)) (among ms m later)

-- the texts of valid messages are told by their set
pub told_by_texts : (ms : List Message) → ((m : Message) → Contains ms m → IsMessage m)
    → SameSet (λ m. IsMessage m × Contains ms m) (λ m. IsMessage m × (set.contains (texts_in ms) (wire m) ≡ true))
told_by_texts ms only m = (
  (λ held. (held.0, in_texts ms (wire m) ∙ among ms m (has_contained ms m held.1))),
  (λ held.
      let it = found_among ms (wire m) (sym (in_texts ms (wire m)) ∙ held.1) in
      let there = contains_had ms it.0 it.1 in
      (held.0, subst (Contains ms) (sym (one_message m it.0 held.0 (only it.0 there) it.2)) there)),
)

-- What the next opening finds of a database.
use Rattle.std.proofs.Common.{◌≡◌, ◌⊎◌, inl, inr, ℕ, List, false, true, refl, sym, ap, subst, ◌∙◌}
use Rattle.std.specs.FinSet as set
use Rattle.std.specs.Ordering.{nat_cmp}
use Rattle.std.specs.Cmp.Lexicographic.{slice_cmp}
use Rattle.sqlite.specs.Tree.{Trees}
use Rattle.sqlite.specs.Effect.{Database}
use Rattle.sqlite.specs.State.{State, HasCleanDisk, Survives}
use Rattle.messages.specs.Wire.{wire, IsMessage}
use Rattle.messages.specs.declared.message.Message.{Message}
use Rattle.store_tables.specs.Kept.{HoldsText}
use Rattle.store_tables.specs.Sets.{IsNothing, SameSet, With}
use Rattle.store_tables.specs.SqliteStates.{IsUp}
use Rattle.store_tables.specs.Stored.{Content, content_of, with_text}
use Rattle.store_tables.specs.Committed.{Arrives, ArrivesAt}
use Rattle.store_tables.proofs.TurnLemmas.{with_one}
use Rattle.store_schema.specs.Shapes.{IsVacant}
use Rattle.store_schema.specs.Founding.{FoundsAt, Makes, fresh}
use Rattle.store_schema.proofs.MarksLemmas.{unmarked_spared}
use Rattle.store_opening.specs.Opened.{IsKept, IsOldDesk}
use Rattle.desk_store.specs.Left.{Left, Nothing, ADesk, AnOldDesk, NoDesk, HoldsIn, IsAsKept, IsDeskOf}
use Rattle.desk_store.specs.Left.{IsCommitted, IsFoundAs, IsNothingOrFresh, IsOldDeskOf, IsReplacedOrNot, IsWithOrWithout}
use Rattle.desk_store.specs.Crash.{IsFound, MayLeave}
use Rattle.desk_store.specs.private.Replacing.{Becomes, BecomesAt}
use Rattle.desk_store.specs.private.Survival.{IsAgain, Settled}
use Rattle.desk_store.proofs.SameLeft.{same_left, same_old_left}
use Rattle.desk_store.proofs.TellLemmas.{kept_not_old, kept_not_vacant, old_not_vacant}

-- ---- sets of messages

pub same_texts : (a b : Database) → (content_of b).texts ≡ (content_of a).texts → SameSet (HoldsText a) (HoldsText b)
same_texts a b same = λ m. (
  (λ held. (held.0, ap (λ t. set.contains t (wire m)) same ∙ held.1)),
  (λ held. (held.0, ap (λ t. set.contains t (wire m)) (sym same) ∙ held.1)),
)

pub with_message : (a b : Database) (m : Message) → IsMessage m
    → content_of b ≡ with_text (wire m) (content_of a) → SameSet (With (HoldsText a) m) (HoldsText b)
with_message a b m is content =
    let texts : (content_of b).texts ≡ set.insert (content_of a).texts (wire m) = ap (λ (c : Content). c.texts) content in
    λ n. (
      (λ held. let it = (with_one (content_of a).texts m is n).0 held in (it.0, ap (λ t. set.contains t (wire n)) texts ∙ it.1)),
      (λ held. (with_one (content_of a).texts m is n).1 (held.0, ap (λ t. set.contains t (wire n)) (sym texts) ∙ held.1)),
    )

-- a desk that was made holds no message
pub holds_nothing : (db : Database) (roster : List ℕ) → content_of db ≡ fresh roster → IsNothing (HoldsText db)
holds_nothing db roster content m held =
    let none : false ≡ true =
    sym (set.contains-empty (slice_cmp nat_cmp) (wire m)) ∙ sym (ap (λ (c : Content). set.contains c.texts (wire m)) content) ∙ held.1 in
    cc

-- ---- desks

pub made_kept : (roster : List ℕ) (db : Database) → Makes roster db → IsKept db
made_kept roster db makes = record { desk = makes.desk; unmarked = inl makes.marks }

pub arrived_kept : (text : List ℕ) (old new : Database) → IsKept old → Arrives text old new → IsKept new
arrived_kept text old new is arrives = record {
  desk = arrives.desk;
  unmarked = unmarked_spared old new arrives.listed is.desk.tidy.desk arrives.foreign is.unmarked;
}

-- ---- what a look at a database finds

module _ (db : Database) where
  found_desk : (left : Left) → IsFound db left → IsKept db → IsDeskOf (content_of db).roster (HoldsText db) left
  found_desk Nothing vacant desk = absurd (kept_not_vacant db desk vacant)
  found_desk (ADesk c) is desk =
      (ap (λ (x : Content). x.roster) is.1, subst (λ (x : Content). SameSet (HoldsText db) (HoldsIn x)) (sym is.1) (λ m. (λ h. h, λ h. h)))
  found_desk (AnOldDesk c) is desk = absurd (kept_not_old db desk is.0)
  found_desk NoDesk none desk = absurd (none.1 desk)

  found_old : (left : Left) → IsFound db left → IsOldDesk db → IsOldDeskOf (content_of db).roster (HoldsText db) left
  found_old Nothing vacant old = absurd (old_not_vacant db old vacant)
  found_old (ADesk c) is old = absurd (kept_not_old db is.0 old)
  found_old (AnOldDesk c) is old =
      (ap (λ (x : Content). x.roster) is.1, subst (λ (x : Content). SameSet (HoldsText db) (HoldsIn x)) (sym is.1) (λ m. (λ h. h, λ h. h)))
  found_old NoDesk none old = absurd (none.2 old)

  found_nothing : (left : Left) → IsFound db left → IsVacant db.schema → left ≡ Nothing
  found_nothing Nothing is vacant = refl
  found_nothing (ADesk c) is vacant = absurd (kept_not_vacant db is.0 vacant)
  found_nothing (AnOldDesk c) is vacant = absurd (old_not_vacant db is.0 vacant)
  found_nothing NoDesk none vacant = absurd (none.0 vacant)

  -- what a look finds is what is kept
  pub found_as : (left : Left) → IsFound db left → IsFoundAs (IsVacant db.schema) (IsKept db) (IsOldDesk db) (content_of db).roster (HoldsText db) left
  found_as Nothing is = (is, λ kept. kept_not_vacant db kept is, λ old. old_not_vacant db old is)
  found_as (ADesk c) is = (
    is.0,
    kept_not_vacant db is.0,
    kept_not_old db is.0,
    ap (λ (x : Content). x.roster) (sym is.1),
    subst (λ (x : Content). SameSet (HoldsText db) (HoldsIn x)) (sym is.1) (λ m. (λ h. h, λ h. h)),
  )
  found_as (AnOldDesk c) is = (
    is.0,
    old_not_vacant db is.0,
    λ kept. kept_not_old db kept is.0,
    ap (λ (x : Content). x.roster) (sym is.1),
    subst (λ (x : Content). SameSet (HoldsText db) (HoldsIn x)) (sym is.1) (λ m. (λ h. h, λ h. h)),
  )
  found_as NoDesk is = is

-- what is kept of the database, for the next opening
abbrev pub AsKept : Database → Left → Type 0
AsKept db left = IsAsKept (IsVacant db.schema) (IsKept db) (IsOldDesk db) (content_of db).roster (HoldsText db) left

module _ (a db : Database) (left : Left) (found : IsFound db left) where
  -- if it keeps what the first does
  again_left : IsAgain a db → AsKept a left
  again_left same =
      let set' = same_texts a db (ap (λ (c : Content). c.texts) same.content) in
      record {
        empty = λ vacant. found_nothing db left found (same.empty vacant);
        desk = λ is. same_left (content_of a).roster (content_of db).roster (HoldsText a) (HoldsText db) left
            (ap (λ (c : Content). c.roster) same.content) set' (found_desk db left found (same.desk is));
        old = λ is. same_old_left (content_of a).roster (content_of db).roster (HoldsText a) (HoldsText db) left
            (ap (λ (c : Content). c.roster) same.content) set' (found_old db left found (same.old is));
      }

  -- if it has one more message
  arrives_left : (m : Message) → IsMessage m → IsKept a → Arrives (wire m) a db → IsDeskOf (content_of a).roster (With (HoldsText a) m) left
  arrives_left m is kept arrives =
      same_left (content_of a).roster (content_of db).roster (With (HoldsText a) m) (HoldsText db) left (ap (λ (c : Content). c.roster) arrives.content)
      (with_message a db m is arrives.content) (found_desk db left found (arrived_kept (wire m) a db kept arrives))

  -- if it has another roster text
  becomes_left : (roster : List ℕ) → Becomes roster a db → IsDeskOf roster (HoldsText a) left
  becomes_left roster it =
      same_left roster (content_of db).roster (HoldsText a) (HoldsText db) left (ap (λ (c : Content). c.roster) it.content)
      (same_texts a db (ap (λ (c : Content). c.texts) it.content)) (found_desk db left found it.desk)

made_left : (roster : List ℕ) (db : Database) (left : Left) → IsFound db left → Makes roster db → IsDeskOf roster (λ _. ⊥) left
made_left roster db left found made =
    let none = holds_nothing db roster made.content in
    same_left roster (content_of db).roster (λ _. ⊥) (HoldsText db) left (ap (λ (c : Content). c.roster) made.content)
    (λ m. (λ h. absurd h, none m)) (found_desk db left found (made_kept roster db made))

-- ---- the store of a database

module _ (old new : State) (settled : Settled old) (up : IsUp old) (clean : HasCleanDisk new) (left : Left) (may : MayLeave new left) where
  -- what was there, or what was committed
  before_or : (P : Trees → Type 0) → Survives old new P → IsAgain old.now may.0 ⊎ P may.0.trees
  before_or P lives = elim (lives.crash clean may.0.trees may.1.left) as (λ _. IsAgain old.now may.0 ⊎ P may.0.trees) [
    | inl before ↦ inl (settled up may.0 (record { left = before; sound = may.1.sound }))
    | inr new ↦ inr new
  ]

  -- nothing was committed
  pub as_kept : Survives old new (λ _. ⊥) → AsKept old.now left
  as_kept lives = elim (before_or (λ _. ⊥) lives) as (λ _. AsKept old.now left) [
    | inl same ↦ again_left old.now may.0 left may.2 same
    | inr none ↦ absurd none
  ]

  pub with_or_without : (m : Message) → IsMessage m → IsKept old.now → Survives old new (λ trees. IsUp old × ArrivesAt (wire m) old.now trees)
      → IsWithOrWithout (content_of old.now).roster (HoldsText old.now) m left
  with_or_without m is desk lives = elim (before_or (λ trees. IsUp old × ArrivesAt (wire m) old.now trees) lives)
      as (λ _. IsWithOrWithout (content_of old.now).roster (HoldsText old.now) m left) [
        | inl same ↦ inl ((again_left old.now may.0 left may.2 same).desk desk)
        | inr arrives ↦ inr (arrives_left old.now may.0 left may.2 m is desk (arrives.1 may.0 refl may.1.sound))
      ]

  pub nothing_or_made : (roster : List ℕ) → IsVacant old.now.schema → Survives old new (λ trees. IsUp old × FoundsAt roster old.now trees)
      → IsNothingOrFresh roster left
  nothing_or_made roster vacant lives = elim (before_or (λ trees. IsUp old × FoundsAt roster old.now trees) lives) as (λ _. IsNothingOrFresh roster left) [
    | inl same ↦ inl ((again_left old.now may.0 left may.2 same).empty vacant)
    | inr founds ↦ inr (made_left roster may.0 left may.2 (founds.1 may.0 refl may.1.sound).makes)
  ]

  pub replaced_or_not : (roster : List ℕ) → Survives old new (λ trees. IsUp old × BecomesAt roster old.now trees)
      → IsReplacedOrNot (IsKept old.now) (IsOldDesk old.now) (content_of old.now).roster roster (HoldsText old.now) left
  replaced_or_not roster lives = elim (before_or (λ trees. IsUp old × BecomesAt roster old.now trees) lives)
      as (λ _. IsReplacedOrNot (IsKept old.now) (IsOldDesk old.now) (content_of old.now).roster roster (HoldsText old.now) left) [
        | inl same ↦ (let it = again_left old.now may.0 left may.2 same in record { desk = λ is. inl (it.desk is); old = λ is. inl (it.old is) })
        | inr becomes ↦
            (let it = becomes_left old.now may.0 left may.2 roster (becomes.1 may.0 refl may.1.sound) in record { desk = λ is. inr it; old = λ is. inr it })
      ]

-- ---- the store of a database, up or not

module _ (old new : State) (clean : HasCleanDisk new) (left : Left) (may : MayLeave new left) where
  -- what might have been left before
  abbrev sooner : old.may_leave may.0.trees → MayLeave old left
  sooner before = (may.0, record { left = before; sound = may.1.sound }, may.2)

  -- a call that commits nothing
  pub none_more : Survives old new (λ _. ⊥) → MayLeave old left ⊎ ⊥
  none_more lives = elim (lives.crash clean may.0.trees may.1.left) as (λ _. MayLeave old left ⊎ ⊥) [
    | inl before ↦ inl (sooner before)
    | inr none ↦ inr none
  ]

  pub one_more : (m : Message) → IsMessage m → (IsUp old → IsKept old.now) → Survives old new (λ trees. IsUp old × ArrivesAt (wire m) old.now trees)
      → MayLeave old left ⊎ IsCommitted (IsUp old) (content_of old.now).roster (With (HoldsText old.now) m) left
  one_more m is desk lives = elim (lives.crash clean may.0.trees may.1.left)
      as (λ _. MayLeave old left ⊎ IsCommitted (IsUp old) (content_of old.now).roster (With (HoldsText old.now) m) left) [
        | inl before ↦ inl (sooner before)
        | inr it ↦ inr (it.0, arrives_left old.now may.0 left may.2 m is (desk it.0) (it.1 may.0 refl may.1.sound))
      ]

  pub made_more : (roster : List ℕ) → Survives old new (λ trees. IsUp old × FoundsAt roster old.now trees)
      → MayLeave old left ⊎ IsCommitted (IsUp old) roster (λ _. ⊥) left
  made_more roster lives = elim (lives.crash clean may.0.trees may.1.left) as (λ _. MayLeave old left ⊎ IsCommitted (IsUp old) roster (λ _. ⊥) left) [
    | inl before ↦ inl (sooner before)
    | inr it ↦ inr (it.0, made_left roster may.0 left may.2 (it.1 may.0 refl may.1.sound).makes)
  ]

  pub replaced_more : (roster : List ℕ) → Survives old new (λ trees. IsUp old × BecomesAt roster old.now trees)
      → MayLeave old left ⊎ IsCommitted (IsUp old) roster (HoldsText old.now) left
  replaced_more roster lives = elim (lives.crash clean may.0.trees may.1.left)
      as (λ _. MayLeave old left ⊎ IsCommitted (IsUp old) roster (HoldsText old.now) left) [
        | inl before ↦ inl (sooner before)
        | inr it ↦ inr (it.0, becomes_left old.now may.0 left may.2 roster (it.1 may.0 refl may.1.sound))
      ]

-- ---- after a commit

module _ (s : State) (settled : Settled s) (up : IsUp s) (left : Left) (may : MayLeave s left) where
  -- while it is up, what it keeps
  pub up_left : AsKept s.now left
  up_left = again_left s.now may.0 left may.2 (settled up may.0 may.1)

  pub made_lasts : (roster : List ℕ) → Makes roster s.now → IsDeskOf roster (λ _. ⊥) left
  made_lasts roster made =
      let none = holds_nothing s.now roster made.content in
      same_left roster (content_of s.now).roster (λ _. ⊥) (HoldsText s.now) left (ap (λ (c : Content). c.roster) made.content)
      (λ m. (λ h. absurd h, none m)) (up_left.desk (made_kept roster s.now made))

  pub arrival_lasts : (old : Database) (m : Message) → IsMessage m → IsKept s.now
      → content_of s.now ≡ with_text (wire m) (content_of old) → IsDeskOf (content_of old).roster (With (HoldsText old) m) left
  arrival_lasts old m is desk content =
      same_left (content_of old).roster (content_of s.now).roster (With (HoldsText old) m) (HoldsText s.now) left
      (ap (λ (c : Content). c.roster) content) (with_message old s.now m is content) (up_left.desk desk)

  pub roster_lasts : (roster : List ℕ) (old : Database) → Becomes roster old s.now → IsDeskOf roster (HoldsText old) left
  roster_lasts roster old it =
      same_left roster (content_of s.now).roster (HoldsText old) (HoldsText s.now) left (ap (λ (c : Content). c.roster) it.content)
      (same_texts old s.now (ap (λ (c : Content). c.texts) it.content)) (up_left.desk it.desk)

-- What a job finds at a keeper, and what it leaves there: as far as its answer and its refusal
-- speak of it.
use Rattle.std.specs.Prelude.{◌⊎◌, ℕ, List}
use Rattle.messages.specs.declared.message.Message.{Message}
use Rattle.desk_store.specs.Keeping.{HasFailed}
use Rattle.desk_store.specs.declared.keeper.Keeper.{Ghosts}

-- What a keeper keeps: no part of a desk, a desk of this roster's text, a desk of an older form, or
-- something else; and a desk's messages.
pub record Keeps : Type 1 where
  pub empty : Type 0
  pub desk : Type 0
  pub old : Type 0
  pub roster : List ℕ
  pub holds : Message → Type 0

-- What the keeper keeps as the job begins and as it ends, and what is known of the keeper at the
-- end: whether it is up, and whether its count of failures rose or stands at its greatest.
pub record AroundJob : Type 1 where
  pub before : Keeps
  pub after : Keeps
  pub up : Type 0
  pub failed : Type 0

-- what a keeper keeps, by its contract
abbrev pub keeps : {K : Type 0} → (is_empty is_desk is_old : K → Type 0)
    → (roster : K → List ℕ) → (holds : K → Message → Type 0) → (keeper : K) → Keeps
keeps is_empty is_desk is_old roster holds keeper =
    record {
      empty = is_empty keeper;
      desk = is_desk keeper;
      old = is_old keeper;
      roster = roster keeper;
      holds = holds keeper;
    }

-- the same around a job, by the keeper's contract
abbrev pub kept : {K : Type 0} → (is_up is_empty is_desk is_old : K → Type 0)
    → (roster : K → List ℕ) → (holds : K → Message → Type 0) → (failures : K → ℕ)
    → (before after : K) → AroundJob
kept is_up is_empty is_desk is_old roster holds failures before after = record {
  before = record {
    empty = is_empty before;
    desk = is_desk before;
    old = is_old before;
    roster = roster before;
    holds = holds before;
  };
  after = record {
    empty = is_empty after;
    desk = is_desk after;
    old = is_old after;
    roster = roster after;
    holds = holds after;
  };
  up = is_up after;
  failed = HasFailed (failures before) (failures after);
}

-- the two at a bound `K: Keeper`
abbrev pub keeps_by : {K : Type 0} → Ghosts K → (keeper : K) → Keeps
keeps_by g = keeps g.is_empty g.is_desk g.is_old g.roster g.holds

abbrev pub kept_by : {K : Type 0} → Ghosts K → (before after : K) → AroundJob
kept_by g = kept g.is_up g.is_empty g.is_desk g.is_old g.roster g.holds g.failures

-- the messages of the desk that is kept, of either form; without a desk there are none
abbrev pub held_in : (Desk Old : Type 0) → (holds : Message → Type 0) → Message → Type 0
held_in Desk Old holds message = (Desk ⊎ Old) × holds message

abbrev pub held : Keeps → Message → Type 0
held k = held_in k.desk k.old k.holds

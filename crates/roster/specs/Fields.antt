-- What a roster says. Names are seen as their bytes; people and ceilings are in the byte order of
-- their names.
use Rattle.std.specs.Prelude.{ℕ, List, map}
use Rattle.sudo_words.specs.Command.{cmnd_text}
use Rattle.sudo_words.specs.declared.cmnd.Cmnd.{Cmnd}
use Rattle.roster.specs.declared.days.Days.{Days}

-- A ceiling: who may ask and who approves, how many approvals it takes, and the most that a grant
-- under it gives (NIST SP 800-53 AC-6). `C` is what a command is given as: its text while the
-- roster is a draft, then the command itself.
pub record CeilingFields (C : Type 0) : Type 0 where
  pub ask : List ℕ
  pub approve : List ℕ
  pub needs : ℕ
  pub hosts : List (List ℕ)
  pub runas : List (List ℕ)
  pub commands : List C
  pub longest : ℕ

-- a duty, and the days on which it is held: always, or from one day to another, both included, in
-- days since 1970-01-01
abbrev pub Entry : Type 0
Entry = List ℕ × Days

-- A roster. A person may have several entries with the same duty. A pair of conflicting duties
-- means the same either way round (NIST SP 800-53 AC-5).
pub record RosterFields (C : Type 0) : Type 0 where
  pub relays : List (List ℕ)
  pub hosts : List (List ℕ)
  pub duties : List (List ℕ)
  pub conflicts : List (List ℕ × List ℕ)
  pub people : List (List ℕ × List Entry)
  pub ceilings : List (List ℕ × CeilingFields C)

-- a text, and what it says
pub record Reading : Type 0 where
  pub text : List ℕ
  pub says : RosterFields Cmnd

-- ---- the same with each command's text in place of the command

abbrev pub ceiling_in_texts : CeilingFields Cmnd → CeilingFields (List ℕ)
ceiling_in_texts c = record {
  ask = c.ask;
  approve = c.approve;
  needs = c.needs;
  hosts = c.hosts;
  runas = c.runas;
  commands = map cmnd_text c.commands;
  longest = c.longest;
}

abbrev pub entry_in_texts : List ℕ × CeilingFields Cmnd → List ℕ × CeilingFields (List ℕ)
entry_in_texts c = (c.0, ceiling_in_texts c.1)

abbrev pub in_texts : RosterFields Cmnd → RosterFields (List ℕ)
in_texts f = record {
  relays = f.relays;
  hosts = f.hosts;
  duties = f.duties;
  conflicts = f.conflicts;
  people = f.people;
  ceilings = map entry_in_texts f.ceilings;
}

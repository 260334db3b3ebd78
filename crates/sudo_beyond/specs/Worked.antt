-- Worked cases: two policies and an invocation.
use Rattle.std.specs.Prelude.{ℕ, true, false, List, [], ◌∷◌, None, codes}
use Rattle.sudo_words.specs.declared.cmnd.Cmnd.TheVariants as commands
use Rattle.sudo_policy.specs.declared.entry.Item.TheVariants as items
use Rattle.sudo_policy.specs.declared.entry.CmndItem.TheVariants as cmnds
use Rattle.sudo_policy.specs.declared.entry.Entry.{Entry}
use Rattle.sudo_policy.specs.declared.entry.Entry.TheVariants as entries
use Rattle.sudo_policy.specs.Text.{Names}
use Rattle.sudo_policy.specs.Tags.{no_tags}
use Rattle.sudo_decide.specs.declared.invocation.Invocation.{Invocation}
use Rattle.sudo_decide.specs.declared.scope.Scope.{Scope}

-- a list of one name
abbrev pub only : List ℕ → Names
only name = record { negated = false; item = items.Name name } ∷ []

-- `USERS db1 = ALL`
abbrev pub all_commands_for : Names → List Entry
all_commands_for users = entries.Rule (record {
  users = users;
  hosts = only (codes "db1");
  runas = only (codes "root");
  not_before = None;
  not_after = None;
  tags = no_tags;
  cmnd = record { negated = false; item = cmnds.Cmnd commands.All };
}) ∷ []

-- `ALL, !bob db1 = ALL`
abbrev pub all_except_bob : List Entry
all_except_bob = all_commands_for (record { negated = false; item = items.All }
    ∷ record { negated = true; item = items.Name (codes "bob") } ∷ [])

-- `ann db1 = ALL`
abbrev pub ann_alone : List Entry
ann_alone = all_commands_for (only (codes "ann"))

-- nothing is fixed
abbrev pub anything : Scope
anything = record { user = None; host = None; runas = None }

-- this user runs `/other0` without arguments as root on `db1`, at the first moment of all
abbrev pub runs_other : List ℕ → Invocation
runs_other user = record {
  user = user;
  host = codes "db1";
  runas = codes "root";
  path = codes "/other0";
  args = [];
  at = 0;
}

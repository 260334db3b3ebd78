-- Worked cases: some lists, a rule and an invocation.
use Rattle.std.specs.Prelude.{ℕ, Bool, true, false, List, [], ◌∷◌, reverse, Option, Some, codes}
use Rattle.sudo_words.specs.declared.cmnd.Cmnd.TheVariants as commands
use Rattle.sudo_words.specs.declared.cmnd.ArgRule.TheVariants.{Any}
use Rattle.sudo_policy.specs.declared.entry.Signed.{Signed}
use Rattle.sudo_policy.specs.declared.entry.Item.TheVariants as items
use Rattle.sudo_policy.specs.declared.entry.CmndItem.{CmndItem}
use Rattle.sudo_policy.specs.declared.entry.CmndItem.TheVariants as cmnds
use Rattle.sudo_policy.specs.declared.entry.Entry.{Entry}
use Rattle.sudo_policy.specs.declared.entry.Entry.TheVariants as entries
use Rattle.sudo_policy.specs.declared.entry.Rule.{Rule}
use Rattle.sudo_policy.specs.Alias.{cmnd_defs}
use Rattle.sudo_policy.specs.Text.{Names}
use Rattle.sudo_policy.specs.Tags.{no_tags}
use Rattle.sudo_decide.specs.declared.invocation.Invocation.{Invocation}
use Rattle.sudo_decide.specs.Decision.{signed_answer, cmnd_answer, cmnd_alias_says}

-- `ALL, !bob`
abbrev pub all_but_bob : Names
all_but_bob = record { negated = false; item = items.All }
    ∷ record { negated = true; item = items.Name (codes "bob") } ∷ []

-- `!bob`
abbrev pub only_not_bob : Names
only_not_bob = record { negated = true; item = items.Name (codes "bob") } ∷ []

-- `ALL`
abbrev pub everyone : Names
everyone = record { negated = false; item = items.All } ∷ []

-- `ALL, !bob ALL = (ALL) /bin/ls` from moment 100 to moment 200, perhaps with `NOPASSWD:`, perhaps
-- with `!` before the command
abbrev pub rule_for : Bool → Bool → Rule
rule_for nopasswd negated = record {
  users = all_but_bob;
  hosts = everyone;
  runas = everyone;
  not_before = Some 100;
  not_after = Some 200;
  tags = record no_tags { nopasswd = nopasswd };
  cmnd = record { negated = negated; item = cmnds.Cmnd (commands.Path (codes "/bin/ls") Any) };
}

-- alice asks to run `/bin/ls -l` as root on `web` at this moment
abbrev pub asks : ℕ → Invocation
asks moment = record {
  user = codes "alice";
  host = codes "web";
  runas = codes "root";
  path = codes "/bin/ls";
  args = codes "-l" ∷ [];
  at = moment;
}

-- ---- lists with aliases

-- one item, which is an alias, perhaps negated
abbrev pub alias_only : Bool → List ℕ → Names
alias_only negated name = record { negated = negated; item = items.Alias name } ∷ []

-- `User_Alias X = ALL, !bob`
abbrev pub others_alias : List Entry
others_alias = entries.UserAlias (codes "X") all_but_bob ∷ []

-- `User_Alias A = ann, bob : B = A, !bob`
abbrev pub nested_aliases : List Entry
nested_aliases =
    entries.UserAlias (codes "A") (record { negated = false; item = items.Name (codes "ann") }
    ∷ record { negated = false; item = items.Name (codes "bob") } ∷ [])
    ∷ entries.UserAlias (codes "B") (record { negated = false; item = items.Alias (codes "A") }
    ∷ record { negated = true; item = items.Name (codes "bob") } ∷ []) ∷ []

-- a command of this path, with any arguments
abbrev pub path_only : Bool → List ℕ → Signed CmndItem
path_only negated path = record { negated = negated; item = cmnds.Cmnd (commands.Path path Any) }

-- `Cmnd_Alias C = /bin/ls, !/bin/su`
abbrev pub ls_alias : List Entry
ls_alias = entries.CmndAlias (codes "C")
    (path_only false (codes "/bin/ls") ∷ path_only true (codes "/bin/su") ∷ []) ∷ []

-- `!C`, asked of this path without arguments
abbrev pub not_ls_alias : List ℕ → Option Bool
not_ls_alias path =
    signed_answer true (cmnd_answer (cmnd_alias_says (cmnd_defs (reverse ls_alias)) path []) path
    [] (cmnds.Alias (codes "C")))

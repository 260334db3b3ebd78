-- Worked weights: `User_Alias X1 = a, a`, `User_Alias X2 = X1, X1` and so on, each twice as heavy
-- as the one above it.
use Rattle.std.specs.Prelude.{ℕ, zero, suc, false, List, [], ◌∷◌, ◌++◌, None, codes, decimal}
use Rattle.sudo_words.specs.declared.cmnd.Cmnd.TheVariants as commands
use Rattle.sudo_policy.specs.declared.entry.Signed.{Signed}
use Rattle.sudo_policy.specs.declared.entry.Item.{Item}
use Rattle.sudo_policy.specs.declared.entry.Item.TheVariants as items
use Rattle.sudo_policy.specs.declared.entry.CmndItem.TheVariants as cmnds
use Rattle.sudo_policy.specs.declared.entry.Rule.{Rule}
use Rattle.sudo_policy.specs.declared.entry.Entry.{Entry}
use Rattle.sudo_policy.specs.declared.entry.Entry.TheVariants as entries
use Rattle.sudo_policy.specs.Text.{Text}
use Rattle.sudo_policy.specs.Tags.{no_tags}
use Rattle.sudo_policy.specs.Inheritance.{root}

abbrev pub double_name : ℕ → Text
double_name n = codes "X" ++ decimal n

-- `a`, and then `X1`, `X2` ..
abbrev pub double_item : ℕ → Signed (Item Text)
double_item zero = record { negated = false; item = items.Name (codes "a") }
double_item (suc n) = record { negated = false; item = items.Alias (double_name (suc n)) }

abbrev pub double_alias : ℕ → Entry
double_alias n = entries.UserAlias (double_name (suc n)) (double_item n ∷ double_item n ∷ [])

unfoldable pub double_aliases : ℕ → List Entry
double_aliases zero = []
double_aliases (suc n) = double_aliases n ++ double_alias n ∷ []

-- the last of them may run all
abbrev pub double_rule : ℕ → Rule
double_rule n = record {
  users = double_item n ∷ [];
  hosts = record { negated = false; item = items.Name (codes "db1") } ∷ [];
  runas = root;
  not_before = None;
  not_after = None;
  tags = no_tags;
  cmnd = record { negated = false; item = cmnds.Cmnd commands.All };
}

-- so many aliases, and then `Xn db1 = (root) ALL`
unfoldable pub doubled : ℕ → List Entry
doubled n = double_aliases n ++ entries.Rule (double_rule n) ∷ []

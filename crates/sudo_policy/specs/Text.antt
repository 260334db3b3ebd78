-- Texts, and lists of users, hosts or targets, as definitions see them.
use Rattle.std.specs.Prelude.{ℕ, List}
use Rattle.sudo_policy.specs.declared.entry.Signed.{Signed}
use Rattle.sudo_policy.specs.declared.entry.Item.{Item}

-- a text is its bytes
abbrev pub Text : Type 0
Text = List ℕ

-- names, `ALL` and aliases, each negated or not
abbrev pub Names : Type 0
Names = List (Signed (Item Text))

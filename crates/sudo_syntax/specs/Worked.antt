-- Worked texts: what they spell, by the canonical text of the policy, and those that spell none.
use Rattle.std.specs.Prelude.{◌≡◌, false, List, [], ◌∷◌, None, codes}
use Rattle.sudo_words.specs.declared.cmnd.Cmnd.{Cmnd}
use Rattle.sudo_policy.specs.declared.entry.Item.TheVariants as items
use Rattle.sudo_policy.specs.declared.entry.CmndItem.TheVariants as cmnds
use Rattle.sudo_policy.specs.declared.entry.Entry.{Entry}
use Rattle.sudo_policy.specs.declared.entry.Entry.TheVariants as entries
use Rattle.sudo_policy.specs.Text.{Text}
use Rattle.sudo_policy.specs.Tags.{no_tags}
use Rattle.sudo_policy.specs.Inheritance.{root}
use Rattle.sudo_policy.specs.Printing.{canon}
use Rattle.sudo_policy.specs.Spelling.{Spells}

-- the text spells the policy with this canonical text
abbrev pub SpellsAs : Text → Text → Type 0
SpellsAs text canonical = (es : List Entry) × Spells text es × (canon es ≡ canonical)

abbrev pub SpellsNone : Text → Type 0
SpellsNone text = (es : List Entry) → Spells text es → ⊥

-- ann may run this command on db1 as root, at any time, with a password
abbrev pub may_run : Cmnd → List Entry
may_run cmnd = entries.Rule (record {
  users = record { negated = false; item = items.Name (codes "ann") } ∷ [];
  hosts = record { negated = false; item = items.Name (codes "db1") } ∷ [];
  runas = root;
  not_before = None;
  not_after = None;
  tags = no_tags;
  cmnd = record { negated = false; item = cmnds.Cmnd cmnd };
}) ∷ []

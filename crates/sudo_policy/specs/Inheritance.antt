-- The entries that a line stands for: one for each definition, and one rule for each command. What
-- a command of a list leaves out is taken from those before it in the same list (sudoers(5),
-- "Cmnd_Spec_List").
use Rattle.std.specs.Prelude.{false, List, [], ◌∷◌, map, None, unwrap_or, codes}
use Rattle.std.specs.List.{flat_map}
use Rattle.std.specs.Option.{option_or}
use Rattle.sudo_policy.specs.declared.entry.Signed.{Signed}
use Rattle.sudo_policy.specs.declared.entry.Item.TheVariants as items
use Rattle.sudo_policy.specs.declared.entry.CmndItem.{CmndItem}
use Rattle.sudo_policy.specs.declared.entry.Rule.{Rule}
use Rattle.sudo_policy.specs.declared.entry.Entry.{Entry}
use Rattle.sudo_policy.specs.declared.entry.Entry.TheVariants as entries
use Rattle.sudo_policy.specs.declared.tree.CmndSpec.{CmndSpec}
use Rattle.sudo_policy.specs.declared.tree.Part.{Part}
use Rattle.sudo_policy.specs.declared.tree.Settings.{Settings}
use Rattle.sudo_policy.specs.declared.tree.Line.{Line}
use Rattle.sudo_policy.specs.declared.tree.Line.TheVariants as lines
use Rattle.sudo_policy.specs.Text.{Names}
use Rattle.sudo_policy.specs.Tags.{no_tags, with_tags}

-- without targets, `root` alone
abbrev pub root : Names
root = record { negated = false; item = items.Name (codes "root") } ∷ []

-- what holds before the first command of a list: as `root`, at any time, without tags
abbrev pub first_settings : Settings
first_settings = record { runas = root; not_before = None; not_after = None; tags = no_tags }

-- what a command gives of its own overrides what held before it
abbrev pub with_spec : Settings → CmndSpec → Settings
with_spec before s = record {
  runas = unwrap_or s.runas before.runas;
  not_before = option_or s.not_before before.not_before;
  not_after = option_or s.not_after before.not_after;
  tags = with_tags before.tags s.tags;
}

abbrev pub rule_with : Names → Names → Settings → Signed CmndItem → Rule
rule_with users hosts held cmnd = record {
  users = users;
  hosts = hosts;
  runas = held.runas;
  not_before = held.not_before;
  not_after = held.not_after;
  tags = held.tags;
  cmnd = cmnd;
}

-- the rules of a list of commands, where these settings hold before it
abbrev pub rules_of : Names → Names → Settings → List CmndSpec → List Entry
rules_of users hosts before [] = []
rules_of users hosts before (s ∷ specs) =
    entries.Rule (rule_with users hosts (with_spec before s) s.cmnd)
    ∷ rules_of users hosts (with_spec before s) specs

-- each part begins afresh
abbrev pub part_rules : Names → Part → List Entry
part_rules users part = rules_of users part.hosts first_settings part.specs

abbrev pub entries_of : Line → List Entry
entries_of (lines.Users defs) = map (λ d. entries.UserAlias d.name d.list) defs
entries_of (lines.Runas defs) = map (λ d. entries.RunasAlias d.name d.list) defs
entries_of (lines.Hosts defs) = map (λ d. entries.HostAlias d.name d.list) defs
entries_of (lines.Cmnds defs) = map (λ d. entries.CmndAlias d.name d.list) defs
entries_of (lines.UserSpec users parts) = flat_map (part_rules users) parts

-- What holds for each command of a list, at any place (sudoers(5), "Cmnd_Spec_List").
use Rattle.std.specs.Prelude.{◌≡◌, true, false, List, [], ◌∷◌, ◌++◌, length}
use Rattle.std.specs.Prelude.{map, Option, Some, None, unwrap_or}
use Rattle.std.specs.List.{AllByRecursion}
use Rattle.sudo_policy.specs.declared.entry.Rule.{Rule}
use Rattle.sudo_policy.specs.declared.entry.Entry.{Entry}
use Rattle.sudo_policy.specs.declared.entry.Entry.TheVariants as entries
use Rattle.sudo_policy.specs.declared.tags.Tag.{Tag}
use Rattle.sudo_policy.specs.declared.tags.Tag.TheVariants.{Passwd, NoPasswd}
use Rattle.sudo_policy.specs.declared.tags.GivenTags.{GivenTags}
use Rattle.sudo_policy.specs.declared.tree.CmndSpec.{CmndSpec}
use Rattle.sudo_policy.specs.declared.tree.Part.{Part}
use Rattle.sudo_policy.specs.Text.{Names}
use Rattle.sudo_policy.specs.Inheritance.{root, part_rules}

abbrev pub NoneGiven : {X : Type 0} → List (Option X) → Type 0
NoneGiven given = AllByRecursion (λ o. o ≡ None) given

-- the last one given, if any: none is given after it
abbrev pub LastGiven : {X : Type 0} → List (Option X) → Option X → Type 0
LastGiven given None = NoneGiven given
LastGiven {X} given (Some x) =
    (before after : List (Option X)) × (given ≡ before ++ Some x ∷ after) × NoneGiven after

-- the same, or the default if none is given
abbrev pub LastGivenOr : {X : Type 0} → X → List (Option X) → X → Type 0
LastGivenOr {X} default given held =
    (last : Option X) × LastGiven given last × (held ≡ unwrap_or last default)

-- what a tag means: the command gives this, and not the opposite
abbrev pub Gives : GivenTags → Tag → Type 0
Gives given Passwd = given.nopasswd ≡ Some false
Gives given NoPasswd = given.nopasswd ≡ Some true

-- What the rule has is the last one given by these commands; where none gives one, it is `root`, no
-- bound, and a password.
pub record Inherits (specs : List CmndSpec) (rule : Rule) : Type 0 where
  pub runas : LastGivenOr root (map (λ s. s.runas) specs) rule.runas
  pub not_before : LastGiven (map (λ s. s.not_before) specs) rule.not_before
  pub not_after : LastGiven (map (λ s. s.not_after) specs) rule.not_after
  pub nopasswd : LastGivenOr false (map (λ s. s.tags.nopasswd) specs) rule.tags.nopasswd

-- The command that comes after these in a part has a rule at its own place among the part's
-- entries: with the part's users and hosts and the command itself, and what it inherits from the
-- commands up to and including it.
pub record HasRule (users : Names) (part : Part) (before : List CmndSpec)
    (s : CmndSpec) : Type 0 where
  pub rules_before : List Entry
  pub rule : Rule
  pub rules_after : List Entry
  pub entries_are : part_rules users part ≡ rules_before ++ entries.Rule rule ∷ rules_after
  pub place : length rules_before ≡ length before
  pub users_are : rule.users ≡ users
  pub hosts_are : rule.hosts ≡ part.hosts
  pub cmnd_is : rule.cmnd ≡ s.cmnd
  pub inherits : Inherits (before ++ s ∷ []) rule

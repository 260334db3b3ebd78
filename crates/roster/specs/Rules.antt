-- What holds for each roster, beyond the types of its values. A list stands for the set of its
-- elements, but a count is the length of the list.
use Rattle.std.specs.Prelude.{◌≡◌, ℕ, All, List, length, Bool, true, ◌&&◌, nat_le}
use Rattle.std.specs.List.{list_all, list_any}
use Rattle.std.specs.Str.{bytes_eq}
use Rattle.sudo_words.specs.Word.{is_name, is_host_name, is_label}
use Rattle.sudo_words.specs.Command.{IsLawful, cmnd_text}
use Rattle.sudo_words.specs.declared.cmnd.Cmnd.{Cmnd}
use Rattle.roster.specs.Fields.{CeilingFields, Entry, RosterFields}
use Rattle.roster.specs.declared.days.Days.{Days}
use Rattle.roster.specs.declared.days.Days.TheVariants.{Always, Between}

-- ---- names

abbrev pub is_named_pair : List ℕ × List ℕ → Bool
is_named_pair p = is_label p.0 && is_label p.1

abbrev pub is_named_entry : Entry → Bool
is_named_entry e = is_label e.0

abbrev pub is_named_person : List ℕ × List Entry → Bool
is_named_person p = is_name p.0 && list_all is_named_entry p.1

-- the text of a lawful command (sudoers(5), "Cmnd")
abbrev pub IsCmndText : List ℕ → Type 0
IsCmndText text = (c : Cmnd) × IsLawful c × (text ≡ cmnd_text c)

-- each name in a ceiling is a name of its form, and each command in it is a command
pub record IsNamedCeiling {C : Type 0} (IsCommand : C → Type 0)
    (c : List ℕ × CeilingFields C) : Type 0 where
  pub label : is_label c.0 ≡ true
  pub ask : is_label c.1.ask ≡ true
  pub approve : is_label c.1.approve ≡ true
  pub hosts : list_all is_host_name c.1.hosts ≡ true
  pub runas : list_all is_name c.1.runas ≡ true
  pub commands : All IsCommand c.1.commands

-- each name outside the ceilings is a name of its form
unfoldable pub good_names : {C : Type 0} → RosterFields C → Bool
good_names f =
    list_all is_label f.relays && list_all is_host_name f.hosts && list_all is_label f.duties
    && list_all is_named_pair f.conflicts && list_all is_named_person f.people

-- each name is a name of its form, and each command is a command
pub record GoodNames {C : Type 0} (IsCommand : C → Type 0) (f : RosterFields C) : Type 0 where
  pub names : good_names f ≡ true
  pub ceilings : All (IsNamedCeiling IsCommand) f.ceilings

-- ---- duties and hosts

abbrev pub is_among : List (List ℕ) → List ℕ → Bool
is_among words w = list_any (λ v. bytes_eq v w) words

abbrev pub is_known_pair : List (List ℕ) → List ℕ × List ℕ → Bool
is_known_pair duties p = is_among duties p.0 && is_among duties p.1

abbrev pub is_known_entry : List (List ℕ) → Entry → Bool
is_known_entry duties e = is_among duties e.0

abbrev pub is_known_person : List (List ℕ) → List ℕ × List Entry → Bool
is_known_person duties p = list_all (is_known_entry duties) p.1

abbrev pub is_known_ceiling : {C : Type 0} → List (List ℕ)
    → List (List ℕ) → List ℕ × CeilingFields C → Bool
is_known_ceiling duties hosts c =
    is_among duties c.1.ask && is_among duties c.1.approve && list_all (is_among hosts) c.1.hosts

-- each duty that is named is one of these, and each host of a ceiling one of these hosts
abbrev pub names_only : {C : Type 0} → (duties hosts : List (List ℕ)) → RosterFields C → Bool
names_only duties hosts f =
    list_all (is_known_pair duties) f.conflicts && list_all (is_known_person duties) f.people
    && list_all (is_known_ceiling duties hosts) f.ceilings

-- each duty that is named is one of the duties, and each host of a ceiling one of the hosts
unfoldable pub are_known : {C : Type 0} → RosterFields C → Bool
are_known f = names_only f.duties f.hosts f

-- a duty conflicts with itself
unfoldable pub has_self_conflict : {C : Type 0} → RosterFields C → Bool
has_self_conflict f = list_any (λ p. bytes_eq p.0 p.1) f.conflicts

-- ---- numbers and counts

abbrev pub is_between : (least most n : ℕ) → Bool
is_between least most n = nat_le least n && nat_le n most

-- 1 to 3 approvals; 1 to 256 hosts, targets and commands; a window of 1 second to 30 days
abbrev pub is_ranged : {C : Type 0} → List ℕ × CeilingFields C → Bool
is_ranged c =
    is_between 1 3 c.1.needs && is_between 1 256 (length c.1.hosts)
    && is_between 1 256 (length c.1.runas) && is_between 1 256 (length c.1.commands)
    && is_between 1 2_592_000 c.1.longest

-- every day, or from a day to the same or a later one, up to 2099-12-31
abbrev pub are_in_range : Days → Bool
are_in_range Always = true
are_in_range (Between from until) = nat_le from until && nat_le until 47_481

abbrev pub is_ranged_entry : Entry → Bool
is_ranged_entry e = are_in_range e.1

-- up to 256 entries, each with days in range
abbrev pub is_ranged_person : List ℕ × List Entry → Bool
is_ranged_person p = nat_le (length p.1) 256 && list_all is_ranged_entry p.1

-- 1 to 64 relays, 1 to 1,024 hosts, up to 256 duties, 4,096 conflicts and 4,096 people
abbrev pub has_list_counts : {C : Type 0} → RosterFields C → Bool
has_list_counts f =
    is_between 1 64 (length f.relays)
    && is_between 1 1024 (length f.hosts) && nat_le (length f.duties) 256
    && nat_le (length f.conflicts) 4096 && nat_le (length f.people) 4096

-- and each person in range
abbrev pub has_counts : {C : Type 0} → RosterFields C → Bool
has_counts f = has_list_counts f && list_all is_ranged_person f.people

-- up to 1,024 ceilings
abbrev pub has_ceiling_counts : {C : Type 0} → RosterFields C → Bool
has_ceiling_counts f = nat_le (length f.ceilings) 1024 && list_all is_ranged f.ceilings

-- and the text has up to 1 MiB
unfoldable pub in_range : {C : Type 0} → List ℕ → RosterFields C → Bool
in_range text f = nat_le (length text) 1_048_576 && has_counts f && has_ceiling_counts f

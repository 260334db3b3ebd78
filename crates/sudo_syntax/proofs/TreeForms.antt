-- What a tree spells is of the grammar's forms.
use Rattle.std.proofs.Common.{◌≡◌, ℕ, ◌≤◌, Bool, true, List, [], ◌∷◌, length, map, Option, Some, None, refl, sym, subst, inl, inr, arith}
use Rattle.std.specs.Prelude.{IfSome, unwrap_or, codes}
use Rattle.std.specs.Option.{option_or}
use Rattle.std.specs.List.{AllByRecursion, flat_map}
use Rattle.std.proofs.lemmas.List.Concat.{flat_map-cons}
use Rattle.sudo_words.specs.Bytes.{comma, colon}
use Rattle.sudo_words.specs.Word.{is_name, is_host_name, is_keyword, is_alias_name}
use Rattle.sudo_words.specs.Moment.{IsMoment}
use Rattle.sudo_policy.specs.declared.entry.Signed.{Signed}
use Rattle.sudo_policy.specs.declared.entry.Item.{Item}
use Rattle.sudo_policy.specs.declared.entry.Entry.TheVariants as entries
use Rattle.sudo_policy.specs.declared.tree.Definition.{Definition}
use Rattle.sudo_policy.specs.declared.tree.Settings.{Settings}
use Rattle.sudo_policy.specs.declared.tree.CmndSpec.{CmndSpec}
use Rattle.sudo_policy.specs.declared.tree.Part.{Part}
use Rattle.sudo_policy.specs.declared.tree.Line.{Line}
use Rattle.sudo_policy.specs.declared.tree.Line.TheVariants as lines
use Rattle.sudo_policy.specs.Lex.{Tok}
use Rattle.sudo_policy.specs.Grammar.{More, Listed, SpellsItem, SpellsCmnd, SpellsRunas, Date, SpellsDates}
use Rattle.sudo_policy.specs.Grammar.{Bounds, SpellsCmndSpec, SpellsPart, SpellsDef, SpellsAliases, SpellsTree}
use Rattle.sudo_policy.specs.Inheritance.{first_settings, with_spec, rules_of, part_rules, entries_of}
use Rattle.sudo_policy.specs.Policy.{IsItem, IsCmndItem, IsList, IsEntry}
use Rattle.sudo_syntax.proofs.EntryLemmas.{all_append}

-- ---- lists

all_map : {X Y : Type 0} (P : Y → Type 0) (f : X → Y) (xs : List X) → AllByRecursion (λ x. P (f x)) xs → AllByRecursion P (map f xs)
all_map P f [] h = tt
all_map P f (x ∷ xs) h = (h.0, all_map P f xs h.1)

all_flat_map : {X Y : Type 0} (P : Y → Type 0) (f : X → List Y) (xs : List X)
    → AllByRecursion (λ x. AllByRecursion P (f x)) xs → AllByRecursion P (flat_map f xs)
all_flat_map P f [] h = tt
all_flat_map P f (x ∷ xs) h = rw flat_map-cons (all_append P (f x) (flat_map f xs) h.0 (all_flat_map P f xs h.1))

more_all : {X : Type 0} (m : ℕ) (Is : List Tok → X → List Tok → Type 0) (P : X → Type 0) → ((ts : List Tok) (x : X) (rest : List Tok) → Is ts x rest → P x)
    → (ts : List Tok) (xs : List X) (rest : List Tok) → More m Is ts xs rest → AllByRecursion P xs
more_all m Is P each ts [] rest h = tt
more_all m Is P each ts (x ∷ xs) rest (a, next, mid, e, is, more) = (each next x mid is, more_all m Is P each mid xs rest more)

listed_all : {X : Type 0} (m : ℕ) (Is : List Tok → X → List Tok → Type 0) (P : X → Type 0) → ((ts : List Tok) (x : X) (rest : List Tok) → Is ts x rest → P x)
    → (ts : List Tok) (xs : List X) (rest : List Tok) → Listed m Is ts xs rest → AllByRecursion P xs
listed_all m Is P each ts [] rest h = absurd h
listed_all m Is P each ts (x ∷ xs) rest (mid, is, more) = (each ts x mid is, more_all m Is P each mid xs rest more)

listed_some : {X : Type 0} (m : ℕ) (Is : List Tok → X → List Tok → Type 0) (ts : List Tok) (xs : List X) (rest : List Tok)
    → Listed m Is ts xs rest → 1 ≤ length xs
listed_some m Is ts [] rest h = absurd h
listed_some m Is ts (x ∷ xs) rest h = omega arith

listed_is : {X : Type 0} (Is : List Tok → Signed X → List Tok → Type 0) (P : X → Type 0)
    → ((ts : List Tok) (s : Signed X) (rest : List Tok) → Is ts s rest → P s.item)
    → (ts : List Tok) (xs : List (Signed X)) (rest : List Tok) → Listed comma Is ts xs rest → IsList P xs
listed_is Is P each ts xs rest h = (listed_some comma Is ts xs rest h, listed_all comma Is (λ s. P s.item) each ts xs rest h)

pub items_are : (form : List ℕ → Bool) (ts : List Tok) (xs : List (Signed (Item (List ℕ)))) (rest : List Tok)
    → Listed comma (SpellsItem form) ts xs rest → IsList (IsItem form) xs
items_are form = listed_is (SpellsItem form) (IsItem form) (λ ts s rest h. h.item)

-- ---- definitions

abbrev IsDef : {X : Type 0} → (X → Type 0) → Definition X → Type 0
IsDef P d = (is_alias_name d.name ≡ true) × IsList P d.list

aliases_are : {X : Type 0} (kind : List ℕ) (Is : List Tok → Signed X → List Tok → Type 0) (P : X → Type 0)
    → ((ts : List Tok) (s : Signed X) (rest : List Tok) → Is ts s rest → P s.item)
    → (ts : List Tok) (defs : List (Definition X)) → SpellsAliases kind Is ts defs → AllByRecursion (IsDef P) defs
aliases_are kind Is P each ts defs (a, next, e, spaced, list) =
    listed_all colon (SpellsDef Is) (IsDef P) (λ ts d rest h. (h.name, listed_is Is P each h.next d.list rest h.list)) next defs [] list

-- ---- settings: what a command gives and what holds before it

record AreSettings (s : Settings) : Type 0 where
  runas : IsList (IsItem is_name) s.runas
  not_before : IfSome s.not_before IsMoment
  not_after : IfSome s.not_after IsMoment

record IsCmndSpec (s : CmndSpec) : Type 0 where
  runas : IfSome s.runas (IsList (IsItem is_name))
  not_before : IfSome s.not_before IsMoment
  not_after : IfSome s.not_after IsMoment
  cmnd : IsCmndItem s.cmnd.item

first_are : AreSettings first_settings
unfolding is_keyword
first_are = record { runas = (omega arith, (refl, tt)); not_before = tt; not_after = tt }

given_or : {X : Type 0} (P : X → Type 0) (o : Option X) (x : X) → IfSome o P → P x → P (unwrap_or o x)
given_or P None x h k = k
given_or P (Some y) x h k = h

either : {X : Type 0} (P : X → Type 0) (a b : Option X) → IfSome a P → IfSome b P → IfSome (option_or a b) P
either P None b h k = k
either P (Some x) b h k = h

behind_are : (before : Settings) (s : CmndSpec) → AreSettings before → IsCmndSpec s → AreSettings (with_spec before s)
behind_are before s held is = record {
  runas = given_or (IsList (IsItem is_name)) s.runas before.runas is.runas held.runas;
  not_before = either IsMoment s.not_before before.not_before is.not_before held.not_before;
  not_after = either IsMoment s.not_after before.not_after is.not_after held.not_after;
}

-- ---- commands of a user specification

runas_are : (ts : List Tok) (o : Option (List (Signed (Item (List ℕ))))) (rest : List Tok) → SpellsRunas ts o rest → IfSome o (IsList (IsItem is_name))
runas_are ts None rest h = tt
runas_are ts (Some runas) rest (a, b, next, mid, e, users, close) = items_are is_name next runas mid users

dates_are : (ts : List Tok) (dates : List Date) (rest : List Tok) → SpellsDates ts dates rest → AllByRecursion (λ d. IsMoment d.moment) dates
dates_are ts [] rest h = tt
dates_are ts (date ∷ dates) rest (a, time, next, spells, e, spaced, more) = (spells.moment, dates_are next dates rest more)

bounds_are : (before after : Option ℕ) (dates : List Date) (not_before not_after : Option ℕ) → IfSome before IsMoment → IfSome after IsMoment
    → AllByRecursion (λ d. IsMoment d.moment) dates → Bounds before after dates not_before not_after → IfSome not_before IsMoment × IfSome not_after IsMoment
bounds_are before after [] not_before not_after b a are h =
    (subst (λ (o : Option ℕ). IfSome o IsMoment) (sym h.0) b, subst (λ (o : Option ℕ). IfSome o IsMoment) (sym h.1) a)
bounds_are before after (date ∷ dates) not_before not_after b a are (new_before, new_after, inl gives, more) =
    bounds_are new_before new_after dates not_before not_after (subst (λ (o : Option ℕ). IfSome o IsMoment) (sym gives.2) are.0)
    (subst (λ (o : Option ℕ). IfSome o IsMoment) (sym gives.3) a) are.1 more
bounds_are before after (date ∷ dates) not_before not_after b a are (new_before, new_after, inr gives, more) =
    bounds_are new_before new_after dates not_before not_after (subst (λ (o : Option ℕ). IfSome o IsMoment) (sym gives.3) b)
    (subst (λ (o : Option ℕ). IfSome o IsMoment) (sym gives.2) are.0) are.1 more

spec_is : (ts : List Tok) (s : CmndSpec) (rest : List Tok) → SpellsCmndSpec ts s rest → IsCmndSpec s
spec_is ts s rest h =
    let bounds = bounds_are None None h.dates s.not_before s.not_after tt tt (dates_are h.after_runas h.dates h.after_dates h.dated) h.bounds in
    record {
      runas = runas_are ts s.runas h.after_runas h.runas;
      not_before = bounds.0;
      not_after = bounds.1;
      cmnd = h.cmnd.item;
    }

-- ---- rules

rules_are : (users hosts : List (Signed (Item (List ℕ)))) (before : Settings) (specs : List CmndSpec) → IsList (IsItem is_name) users
    → IsList (IsItem is_host_name) hosts → AreSettings before → AllByRecursion IsCmndSpec specs → AllByRecursion IsEntry (rules_of users hosts before specs)
rules_are users hosts before [] u h held are = tt
rules_are users hosts before (s ∷ specs) u h held are =
    let behind = behind_are before s held are.0 in (
      record { users = u; hosts = h; runas = behind.runas; not_before = behind.not_before; not_after = behind.not_after; cmnd = are.0.cmnd },
      rules_are users hosts (with_spec before s) specs u h behind are.1,
    )

part_is : (users : List (Signed (Item (List ℕ)))) → IsList (IsItem is_name) users
    → (ts : List Tok) (p : Part) (rest : List Tok) → SpellsPart ts p rest → AllByRecursion IsEntry (part_rules users p)
part_is users u ts p rest h =
    rules_are users p.hosts first_settings p.specs u (items_are is_host_name ts p.hosts _ h.hosts) first_are
    (listed_all comma SpellsCmndSpec IsCmndSpec spec_is h.next p.specs rest h.specs)

-- ---- lines

pub tree_entries : (ts : List Tok) (l : Line) → SpellsTree ts l → AllByRecursion IsEntry (entries_of l)
tree_entries ts (lines.Users defs) h =
    all_map IsEntry (λ d. entries.UserAlias d.name d.list) defs
    (aliases_are (codes "User_Alias") (SpellsItem is_name) (IsItem is_name) (λ ts s rest is. is.item) ts defs h)
tree_entries ts (lines.Runas defs) h =
    all_map IsEntry (λ d. entries.RunasAlias d.name d.list) defs
    (aliases_are (codes "Runas_Alias") (SpellsItem is_name) (IsItem is_name) (λ ts s rest is. is.item) ts defs h)
tree_entries ts (lines.Hosts defs) h =
    all_map IsEntry (λ d. entries.HostAlias d.name d.list) defs
    (aliases_are (codes "Host_Alias") (SpellsItem is_host_name) (IsItem is_host_name) (λ ts s rest is. is.item) ts defs h)
tree_entries ts (lines.Cmnds defs) h =
    all_map IsEntry (λ d. entries.CmndAlias d.name d.list) defs (aliases_are (codes "Cmnd_Alias") SpellsCmnd IsCmndItem (λ ts s rest is. is.item) ts defs h)
tree_entries ts (lines.UserSpec users parts) (next, u, spaced, list) =
    all_flat_map IsEntry (part_rules users) parts
    (listed_all colon SpellsPart (λ p. AllByRecursion IsEntry (part_rules users p)) (part_is users (items_are is_name ts users next u)) next parts [] list)

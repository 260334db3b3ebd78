-- 16 aliases that double are a policy, and 17 weigh too much.
use Rattle.std.proofs.Common.{◌≡◌, ℕ, zero, suc, ◌+◌, ◌*◌, ◌<◌, ◌≤◌, max, Bool, true, false, ◌||◌, if◌then◌else◌}
use Rattle.std.proofs.Common.{List, [], ◌∷◌, length, reverse, refl, ap, subst, ◌∙◌, arith, lit≤, lit<}
use Rattle.std.specs.Prelude.{codes}
use Rattle.std.specs.Fmt.{digits}
use Rattle.std.specs.List.{AllByRecursion}
use Rattle.std.specs.Str.{bytes_eq}
use Rattle.std.proofs.lemmas.Bool.{leb-true}
use Rattle.std.proofs.lemmas.List.{reverse-append}
use Rattle.std.proofs.lemmas.Slice.Eq.{bytes_eq-Decides}
use Rattle.sudo_words.specs.Word.{is_keyword, is_reserved}
use Rattle.sudo_policy.specs.declared.entry.Item.{Item}
use Rattle.sudo_policy.specs.declared.entry.Entry.{Entry}
use Rattle.sudo_policy.specs.declared.entry.Entry.TheVariants as entries
use Rattle.sudo_policy.specs.declared.tree.Definition.{Definition}
use Rattle.sudo_policy.specs.Alias.{user_defs, is_defined, item_alias, KnowsList, item_weight, list_weight, alias_weight, item_depth, depth_of, alias_depth}
use Rattle.sudo_syntax.specs.Doubling.{double_name, double_item, double_alias, double_aliases, double_rule, doubled}
use Rattle.sudo_policy.specs.Policy.{IsEntry, ArePlaced, entry_weight, weight, IsPolicy}
use Rattle.sudo_policy.specs.Printing.{canon}
use Rattle.sudo_policy.specs.Lines.{lines_of}
use Rattle.sudo_policy.specs.Spelling.{Spells, SpellsLines}
use Rattle.sudo_syntax.specs.Worked.{SpellsNone}
use Rattle.sudo_policy.proofs.Canon.{texts, canon_joined, canon_entries, canon_spells}
use Rattle.sudo_syntax.proofs.Deriving.{entries_are}
use Rattle.sudo_policy.proofs.LineTexts.{joined_one}
use Rattle.sudo_policy.proofs.One.{lines_one}
use Rattle.sudo_policy.proofs.PolicyFronts.{placed_push, weight_push}

-- what the canonical text of well-formed entries spells is these
canon_only : (es fs : List Entry) → AllByRecursion IsEntry es → Spells (canon es) fs → fs ≡ es
canon_only es fs each s =
    let same : s.joined ≡ texts es = joined_one (lines_of (canon es)) s.joined (texts es) s.lines (canon_joined es each) in
    lines_one (texts es) fs es (subst (λ (ls : List (List ℕ)). SpellsLines ls fs) same s.entries) (canon_entries es each)

abbrev Defs : Type 0
Defs = List (Definition (Item (List ℕ)))

defs : ℕ → Defs
defs n = user_defs (reverse (double_aliases n))

defs_next : (n : ℕ) → defs (suc n) ≡ record { name = double_name (suc n); list = double_item n ∷ double_item n ∷ [] } ∷ defs n
unfolding defs double_aliases
defs_next n = ap user_defs (reverse-append (double_aliases n) (double_alias n ∷ []))

self : (name : List ℕ) → bytes_eq name name ≡ true
self name = (bytes_eq-Decides name name).1 refl

if_true : {V : Type 0} (b : Bool) (x y : V) → b ≡ true → (if b then x else y) ≡ x
if_true b x y h = ap (λ (t : Bool). if t then x else y) h

-- ---- weights

power : ℕ → ℕ
power zero = 1
power (suc n) = power n * 2

twice : (w p : ℕ) → w ≡ p → 0 + w + w ≡ p * 2
twice w p e = omega arith

weighs : (n : ℕ) → item_weight (alias_weight item_alias (defs n)) (item_alias (double_item n).item) ≡ power n
unfolding power
weighs zero = refl
weighs (suc n) =
    ap (λ (ds : Defs). alias_weight item_alias ds (double_name (suc n))) (defs_next n) ∙ if_true (bytes_eq (double_name (suc n)) (double_name (suc n)))
    (list_weight item_alias (alias_weight item_alias (defs n)) (double_item n ∷ double_item n ∷ [])) (alias_weight item_alias (defs n) (double_name (suc n)))
    (self (double_name (suc n))) ∙ twice (item_weight (alias_weight item_alias (defs n)) (item_alias (double_item n).item)) (power n) (weighs n)

no_weight : (n : ℕ) → weight (double_aliases n) ≡ 0
unfolding double_aliases
no_weight zero = refl
no_weight (suc n) = omega (arith, weight_push (double_aliases n) (double_alias n), no_weight n)

three_more : (w p : ℕ) → w ≡ p → 0 + w + 1 + 1 + 1 ≡ p + 3
three_more w p e = omega arith

rule_weighs : (n : ℕ) → entry_weight (reverse (double_aliases n)) (entries.Rule (double_rule n)) ≡ power n + 3
unfolding defs
rule_weighs n = three_more (item_weight (alias_weight item_alias (defs n)) (item_alias (double_item n).item)) (power n) (weighs n)

weight_is : (n : ℕ) → weight (doubled n) ≡ power n + 3
unfolding doubled
weight_is n = omega (arith, weight_push (double_aliases n) (entries.Rule (double_rule n)), no_weight n, rule_weighs n)

pub weight_16 : weight (doubled 16) ≡ 65_539
unfolding power
weight_16 = weight_is 16

pub weight_17 : weight (doubled 17) ≡ 131_075
unfolding power
weight_17 = weight_is 17

-- ---- depths and places

deeper : (d n : ℕ) → d ≡ n → 1 + max d (max d 0) ≡ suc n
deeper d n e = omega arith

deep : (n : ℕ) → item_depth (alias_depth item_alias (defs n)) (item_alias (double_item n).item) ≡ n
deep zero = refl
deep (suc n) =
    ap (λ (ds : Defs). alias_depth item_alias ds (double_name (suc n))) (defs_next n) ∙ if_true (bytes_eq (double_name (suc n)) (double_name (suc n)))
    (depth_of item_alias (alias_depth item_alias (defs n)) (double_item n ∷ double_item n ∷ [])) (alias_depth item_alias (defs n) (double_name (suc n)))
    (self (double_name (suc n))) ∙ deeper (item_depth (alias_depth item_alias (defs n)) (item_alias (double_item n).item)) n (deep n)

is_known : (n : ℕ) → is_defined (defs (suc n)) (double_name (suc n)) ≡ true
is_known n =
    ap (λ (ds : Defs). is_defined ds (double_name (suc n))) (defs_next n)
    ∙ ap (λ (b : Bool). b || is_defined (defs n) (double_name (suc n))) (self (double_name (suc n)))

knows_two : (n : ℕ) → KnowsList item_alias (defs n) (double_item n ∷ double_item n ∷ [])
knows_two zero = (tt, (tt, tt))
knows_two (suc n) = (is_known n, (is_known n, tt))

knows_one : (n : ℕ) → KnowsList item_alias (defs n) (double_item n ∷ [])
knows_one n = ((knows_two n).0, tt)

shallow : (d n : ℕ) → d ≡ n → n < 64 → 1 + max d (max d 0) ≤ 64
shallow d n e h = omega arith

next : (n : ℕ) → n < 64 → is_defined (defs n) (double_name (suc n)) ≡ false → ArePlaced [] (double_aliases n) → ArePlaced [] (double_aliases (suc n))
unfolding double_aliases defs
next n below new placed =
    placed_push (double_aliases n) (double_alias n) placed (record {
      new = new;
      knows = knows_two n;
      shallow = shallow (item_depth (alias_depth item_alias (defs n)) (item_alias (double_item n).item)) n (deep n) below;
    })

placed_16 : ArePlaced [] (double_aliases 16)
unfolding defs double_aliases digits
placed_16 =
    next 15 (lit< tt) refl (next 14 (lit< tt) refl (next 13 (lit< tt) refl (next 12 (lit< tt) refl (next 11 (lit< tt) refl (next 10 (lit< tt) refl
    (next 9 (lit< tt) refl (next 8 (lit< tt) refl (next 7 (lit< tt) refl (next 6 (lit< tt) refl (next 5 (lit< tt) refl (next 4 (lit< tt) refl
    (next 3 (lit< tt) refl (next 2 (lit< tt) refl (next 1 (lit< tt) refl (next 0 (lit< tt) refl tt)))))))))))))))

all_placed_16 : ArePlaced [] (doubled 16)
unfolding doubled defs
all_placed_16 =
    placed_push (double_aliases 16) (entries.Rule (double_rule 16)) placed_16
    (record { users = knows_one 16; hosts = (tt, tt); runas = (tt, tt); cmnd = (tt, tt) })

entries_16 : AllByRecursion IsEntry (doubled 16)
unfolding doubled double_aliases digits is_reserved is_keyword
entries_16 = entries_are (doubled 16) refl

entries_17 : AllByRecursion IsEntry (doubled 17)
unfolding doubled double_aliases digits is_reserved is_keyword
entries_17 = entries_are (doubled 17) refl

count_16 : length (doubled 16) ≤ 16_384
unfolding doubled double_aliases
count_16 = lit≤ tt

short_16 : length (canon (doubled 16)) ≤ 16_777_216
unfolding doubled double_aliases digits
short_16 = leb-true (length (canon (doubled 16))) 16_777_216 refl

policy_16 : IsPolicy (doubled 16)
policy_16 = record {
  each = entries_16;
  placed = all_placed_16;
  count = count_16;
  light = omega (arith, weight_16);
  short = short_16;
}

pub sixteen_spell : Spells (canon (doubled 16)) (doubled 16)
sixteen_spell = canon_spells (doubled 16) policy_16

pub seventeen_none : SpellsNone (canon (doubled 17))
seventeen_none fs s =
    let policy : IsPolicy (doubled 17) = subst IsPolicy (canon_only (doubled 17) fs entries_17 s) s.policy in
    let light : weight (doubled 17) ≤ 131_072 = policy.light in
    omega (arith, weight_17, light)

pub text_2 : canon (doubled 2) ≡ codes "User_Alias X1 = a, a\nUser_Alias X2 = X1, X1\nX2 db1 = (root) ALL\n"
unfolding doubled double_aliases digits
text_2 = refl

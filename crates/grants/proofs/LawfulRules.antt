-- The rules of grants are rules of the grammar, and a base that fits has room for 8,192 of them behind it.
use Rattle.std.proofs.Common.{◌≡◌, ℕ, ◌+◌, ◌*◌, Bool, true, false, ◌&&◌, ◌||◌, eqb, leb, List, [], ◌∷◌, ◌++◌, map}
use Rattle.std.proofs.Common.{length, ◌≤◌, Option, Some, None, append_assoc, lit≤, refl, sym, ap, ◌∙◌, subst, arith}
use Rattle.std.specs.Prelude.{codes}
use Rattle.std.specs.List.{AllByRecursion, list_all}
use Rattle.std.proofs.lemmas.Bool.{and_parts, leb-true}
use Rattle.std.proofs.lemmas.List.{length-append, length-map}
use Rattle.sudo_words.proofs.NameLemmas.{name_shape, host_shape}
use Rattle.sudo_words.specs.Word.{is_lower, is_name, is_name_byte, is_host_byte, is_host_name}
use Rattle.sudo_words.specs.Command.{cmnd_text}
use Rattle.sudo_policy.specs.declared.entry.Rule.{Rule}
use Rattle.sudo_policy.specs.declared.entry.Entry.{Entry}
use Rattle.sudo_policy.specs.declared.entry.Entry.TheVariants as entries
use Rattle.sudo_policy.specs.declared.tags.Tag.TheVariants.{NoPasswd}
use Rattle.sudo_policy.specs.declared.tags.Tags.{Tags}
use Rattle.sudo_policy.specs.Policy.{IsRule, IsEntry, IsPlaced, ArePlaced, KnowsRule, IsPolicy, entry_weight, rule_weight, weight_below}
use Rattle.sudo_policy.specs.Printing.{canon, date_option_text, line_text, what_text, who_text}
use Rattle.sudo_policy.specs.Tags.{tag_text, tags_text}
use Rattle.sudo_policy.specs.Reading.{with_rules}
use Rattle.grants.specs.Bases.{FitsBase}
use Rattle.grants.specs.GrantRules.{IsGrantRule, plain_rule}

-- ---- lists with more behind them

all_append : {X : Type 0} (P : X → Type 0) (xs ys : List X) → AllByRecursion P xs → AllByRecursion P ys → AllByRecursion P (xs ++ ys)
all_append P [] ys a b = b
all_append P (x ∷ xs) ys a b = (a.0, all_append P xs ys a.1 b)

-- what holds for each rule holds for it as an entry
all_rules : (P : Rule → Type 0) (Q : Entry → Type 0) → ((r : Rule) → P r → Q (entries.Rule r))
    → (rules : List Rule) → AllByRecursion P rules → AllByRecursion Q (map entries.Rule rules)
all_rules P Q from [] each = tt
all_rules P Q from (r ∷ rules) each = (from r each.0, all_rules P Q from rules each.1)

-- entries that may stand anywhere may be added after any others
placed_append : (above es more : List Entry) → ArePlaced above es → AllByRecursion (λ e. (a : List Entry) → IsPlaced a e) more → ArePlaced above (es ++ more)
placed_append above [] [] placed each = tt
placed_append above [] (e ∷ more) placed each = (each.0 above, placed_append (e ∷ above) [] more tt each.1)
placed_append above (e ∷ es) more placed each = (placed.0, placed_append (e ∷ above) es more placed.1 each)

-- entries that weigh the same anywhere
weight_append : (above es more : List Entry) (n : ℕ) → AllByRecursion (λ e. (a : List Entry) → entry_weight a e ≡ n) more
    → weight_below above (es ++ more) ≡ weight_below above es + length more * n
weight_append above [] [] n each = omega arith
weight_append above [] (e ∷ more) n each =
    omega (arith, each.0 above, weight_append (e ∷ above) [] more n each.1)
weight_append above (e ∷ es) more n each =
    omega (arith, weight_append (e ∷ above) es more n each)

canon_append : (es more : List Entry) → canon (es ++ more) ≡ canon es ++ canon more
canon_append [] more = refl
canon_append (e ∷ es) more = ap (λ (t : List ℕ). line_text e ++ t) (canon_append es more) ∙ sym (append_assoc (line_text e) (canon es) (canon more))

canon_short : (es : List Entry) (n : ℕ) → AllByRecursion (λ e. length (line_text e) ≤ n) es → length (canon es) ≤ length es * n
canon_short [] n each = omega arith
canon_short (e ∷ es) n each = omega (arith, each.0, canon_short es n each.1, length-append (line_text e) (canon es))

-- ---- a rule of a grant

name_short : (w : List ℕ) → is_name w ≡ true → length w ≤ 32
name_short [] h = omega arith
name_short (b ∷ bs) h =
    leb-true (length (b ∷ bs)) 32 (and_parts ((is_lower b || eqb b 95) && list_all is_name_byte bs) (leb (length (b ∷ bs)) 32) (name_shape (b ∷ bs) h)).1

host_short : (w : List ℕ) → is_host_name w ≡ true → length w ≤ 32
host_short [] h = omega arith
host_short (b ∷ bs) h = leb-true (length (b ∷ bs)) 32 (and_parts (is_lower b && list_all is_host_byte bs) (leb (length (b ∷ bs)) 32) (host_shape (b ∷ bs) h)).1

-- texts of at most so many bytes
within : (v w : List ℕ) (m n : ℕ) → length v ≤ m → length w ≤ n → length (v ++ w) ≤ m + n
within v w m n a b = omega (arith, length-append v w, a, b)

alone : (w : List ℕ) (n : ℕ) → length w ≤ n → length (w ++ []) ≤ n
alone w n a = omega (arith, length-append w [], a)

before_short : (moment : Option ℕ) → length (date_option_text (codes "NOTBEFORE") moment) ≤ 26
before_short None = lit≤ tt
before_short (Some moment) = lit≤ tt

after_short : (moment : Option ℕ) → length (date_option_text (codes "NOTAFTER") moment) ≤ 25
after_short None = lit≤ tt
after_short (Some moment) = lit≤ tt

tag_short : (nopasswd : Bool) → length (tag_text NoPasswd nopasswd) ≤ 10
tag_short true = lit≤ tt
tag_short false = lit≤ tt

tags_short : (tags : Tags) → length (tags_text tags) ≤ 10
tags_short tags = tag_short tags.nopasswd

module _ (r : Rule) (g : IsGrantRule r) where
  -- the rule, by its parts
  abbrev plain : Rule
  plain = plain_rule g.user g.host g.target g.not_before g.not_after g.tags g.cmnd

  plain_lawful : IsRule plain
  plain_lawful = record {
    users = (lit≤ tt, (g.user_is, tt));
    hosts = (lit≤ tt, (g.host_is, tt));
    runas = (lit≤ tt, (g.target_is, tt));
    not_before = g.not_before_is;
    not_after = g.not_after_is;
    cmnd = g.lawful;
  }

  who_short : length (who_text plain) ≤ 103
  who_short =
      let user = alone g.user 32 (name_short g.user g.user_is) in
      let place = alone g.host 32 (host_short g.host g.host_is) in
      let target = alone g.target 32 (name_short g.target g.target_is) in
      let front = within (g.user ++ []) (codes " ") 32 1 user (lit≤ tt) in
      let with_host = within _ (g.host ++ []) 33 32 front place in
      let opened = within _ (codes " = (") 65 4 with_host (lit≤ tt) in
      let with_target = within _ (g.target ++ []) 69 32 opened target in
      within _ (codes ") ") 101 2 with_target (lit≤ tt)

  what_short : length (what_text plain) ≤ 1_085
  what_short =
      let before = date_option_text (codes "NOTBEFORE") g.not_before in
      let after = date_option_text (codes "NOTAFTER") g.not_after in
      let dates = within before after 26 25 (before_short g.not_before) (after_short g.not_after) in
      let tagged = within (before ++ after) (tags_text g.tags) 51 10 dates (tags_short g.tags) in
      within ((before ++ after) ++ tags_text g.tags) (cmnd_text g.cmnd) 61 1_024 tagged g.lawful.short

  plain_short : length (line_text (entries.Rule plain)) ≤ 1_189
  plain_short =
      within (who_text plain ++ what_text plain) (codes "\n") 1_188 1 (within (who_text plain) (what_text plain) 103 1_085 who_short what_short) (lit≤ tt)

  -- it names no alias
  grant_anywhere : (above : List Entry) → KnowsRule above r
  grant_anywhere above =
      subst (KnowsRule above) (sym g.rule_is) (record { users = (tt, tt); hosts = (tt, tt); runas = (tt, tt); cmnd = (tt, tt) })

  grant_weight : (above : List Entry) → rule_weight above r ≡ 4
  grant_weight above = ap (rule_weight above) g.rule_is

  grant_is_rule : IsRule r
  grant_is_rule = subst IsRule (sym g.rule_is) plain_lawful

  grant_line_short : length (line_text (entries.Rule r)) ≤ 1_189
  grant_line_short =
      subst (λ (x : Rule). length (line_text (entries.Rule x)) ≤ 1_189) (sym g.rule_is) plain_short

-- ---- a base that fits, with few enough of them behind it, is a policy

pub extended_policy : (base : List Entry) (rules : List Rule) → FitsBase base
    → length rules ≤ 8_192 → AllByRecursion IsGrantRule rules → IsPolicy (with_rules base rules)
extended_policy base rules fits few grants =
    let more = map entries.Rule rules in
    let count = length-map rules (λ (r : Rule). entries.Rule r) in
    let heavy = weight_append [] base more 4 (all_rules IsGrantRule (λ (e : Entry). (a : List Entry) → entry_weight a e ≡ 4) grant_weight rules grants) in
    let long = canon_short more 1_189 (all_rules IsGrantRule (λ (e : Entry). length (line_text e) ≤ 1_189) grant_line_short rules grants) in
    record {
      each = all_append IsEntry base more fits.policy.each (all_rules IsGrantRule IsEntry grant_is_rule rules grants);
      placed =
          placed_append [] base more fits.policy.placed (all_rules IsGrantRule (λ (e : Entry). (a : List Entry) → IsPlaced a e) grant_anywhere rules grants);
      count = omega (arith, length-append base more, count, few, fits.count);
      light = omega (arith, heavy, count, few, fits.light);
      short = omega (arith, ap length (canon_append base more), length-append (canon base) (canon more), long, count, few, fits.text);
    }

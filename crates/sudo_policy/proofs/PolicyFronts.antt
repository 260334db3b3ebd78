-- Entries after entries: a front of a policy is a policy.
use Rattle.std.proofs.Common.{◌≡◌, ℕ, ◌+◌, ◌<◌, List, [], ◌∷◌, ◌++◌, length, get_or, take, drop, reverse}
use Rattle.std.proofs.Common.{map, sym, ap, subst, ◌∙◌, append_assoc, add_assoc, zero-add, arith}
use Rattle.std.specs.List.{AllByRecursion}
use Rattle.std.proofs.lemmas.List.{append-nil, length-append, reverse-append, take-append-drop, take_more}
use Rattle.std.proofs.lemmas.List.Concat.{flat_map-append}
use Rattle.sudo_policy.specs.declared.entry.Rule.{Rule}
use Rattle.sudo_policy.specs.declared.entry.Entry.{Entry}
use Rattle.sudo_policy.specs.declared.entry.Entry.TheVariants as entries
use Rattle.sudo_policy.specs.Policy.{IsEntry, IsPlaced, ArePlaced, KnowsRule, weight_below, weight, entry_weight, IsPolicy}
use Rattle.sudo_policy.specs.Printing.{line_text, canon}
use Rattle.sudo_policy.specs.Reading.{with_rules}

-- the entries above whatever follows these
pub onto : List Entry → List Entry → List Entry
onto above es = reverse es ++ above

pub onto-nil : (es : List Entry) → onto [] es ≡ reverse es
unfolding onto
onto-nil es = append-nil (reverse es)

onto-cons : (above : List Entry) (e : Entry) (es : List Entry) → onto above (e ∷ es) ≡ onto (e ∷ above) es
unfolding onto
onto-cons above e es =
    let one : reverse (e ∷ es) ≡ reverse es ++ e ∷ [] = reverse-append (e ∷ []) es in
    ap (λ (x : List Entry). x ++ above) one ∙ append_assoc (reverse es) (e ∷ []) above

-- ---- what holds of each element

pub all_front : {X : Type 0} (P : X → Type 0) (xs ys : List X) → AllByRecursion P (xs ++ ys) → AllByRecursion P xs
all_front P [] ys h = tt
all_front P (x ∷ xs) ys h = (h.0, all_front P xs ys h.1)

pub all_rest : {X : Type 0} (P : X → Type 0) (xs ys : List X) → AllByRecursion P (xs ++ ys) → AllByRecursion P ys
all_rest P [] ys h = h
all_rest P (x ∷ xs) ys h = all_rest P xs ys h.1

-- ---- what is placed, and what it weighs

placed_front : (above es fs : List Entry) → ArePlaced above (es ++ fs) → ArePlaced above es
placed_front above [] fs h = tt
placed_front above (e ∷ es) fs h = (h.0, placed_front (e ∷ above) es fs h.1)

placed_behind : (above es fs : List Entry) → ArePlaced above (es ++ fs) → ArePlaced (onto above es) fs
unfolding onto
placed_behind above [] fs h = h
placed_behind above (e ∷ es) fs h =
    let P : List Entry → Type 0 = λ xs. ArePlaced xs fs in
    subst P (sym (onto-cons above e es)) (placed_behind (e ∷ above) es fs h.1)

placed_both : (above es fs : List Entry) → ArePlaced above es → ArePlaced (onto above es) fs → ArePlaced above (es ++ fs)
unfolding onto
placed_both above [] fs h k = k
placed_both above (e ∷ es) fs h k =
    let P : List Entry → Type 0 = λ xs. ArePlaced xs fs in
    (h.0, placed_both (e ∷ above) es fs h.1 (subst P (onto-cons above e es) k))

weight_both : (above es fs : List Entry) → weight_below above (es ++ fs) ≡ weight_below above es + weight_below (onto above es) fs
unfolding onto
weight_both above [] fs = sym (zero-add (weight_below above fs))
weight_both above (e ∷ es) fs =
    ap (λ (n : ℕ). entry_weight above e + n) (weight_both (e ∷ above) es fs)
    ∙ sym (add_assoc (entry_weight above e) (weight_below (e ∷ above) es) (weight_below (onto (e ∷ above) es) fs))
    ∙ ap (λ (xs : List Entry). (entry_weight above e + weight_below (e ∷ above) es) + weight_below xs fs) (sym (onto-cons above e es))

pub canon_both : (es fs : List Entry) → canon (es ++ fs) ≡ canon es ++ canon fs
canon_both es fs = flat_map-append line_text es fs

-- entries in two halves, printed one after the other
pub canon_halves : (es : List Entry) (half : ℕ) → canon (take half es) ++ canon (drop half es) ≡ canon es
canon_halves es half = sym (canon_both (take half es) (drop half es)) ∙ ap canon (take-append-drop half es)

-- entries printed so far, and one more
pub canon_more : (es : List Entry) (i : ℕ) (d : Entry) → i < length es → canon (take i es) ++ line_text (get_or es i d) ≡ canon (take (i + 1) es)
canon_more es i d h =
    let one : canon (get_or es i d ∷ []) ≡ line_text (get_or es i d) = append-nil (line_text (get_or es i d)) in
    sym (ap canon (take_more es i d h) ∙ canon_both (take i es) (get_or es i d ∷ []) ∙ ap (λ (t : List ℕ). canon (take i es) ++ t) one)

-- ---- policies

pub policy_front : (es fs : List Entry) → IsPolicy (es ++ fs) → IsPolicy es
policy_front es fs p = record {
  each = all_front IsEntry es fs p.each;
  placed = placed_front [] es fs p.placed;
  count = omega (arith, p.count, length-append es fs);
  light = omega (arith, p.light, weight_both [] es fs);
  short = omega (arith, p.short, ap length (canon_both es fs), length-append (canon es) (canon fs));
}

-- the next entry is placed below those before it
pub next_placed : (es : List Entry) (e : Entry) → ArePlaced [] (es ++ e ∷ []) → IsPlaced (reverse es) e
next_placed es e h =
    let P : List Entry → Type 0 = λ xs. ArePlaced xs (e ∷ []) in
    (subst P (onto-nil es) (placed_behind [] es (e ∷ []) h)).0

pub placed_push : (es : List Entry) (e : Entry) → ArePlaced [] es → IsPlaced (reverse es) e → ArePlaced [] (es ++ e ∷ [])
placed_push es e h k =
    let P : List Entry → Type 0 = λ xs. ArePlaced xs (e ∷ []) in
    placed_both [] es (e ∷ []) h (subst P (sym (onto-nil es)) (k, tt))

pub weight_push : (es : List Entry) (e : Entry) → weight (es ++ e ∷ []) ≡ weight es + entry_weight (reverse es) e
weight_push es e =
    let one : weight_below (onto [] es) (e ∷ []) ≡ entry_weight (reverse es) e =
    ap (λ (xs : List Entry). weight_below xs (e ∷ [])) (onto-nil es) ∙ omega arith in
    weight_both [] es (e ∷ []) ∙ ap (λ (n : ℕ). weight es + n) one

pub canon_push : (es : List Entry) (e : Entry) → length (canon (es ++ e ∷ [])) ≡ length (canon es) + length (line_text e)
canon_push es e =
    let one : canon (e ∷ []) ≡ line_text e = append-nil (line_text e) in
    ap length (canon_both es (e ∷ [])) ∙ length-append (canon es) (canon (e ∷ [])) ∙ ap (λ (t : List ℕ). length (canon es) + length t) one

-- ---- rules define nothing

pub knows_above : (above : List Entry) (rule r : Rule) → KnowsRule (entries.Rule rule ∷ above) r → KnowsRule above r
knows_above above rule r h = record { users = h.users; hosts = h.hosts; runas = h.runas; cmnd = h.cmnd }

each_above : (above : List Entry) (rule : Rule) (rules : List Rule)
    → AllByRecursion (KnowsRule (entries.Rule rule ∷ above)) rules → AllByRecursion (KnowsRule above) rules
each_above above rule [] h = tt
each_above above rule (r ∷ rules) h = (knows_above above rule r h.0, each_above above rule rules h.1)

rules_known : (above : List Entry) (rules : List Rule) → ArePlaced above (map entries.Rule rules) → AllByRecursion (KnowsRule above) rules
rules_known above [] h = tt
rules_known above (r ∷ rules) h = (h.0, each_above above r rules (rules_known (entries.Rule r ∷ above) rules h.1))

-- rules after a policy use only what its entries define
pub extended_known : (es : List Entry) (rules : List Rule) → IsPolicy (with_rules es rules) → AllByRecursion (KnowsRule (reverse es)) rules
extended_known es rules p =
    let P : List Entry → Type 0 = λ xs. ArePlaced xs (map entries.Rule rules) in
    rules_known (reverse es) rules (subst P (onto-nil es) (placed_behind [] es (map entries.Rule rules) p.placed))

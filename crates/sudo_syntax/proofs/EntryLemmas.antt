-- Entries that are added one by one to a policy: what is reached so far is a policy where the whole is.
use Rattle.std.proofs.Common.{◌≡◌, ℕ, List, [], ◌∷◌, ◌++◌, length, fold, refl, sym, ap, subst, ◌∙◌, append_assoc}
use Rattle.std.specs.List.{AllByRecursion, flat_map}
use Rattle.std.proofs.lemmas.List.{append-nil}
use Rattle.std.proofs.lemmas.List.Concat.{flat_map-append, flat_map-cons}
use Rattle.sudo_policy.specs.declared.entry.Signed.{Signed}
use Rattle.sudo_policy.specs.declared.entry.Item.{Item}
use Rattle.sudo_policy.specs.declared.entry.Entry.{Entry}
use Rattle.sudo_policy.specs.declared.entry.Entry.TheVariants as entries
use Rattle.sudo_policy.specs.declared.tree.CmndSpec.{CmndSpec}
use Rattle.sudo_policy.specs.declared.tree.Part.{Part}
use Rattle.sudo_policy.specs.declared.tree.Settings.{Settings}
use Rattle.sudo_policy.specs.declared.tree.Line.{Line}
use Rattle.sudo_syntax.specs.declared.token.Token.{Token}
use Rattle.sudo_syntax.specs.private.Tokens.{toks}
use Rattle.sudo_policy.specs.Grammar.{SpellsTree}
use Rattle.sudo_policy.specs.Spelling.{SpellsEntries}
use Rattle.sudo_policy.specs.Inheritance.{first_settings, with_spec, rule_with, rules_of, part_rules}
use Rattle.sudo_policy.specs.Policy.{IsEntry, IsPolicy}
use Rattle.sudo_policy.proofs.PolicyFronts.{all_front, all_rest, policy_front}

pub all_append : {X : Type 0} (P : X → Type 0) (xs ys : List X) → AllByRecursion P xs → AllByRecursion P ys → AllByRecursion P (xs ++ ys)
all_append P [] ys h k = k
all_append P (x ∷ xs) ys h k = (h.0, all_append P xs ys h.1 k)

pub front_is : (done here more all : List Entry) → done ++ (here ++ more) ≡ all → IsPolicy all → IsPolicy (done ++ here)
front_is done here more all e p = policy_front (done ++ here) more (subst IsPolicy (sym e ∙ sym (append_assoc done here more)) p)

-- ---- the tree of tokens

-- entries of one token or more are those of a tree
pub tree_from : (tokens : List Token) (es : List Entry) → (length tokens ≡ 0 → ⊥)
    → SpellsEntries (toks tokens) es → (line : Line) × SpellsTree (toks tokens) line
tree_from [] es some h = absurd (some refl)
tree_from (t ∷ ts) es some h = (h.0, h.1)

-- ---- what comes next of a user specification

rules_front : (users hosts : List (Signed (Item (List ℕ)))) (before : Settings) (front : List CmndSpec) (last : CmndSpec)
    → rules_of users hosts before (front ++ last ∷ []) ≡ rules_of users hosts before front ++ rules_of users hosts (fold with_spec before front) (last ∷ [])
rules_front users hosts before [] last = refl
rules_front users hosts before (s ∷ front) last =
    ap (λ es. entries.Rule (rule_with users hosts (with_spec before s) s.cmnd) ∷ es) (rules_front users hosts (with_spec before s) front last)

-- the rules of a list of commands are those of all before the last, and that of the last
pub rules_last : (users hosts : List (Signed (Item (List ℕ)))) (before : Settings) (front specs : List CmndSpec) (last : CmndSpec) → specs ≡ front ++ last ∷ []
    → rules_of users hosts before specs ≡ rules_of users hosts before front ++ rules_of users hosts (fold with_spec before front) (last ∷ [])
rules_last users hosts before front specs last specs_are = ap (rules_of users hosts before) specs_are ∙ rules_front users hosts before front last

-- where the rules of all before the last are added, what is still to add is that of the last
pub rules_behind :
    (users hosts : List (Signed (Item (List ℕ)))) (done so_far : List Entry) (before behind : Settings) (front specs : List CmndSpec) (last : CmndSpec)
    → specs ≡ front ++ last ∷ [] → behind ≡ fold with_spec before front → so_far ≡ done ++ rules_of users hosts before front
    → so_far ++ rules_of users hosts behind (last ∷ []) ≡ done ++ rules_of users hosts before specs
rules_behind users hosts done so_far before behind front specs last specs_are behind_is so_far_is =
    rw (behind_is, so_far_is, rules_last users hosts before front specs last specs_are) (append_assoc done (rules_of users hosts before front) _)

pub parts_next : (users : List (Signed (Item (List ℕ)))) (done : List Entry) (part : Part) (parts : List Part) (all : List Entry)
    → done ++ flat_map (part_rules users) (part ∷ parts) ≡ all → done ++ (part_rules users part ++ flat_map (part_rules users) parts) ≡ all
parts_next users done part parts all whole = rw flat_map-cons at whole

pub parts_are : (users : List (Signed (Item (List ℕ)))) (part : Part) (parts : List Part) → AllByRecursion IsEntry (flat_map (part_rules users) (part ∷ parts))
    → AllByRecursion IsEntry (part_rules users part) × AllByRecursion IsEntry (flat_map (part_rules users) parts)
parts_are users part parts are =
    let both = rw flat_map-cons at are in
    (all_front IsEntry (part_rules users part) _ both, all_rest IsEntry (part_rules users part) _ both)

-- the rules of the parts are those of all before the last, and those of the last
pub parts_last : (users : List (Signed (Item (List ℕ)))) (front parts : List Part) (last : Part)
    → parts ≡ front ++ last ∷ [] → flat_map (part_rules users) parts ≡ flat_map (part_rules users) front ++ part_rules users last
parts_last users front parts last parts_are =
    ap (flat_map (part_rules users)) parts_are ∙ flat_map-append (part_rules users) front (last ∷ [])
    ∙ ap (λ es. flat_map (part_rules users) front ++ es) (append-nil (part_rules users last))

-- where the rules of all before the last are added, what is still to add are those of the last
pub parts_behind : (users : List (Signed (Item (List ℕ)))) (done so_far : List Entry) (front parts : List Part) (last : Part) (specs : List CmndSpec)
    → parts ≡ front ++ last ∷ [] → specs ≡ last.specs → so_far ≡ done ++ flat_map (part_rules users) front
    → so_far ++ rules_of users last.hosts first_settings specs ≡ done ++ flat_map (part_rules users) parts
parts_behind users done so_far front parts last specs parts_are specs_are so_far_is =
    rw (specs_are, so_far_is, parts_last users front parts last parts_are) (append_assoc done (flat_map (part_rules users) front) _)

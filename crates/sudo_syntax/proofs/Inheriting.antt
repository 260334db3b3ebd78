-- What holds behind some commands of a list is the last that they give.
use Rattle.std.proofs.Common.{◌≡◌, ℕ, suc, List, [], ◌∷◌, ◌++◌, length, map, Option, Some, None, refl, sym, ap, ◌∙◌, subst}
use Rattle.std.specs.Prelude.{unwrap_or}
use Rattle.std.specs.Option.{option_or}
use Rattle.sudo_policy.specs.declared.entry.Signed.{Signed}
use Rattle.sudo_policy.specs.declared.entry.Item.{Item}
use Rattle.sudo_policy.specs.declared.entry.Entry.TheVariants as entries
use Rattle.sudo_policy.specs.declared.tree.CmndSpec.{CmndSpec}
use Rattle.sudo_policy.specs.declared.tree.Part.{Part}
use Rattle.sudo_policy.specs.declared.tree.Settings.{Settings}
use Rattle.sudo_policy.specs.Inheritance.{first_settings, with_spec, rule_with, rules_of, part_rules}
use Rattle.sudo_syntax.specs.Inherited.{LastGiven, Inherits, HasRule}

-- ---- the last one given

last_of : {X : Type 0} → List (Option X) → Option X
last_of [] = None
last_of (o ∷ more) = option_or (last_of more) o

one_more : {X : Type 0} (o : Option X) (more : List (Option X)) (last : Option X) → LastGiven more last → LastGiven (o ∷ more) (option_or last o)
one_more None more None none = (refl, none)
one_more (Some x) more None none = ([], more, refl, none)
one_more o more (Some y) at = (o ∷ at.0, at.1, ap (λ xs. o ∷ xs) at.2, at.3)

last_is : {X : Type 0} (given : List (Option X)) → LastGiven given (last_of given)
unfolding last_of
last_is [] = tt
last_is (o ∷ more) = one_more o more (last_of more) (last_is more)

unwrap_later : {X : Type 0} (later here : Option X) (d : X) → unwrap_or later (unwrap_or here d) ≡ unwrap_or (option_or later here) d
unwrap_later None here d = refl
unwrap_later (Some x) here d = refl

or_later : {X : Type 0} (later here before : Option X) → option_or later (option_or here before) ≡ option_or (option_or later here) before
or_later None here before = refl
or_later (Some x) here before = refl

or_none : {X : Type 0} (o : Option X) → option_or o None ≡ o
or_none None = refl
or_none (Some x) = refl

-- ---- what holds behind some commands

behind : Settings → List CmndSpec → Settings
behind before [] = before
behind before (s ∷ specs) = behind (with_spec before s) specs

after_runas : (h : Settings) (specs : List CmndSpec) → (behind h specs).runas ≡ unwrap_or (last_of (map (λ s. s.runas) specs)) h.runas
unfolding behind last_of
after_runas h [] = refl
after_runas h (s ∷ specs) = after_runas (with_spec h s) specs ∙ unwrap_later (last_of (map (λ c. c.runas) specs)) s.runas h.runas

behind_nopasswd : (h : Settings) (specs : List CmndSpec)
    → (behind h specs).tags.nopasswd ≡ unwrap_or (last_of (map (λ s. s.tags.nopasswd) specs)) h.tags.nopasswd
unfolding behind last_of
behind_nopasswd h [] = refl
behind_nopasswd h (s ∷ specs) =
    behind_nopasswd (with_spec h s) specs ∙ unwrap_later (last_of (map (λ c. c.tags.nopasswd) specs)) s.tags.nopasswd h.tags.nopasswd

behind_not_before : (h : Settings) (specs : List CmndSpec) → (behind h specs).not_before ≡ option_or (last_of (map (λ s. s.not_before) specs)) h.not_before
unfolding behind last_of
behind_not_before h [] = refl
behind_not_before h (s ∷ specs) = behind_not_before (with_spec h s) specs ∙ or_later (last_of (map (λ c. c.not_before) specs)) s.not_before h.not_before

behind_not_after : (h : Settings) (specs : List CmndSpec) → (behind h specs).not_after ≡ option_or (last_of (map (λ s. s.not_after) specs)) h.not_after
unfolding behind last_of
behind_not_after h [] = refl
behind_not_after h (s ∷ specs) = behind_not_after (with_spec h s) specs ∙ or_later (last_of (map (λ c. c.not_after) specs)) s.not_after h.not_after

inherits : (users hosts : List (Signed (Item (List ℕ)))) (specs : List CmndSpec) (s : CmndSpec)
    → Inherits specs (rule_with users hosts (behind first_settings specs) s.cmnd)
inherits users hosts specs s =
    let bound = λ (given : List (Option ℕ)) (held : Option ℕ) (e : held ≡ option_or (last_of given) None).
    subst (LastGiven given) (sym (e ∙ or_none (last_of given))) (last_is given) in
    record {
      runas = (last_of (map (λ c. c.runas) specs), last_is (map (λ c. c.runas) specs), after_runas first_settings specs);
      not_before = bound (map (λ c. c.not_before) specs) (behind first_settings specs).not_before (behind_not_before first_settings specs);
      not_after = bound (map (λ c. c.not_after) specs) (behind first_settings specs).not_after (behind_not_after first_settings specs);
      nopasswd = (last_of (map (λ c. c.tags.nopasswd) specs), last_is (map (λ c. c.tags.nopasswd) specs), behind_nopasswd first_settings specs);
    }

-- ---- the rule at a place

rule_behind : (users hosts : List (Signed (Item (List ℕ)))) (h : Settings) (before : List CmndSpec) (s : CmndSpec) (after : List CmndSpec)
    → rules_of users hosts h (before ++ s ∷ after) ≡ rules_of users hosts h before
    ++ entries.Rule (rule_with users hosts (behind h (before ++ s ∷ [])) s.cmnd) ∷ rules_of users hosts (behind h (before ++ s ∷ [])) after
unfolding behind
rule_behind users hosts h [] s after = refl
rule_behind users hosts h (c ∷ before) s after =
    ap (λ es. entries.Rule (rule_with users hosts (with_spec h c) c.cmnd) ∷ es) (rule_behind users hosts (with_spec h c) before s after)

rules_count : (users hosts : List (Signed (Item (List ℕ)))) (h : Settings) (specs : List CmndSpec) → length (rules_of users hosts h specs) ≡ length specs
rules_count users hosts h [] = refl
rules_count users hosts h (s ∷ specs) = ap suc (rules_count users hosts (with_spec h s) specs)

pub one_each : (users : List (Signed (Item (List ℕ)))) (part : Part) → length (part_rules users part) ≡ length part.specs
one_each users part = rules_count users part.hosts first_settings part.specs

pub has_rule : (users : List (Signed (Item (List ℕ)))) (part : Part) (before after : List CmndSpec) (s : CmndSpec)
    → part.specs ≡ before ++ s ∷ after → HasRule users part before s
has_rule users part before after s are = record {
  rules_before = rules_of users part.hosts first_settings before;
  rule = rule_with users part.hosts (behind first_settings (before ++ s ∷ [])) s.cmnd;
  rules_after = rules_of users part.hosts (behind first_settings (before ++ s ∷ [])) after;
  entries_are = ap (rules_of users part.hosts first_settings) are ∙ rule_behind users part.hosts first_settings before s after;
  place = rules_count users part.hosts first_settings before;
  users_are = refl;
  hosts_are = refl;
  cmnd_is = refl;
  inherits = inherits users part.hosts (before ++ s ∷ []) s;
}

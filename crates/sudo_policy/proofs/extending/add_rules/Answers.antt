use Rattle.std.proofs.Common.{◌≡◌, List, [], ◌∷◌, ◌++◌, map, ap, sym, subst, ◌∙◌, append_assoc}
use Rattle.std.specs.List.{AllByRecursion}
use Rattle.std.specs.Iterator.{Yields}
use Rattle.std.specs.Vec.Iter.{into_iter_items, into_iter_steps}
use Rattle.std.specs.declared.vec.IntoIter.{IntoIter}
use Rattle.std.proofs.lemmas.Result.{err_from_is_err_and}
use Rattle.std.proofs.lemmas.List.{map-append}
use Rattle.sudo_policy.specs.declared.entry.Rule.{Rule}
use Rattle.sudo_policy.specs.declared.entry.Entry.{Entry}
use Rattle.sudo_policy.specs.declared.entry.Entry.TheVariants as entries
use Rattle.sudo_policy.specs.declared.fault.LineFault.TheVariants as fault
use Rattle.sudo_policy.specs.Policy.{IsPolicy, IsRule}
use Rattle.sudo_policy.specs.Reading as reading
use Rattle.sudo_policy.proofs.PolicyFronts.{all_rest, policy_front}
use Rattle.sudo_policy.proofs.extending.add_rules.Goals as goal

-- what a loop over a vector has taken, and what is left
taken : {X Z : Type 0} (s : IntoIter X Z) (xs : List X) (t : IntoIter X Z)
    → Yields (into_iter_steps {X = X} {Z = Z}) s xs t → into_iter_items s ≡ xs ++ into_iter_items t
taken {X} {Z} s [] t y = ap (into_iter_items {X = X} {Z = Z}) y
taken s (x ∷ xs) t y = y.1.0 ∙ ap (λ ys. x ∷ ys) (taken y.0 xs t y.2)

-- the rules so far and one more, before the rest
rules_split : (base : List Entry) (seen rest : List Rule) (rule : Rule)
    → reading.with_rules base (seen ++ rule ∷ rest) ≡ (reading.with_rules base seen ++ entries.Rule rule ∷ []) ++ map entries.Rule rest
rules_split base seen rest rule =
    ap (λ (xs : List Entry). base ++ xs) (map-append entries.Rule seen (rule ∷ rest))
    ∙ sym (append_assoc base (map entries.Rule seen) (entries.Rule rule ∷ map entries.Rule rest))
    ∙ sym (append_assoc (reading.with_rules base seen) (entries.Rule rule ∷ []) (map entries.Rule rest))

pub returns-in_err-add-clause-only : goal.returns-in_err-add-clause-only
returns-in_err-add-clause-only c = λ whole.
    let base = c.args.draft.now.entries.items in
    let rule = c.in-Some.rule in
    let seen = c.loop-rule.yielded in
    let rest = into_iter_items c.next.new.self in
    let all : c.args.rules.items ≡ seen ++ rule ∷ rest =
    sym c.into_iter-rule-iterator.ensures.into_iter_gives.0 ∙ taken c.into_iter-rule-iterator.result seen c.loop-rule.rule-iterator c.loop-rule.yielded_by
    ∙ ap (λ (rs : List Rule). seen ++ rs) c.in-Some.ensures.steps.0 in
    let split = subst IsPolicy (rules_split base seen rest rule) (subst (λ (rs : List Rule). IsPolicy (reading.with_rules base rs)) all whole) in
    let front = policy_front (reading.with_rules base seen ++ entries.Rule rule ∷ []) (map entries.Rule rest) split in
    let here = subst (λ (xs : List Entry). IsPolicy (xs ++ entries.Rule rule ∷ [])) (sym c.loop-rule.invariant.entries) front in
    let p = err_from_is_err_and c.from_residual.result c.from_residual.ensures.1 in
    let memory : c.in_err-add.field-0.0 ≡ fault.NoMemory = c.in_err-add.ensures.only here in
    rw (p.1, p.2) memory

pub add-requires-clause-entry : goal.add-requires-clause-entry
add-requires-clause-entry c =
    let rest = c.in-Some.rule ∷ into_iter_items c.next.new.self in
    let all : c.args.rules.items ≡ c.loop-rule.yielded ++ rest =
    sym c.into_iter-rule-iterator.ensures.into_iter_gives.0 ∙ taken c.into_iter-rule-iterator.result c.loop-rule.yielded
    c.loop-rule.rule-iterator c.loop-rule.yielded_by ∙ ap (λ (rs : List Rule). c.loop-rule.yielded ++ rs) c.in-Some.ensures.steps.0 in
    (all_rest IsRule c.loop-rule.yielded rest (subst (AllByRecursion IsRule) all c.requires.rules)).0

pub loop-rule-preserved : goal.loop-rule-preserved
loop-rule-preserved c =
    let added = c.in_ok-add.ensures.found in
    let base = c.args.draft.now.entries.items in
    let seen = c.loop-rule.yielded in
    let one = entries.Rule c.in-Some.rule ∷ [] in
    record {
      draft = added.draft;
      entries =
          added.entries
          ∙ ap (λ (xs : List Entry). xs ++ one) c.loop-rule.invariant.entries
          ∙ append_assoc base (map entries.Rule seen) one
          ∙ ap (λ (xs : List Entry). base ++ xs) (sym (map-append entries.Rule seen (c.in-Some.rule ∷ [])));
    }

use Rattle.std.proofs.Common.{◌++◌, ◌∙◌, ap, sym, subst}
use Rattle.std.specs.List.{AllByRecursion, flat_map}
use Rattle.std.proofs.lemmas.Result.{err_from_is_err_and, on_ok_weaker}
use Rattle.sudo_policy.specs.Inheritance.{part_rules}
use Rattle.sudo_policy.specs.Policy.{IsEntry, IsPolicy}
use Rattle.sudo_policy.proofs.PolicyFronts.{all_front, all_rest}
use Rattle.sudo_syntax.proofs.EntryLemmas.{front_is, parts_last, parts_behind}
use Rattle.sudo_syntax.proofs.line_entries.add_parts.Goals as goal

pub add_front_parts-requires-clause-entries : goal.add_front_parts-requires-clause-entries
add_front_parts-requires-clause-entries c =
    let cut = parts_last c.args.users c.pop.new.self.items c.args.parts.items c.in-Some.last c.in-Some.ensures.items in
    all_front IsEntry (flat_map (part_rules c.args.users) c.pop.new.self.items) _ (subst (AllByRecursion IsEntry) cut c.requires.entries)

pub returns-in_err-add_front_parts-clause-only : goal.returns-in_err-add_front_parts-clause-only
returns-in_err-add_front_parts-clause-only c = λ all.
    let p = err_from_is_err_and c.from_residual.result c.from_residual.ensures.1 in
    let cut = parts_last c.args.users c.pop.new.self.items c.args.parts.items c.in-Some.last c.in-Some.ensures.items in
    rw (p.1, p.2)
    (c.in_err-add_front_parts.ensures.only (front_is c.args.draft.now.entries.items _ _ _ (ap (λ es. c.args.draft.now.entries.items ++ es) (sym cut)) all))

pub add_specs-requires-clause-entries : goal.add_specs-requires-clause-entries
add_specs-requires-clause-entries c =
    let cut = parts_last c.args.users c.pop.new.self.items c.args.parts.items c.in-Some.last c.in-Some.ensures.items in
    rw c.into_vec.ensures (all_rest IsEntry (flat_map (part_rules c.args.users) c.pop.new.self.items) _ (subst (AllByRecursion IsEntry) cut c.requires.entries))

pub returns-clause-found : goal.returns-clause-found
returns-clause-found c =
    let all = parts_behind c.args.users c.args.draft.now.entries.items _ c.pop.new.self.items c.args.parts.items c.in-Some.last
    c.into_vec.result.items c.in-Some.ensures.items c.into_vec.ensures c.in_ok-add_front_parts.ensures.found.entries in
    on_ok_weaker c.add_specs.result (λ adds. record { draft = adds.draft; entries = adds.entries ∙ all }) c.add_specs.ensures.found

pub returns-clause-only : goal.returns-clause-only
returns-clause-only c = λ policy.
    let all = parts_behind c.args.users c.args.draft.now.entries.items _ c.pop.new.self.items c.args.parts.items c.in-Some.last
    c.into_vec.result.items c.in-Some.ensures.items c.into_vec.ensures c.in_ok-add_front_parts.ensures.found.entries in
    c.add_specs.ensures.only (subst IsPolicy (sym all) policy)

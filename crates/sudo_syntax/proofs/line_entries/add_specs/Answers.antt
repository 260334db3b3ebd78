use Rattle.std.proofs.Common.{◌++◌, ◌∙◌, ap, sym, subst}
use Rattle.std.specs.List.{AllByRecursion}
use Rattle.std.proofs.lemmas.Result.{err_from_is_err_and, on_ok_weaker}
use Rattle.sudo_policy.specs.Inheritance.{rules_of, first_settings}
use Rattle.sudo_policy.specs.Policy.{IsEntry, IsPolicy}
use Rattle.sudo_policy.proofs.PolicyFronts.{all_front, all_rest}
use Rattle.sudo_syntax.proofs.EntryLemmas.{front_is, rules_last, rules_behind}
use Rattle.sudo_syntax.proofs.line_entries.add_specs.Goals as goal

pub add_front-requires-clause-entries : goal.add_front-requires-clause-entries
add_front-requires-clause-entries c =
    let cut = rules_last c.args.users c.args.hosts first_settings c.pop.new.self.items c.args.specs.items c.in-Some.last c.in-Some.ensures.items in
    all_front IsEntry (rules_of c.args.users c.args.hosts first_settings c.pop.new.self.items) _ (subst (AllByRecursion IsEntry) cut c.requires.entries)

pub returns-in_err-held-clause-only : goal.returns-in_err-held-clause-only
returns-in_err-held-clause-only c = λ all.
    let p = err_from_is_err_and c.from_residual.result c.from_residual.ensures.1 in
    let cut = rules_last c.args.users c.args.hosts first_settings c.pop.new.self.items c.args.specs.items c.in-Some.last c.in-Some.ensures.items in
    rw (p.1, p.2) (c.in_err-held.ensures.only (front_is c.args.draft.now.entries.items _ _ _ (ap (λ es. c.args.draft.now.entries.items ++ es) (sym cut)) all))

pub add_last-requires-clause-entries : goal.add_last-requires-clause-entries
add_last-requires-clause-entries c =
    let cut = rules_last c.args.users c.args.hosts first_settings c.pop.new.self.items c.args.specs.items c.in-Some.last c.in-Some.ensures.items in
    rw c.in_ok-held.ensures.after
    (all_rest IsEntry (rules_of c.args.users c.args.hosts first_settings c.pop.new.self.items) _ (subst (AllByRecursion IsEntry) cut c.requires.entries))

pub returns-clause-found : goal.returns-clause-found
returns-clause-found c =
    let front = c.in_ok-held.ensures in
    let all = rules_behind c.args.users c.args.hosts c.args.draft.now.entries.items _ first_settings c.in_ok-held.held
    c.pop.new.self.items c.args.specs.items c.in-Some.last c.in-Some.ensures.items front.after front.found.entries in
    on_ok_weaker c.add_last.result (λ adds. record { draft = adds.draft; entries = adds.entries ∙ all }) c.add_last.ensures.found

pub returns-clause-only : goal.returns-clause-only
returns-clause-only c = λ policy.
    let front = c.in_ok-held.ensures in
    let all = rules_behind c.args.users c.args.hosts c.args.draft.now.entries.items _ first_settings c.in_ok-held.held
    c.pop.new.self.items c.args.specs.items c.in-Some.last c.in-Some.ensures.items front.after front.found.entries in
    c.add_last.ensures.only (subst IsPolicy (sym all) policy)

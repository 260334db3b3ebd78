use Rattle.std.proofs.Common.{IfOk, ◌≡◌, List, ◌++◌, sym, subst, ap, ◌∙◌}
use Rattle.std.specs.List.{All}
use Rattle.std.proofs.lemmas.List.Elements.{All-from_recursion}
use Rattle.sudo_words.specs.declared.cmnd.Cmnd.{Cmnd}
use Rattle.sudo_beyond.specs.Cases.{dirs, AreCommandCases}
use Rattle.sudo_beyond.specs.private.Gathering.{IsLawfulDir}
use Rattle.sudo_beyond.specs.Standing.{commands}
use Rattle.sudo_beyond.proofs.PolicyForms.{are_lawful, lawful_dirs}
use Rattle.sudo_beyond.proofs.cases.command_cases.Goals as goal

pub run_cases-requires : goal.run_cases-requires
run_cases-requires c =
    let a = c.args.a.now in
    let b = c.args.b.now in
    let with_a : c.push_commands.new.cmnds.items ≡ commands a =
    c.in_ok-push_commands.ensures.commands ∙ ap (λ (xs : List Cmnd). xs ++ commands a) c.new-cmnds.ensures.items in
    let whole : c.deref.result.now ≡ commands a ++ commands b =
    c.deref.ensures.value ∙ c.in_ok-push_commands-2.ensures.commands ∙ ap (λ (xs : List Cmnd). xs ++ commands b) with_a in
    subst (λ (xs : List Cmnd). All IsLawfulDir (dirs xs)) (sym whole)
    (All-from_recursion IsLawfulDir (dirs (commands a ++ commands b))
    (lawful_dirs (commands a ++ commands b) (are_lawful a b c.in_ok-push_commands.ensures.policy.each c.in_ok-push_commands-2.ensures.policy.each)))

pub returns-clause-cases : goal.returns-clause-cases
returns-clause-cases c =
    let a = c.args.a.now in
    let b = c.args.b.now in
    let with_a : c.push_commands.new.cmnds.items ≡ commands a =
    c.in_ok-push_commands.ensures.commands ∙ ap (λ (xs : List Cmnd). xs ++ commands a) c.new-cmnds.ensures.items in
    let whole : c.deref.result.now ≡ commands a ++ commands b =
    c.deref.ensures.value ∙ c.in_ok-push_commands-2.ensures.commands ∙ ap (λ (xs : List Cmnd). xs ++ commands b) with_a in
    subst (λ (xs : List Cmnd). IfOk c.run_cases.result (AreCommandCases xs)) whole c.run_cases.ensures

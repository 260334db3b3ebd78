use Rattle.std.proofs.Common.{◌≡◌, List, ℕ, [], ◌∷◌, ◌++◌, ap, ◌∙◌, sym, subst}
use Rattle.std.specs.List.Sorted.{IsStrictlySortedBy}
use Rattle.sudo_beyond.specs.declared.run.Run.{Run}
use Rattle.sudo_words.specs.Lists.{args_order, IsEachOnce}
use Rattle.sudo_beyond.specs.Cases.{run_of, ArePathCases}
use Rattle.sudo_beyond.specs.private.Gathering.{IsFreeArgs, Adds}
use Rattle.sudo_beyond.proofs.CmndCases.{args_decides}
use Rattle.std.proofs.lemmas.Result.{on_ok_weaker}
use Rattle.sudo_beyond.proofs.Listings.{listed_once}
use Rattle.sudo_beyond.proofs.RunLemmas.{path_cases}
use Rattle.sudo_beyond.proofs.runs.push_path.Goals as goal

pub in_order-lists-requires : goal.in_order-lists-requires
in_order-lists-requires c = λ x y same. sym ((args_decides y x).0 same)

pub free_args-requires : goal.free_args-requires
free_args-requires c = subst (λ (xs : List (List (List ℕ))). IsStrictlySortedBy args_order xs) (sym c.deref.ensures.value) c.in_order-lists.ensures.in_order

pub returns : goal.returns
returns c = λ cmnds table.
    let path : List ℕ = c.args.path.now in
    let old : List Run = c.args.runs.now.items in
    let lists : List (List (List ℕ)) = c.in_order-lists.result.items in
    let listed = subst (λ (xs : List (List (List ℕ))). IsEachOnce args_order xs lists) c.in_ok-lists_with.ensures c.in_order-lists.ensures in
    let once = listed_once cmnds c.args.listed.now path lists table listed in
    let free = subst (λ (xs : List (List (List ℕ))). IsFreeArgs xs c.in_ok-others.others) c.deref.ensures.value c.in_ok-others.ensures in
    let one : c.push_run.new.runs.items ≡ old ++ run_of path [] ∷ [] =
    c.in_ok-push_run.ensures ∙ ap (λ (args : List (List ℕ)). old ++ run_of path args ∷ []) (c.new-2.ensures ∙ c.new.ensures.items) in
    on_ok_weaker {P = c.push_run-2.new.runs.items ≡ c.push_each.new.runs.items ++ run_of path c.in_ok-others.others ∷ []}
    {Q = Adds (ArePathCases cmnds path) old c.push_run-2.new.runs.items} c.push_run-2.result (path_cases cmnds path lists c.in_ok-others.others old
    c.push_run.new.runs.items c.push_each.new.runs.items c.push_run-2.new.runs.items once free one c.in_ok-push_each.ensures) c.push_run-2.ensures

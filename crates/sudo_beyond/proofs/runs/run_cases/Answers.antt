use Rattle.std.proofs.Common.{List, ℕ, sym, subst}
use Rattle.std.specs.Prelude.{codes}
use Rattle.std.specs.List.{All}
use Rattle.std.specs.List.Sorted.{IsStrictlySortedBy}
use Rattle.sudo_beyond.specs.declared.run.Run.{Run}
use Rattle.sudo_words.specs.Lists.{text_order, IsEachOnce, AreParts}
use Rattle.sudo_beyond.specs.Cases.{dirs, ArePathCases, IsFreshFile, AreCommandCases}
use Rattle.sudo_beyond.specs.private.Gathering.{IsLawfulDir, Adds, AreListings, run_order}
use Rattle.sudo_beyond.proofs.CmndCases.{files_in_root}
use Rattle.sudo_beyond.proofs.Listings.{runs_exact}
use Rattle.sudo_beyond.proofs.RunLemmas.{command_cases, all_listed}
use Rattle.sudo_beyond.proofs.runs.run_cases.Goals as goal

pub in_order-listed-requires : goal.in_order-listed-requires
in_order-listed-requires c = runs_exact

pub push_paths-requires : goal.push_paths-requires
push_paths-requires c = subst (λ (runs : List Run). IsStrictlySortedBy run_order runs) (sym c.deref-2.ensures.value) c.in_order-listed.ensures.in_order

pub push_directories-requires-clause-lawful : goal.push_directories-requires-clause-lawful
push_directories-requires-clause-lawful c =
    let once =
    subst (λ (xs : List (List ℕ)). IsEachOnce text_order xs c.in_order-directories.result.items) c.in_ok-dirs.ensures c.in_order-directories.ensures in
    subst (λ (xs : List (List ℕ)). All IsLawfulDir xs) (sym c.deref-3.ensures.value)
    (all_listed IsLawfulDir text_order (dirs c.args.cmnds.now) c.in_order-directories.result.items once c.requires)

pub push_directories-requires-clause-sorted : goal.push_directories-requires-clause-sorted
push_directories-requires-clause-sorted c =
    subst (λ (xs : List (List ℕ)). IsStrictlySortedBy text_order xs) (sym c.deref-4.ensures.value) c.in_order-files.ensures.in_order

pub push_fresh-requires-clause-form : goal.push_fresh-requires-clause-form
push_fresh-requires-clause-form c = files_in_root

pub push_fresh-requires-clause-sorted : goal.push_fresh-requires-clause-sorted
push_fresh-requires-clause-sorted c =
    subst (λ (xs : List (List ℕ)). IsStrictlySortedBy text_order xs) (sym c.deref-5.ensures.value) c.in_order-files.ensures.in_order

pub returns : goal.returns
returns c =
    let cmnds = c.args.cmnds.now in
    let files : List (List ℕ) = c.in_order-files.result.items in
    let directories : List (List ℕ) = c.in_order-directories.result.items in
    let once_files = subst (λ (xs : List (List ℕ)). IsEachOnce text_order xs files) c.in_ok-paths.ensures c.in_order-files.ensures in
    let once_directories = subst (λ (xs : List (List ℕ)). IsEachOnce text_order xs directories) c.in_ok-dirs.ensures c.in_order-directories.ensures in
    let table = subst (λ (runs : List Run). AreListings cmnds runs) (sym c.deref-2.ensures.value)
    (subst (λ (runs : List Run). IsEachOnce run_order runs c.in_order-listed.result.items) c.in_ok-listings.ensures c.in_order-listed.ensures) in
    let one : List Run = c.push_paths.new.runs.items in
    let two : List Run = c.push_directories.new.runs.items in
    let three : List Run = c.push_fresh.new.runs.items in
    let first = subst (λ (xs : List (List ℕ)). Adds (AreParts (ArePathCases cmnds) xs) c.new-runs.result.items one) c.deref.ensures.value
    (c.in_ok-push_paths.ensures cmnds table) in
    let second = subst (λ (xs : List (List ℕ)). Adds (AreParts (IsFreshFile files) xs) one two) c.deref-3.ensures.value
    (subst (λ (xs : List (List ℕ)). Adds (AreParts (IsFreshFile xs) c.deref-3.result.now) one two) c.deref-4.ensures.value c.in_ok-push_directories.ensures) in
    let third = subst (λ (xs : List (List ℕ)). Adds (IsFreshFile xs (codes "/")) two three) c.deref-5.ensures.value c.in_ok-push_fresh.ensures in
    subst (λ (xs : List Run). AreCommandCases cmnds xs) (sym c.new.ensures)
    (command_cases cmnds files directories c.new-runs.result.items one two three once_files once_directories c.new-runs.ensures.items first second third)

-- There is one list of each kind of case.
use Rattle.std.proofs.Common.{◌≡◌, ℕ, Option, Some, None, List, [], ◌∷◌, ◌++◌, map, sym, ap, ◌∙◌, subst}
use Rattle.std.specs.Prelude.{codes}
use Rattle.std.specs.Cmp.Lexicographic.{lists_total, nat_list_cmp_total}
use Rattle.std.proofs.lemmas.Cmp.{nat_cmp_total}
use Rattle.sudo_words.specs.declared.cmnd.Cmnd.{Cmnd}
use Rattle.sudo_policy.specs.declared.entry.Entry.{Entry}
use Rattle.sudo_beyond.specs.declared.cases.Cases.{Cases}
use Rattle.sudo_beyond.specs.declared.run.Run.{Run}
use Rattle.sudo_decide.specs.declared.scope.Scope.{Scope}
use Rattle.sudo_beyond.specs.Standing.{users, hosts, runas, commands}
use Rattle.sudo_words.specs.Lists.{args_order, AreParts}
use Rattle.sudo_beyond.specs.Cases.{has_word, has_args, args_with, paths, dirs, run_of, AreNameCases, ArePathCases, IsFreshFile, AreCommandCases, AreCases}
use Rattle.sudo_words.proofs.Lists.{one_parts}
use Rattle.sudo_words.proofs.OneSorted.{one_once}
use Rattle.sudo_beyond.proofs.Others.{one_first}

-- ---- names

one_names : (fixed : Option (List ℕ)) (standing xs ys : List (List ℕ)) → AreNameCases fixed standing xs → AreNameCases fixed standing ys → xs ≡ ys
one_names (Some name) standing xs ys are also = are ∙ sym also
one_names None standing xs ys are also =
    let names = one_once _ nat_list_cmp_total standing are.names also.names are.names_are also.names_are in
    let others = one_first (has_word standing) are.other_name also.other_name are.other_is also.other_is in
    are.cases_are
    ∙ ap (λ (zs : List (List ℕ)). zs ++ are.other_name ∷ []) names
    ∙ ap (λ (w : List ℕ). also.names ++ w ∷ []) others
    ∙ sym also.cases_are

-- ---- paths with arguments

one_path_cases : (cmnds : List Cmnd) (path : List ℕ) (xs ys : List Run) → ArePathCases cmnds path xs → ArePathCases cmnds path ys → xs ≡ ys
one_path_cases cmnds path xs ys are also =
    let lists = one_once args_order (lists_total nat_list_cmp_total) (args_with path cmnds) are.lists also.lists are.lists_are also.lists_are in
    let others = one_first (λ w. has_args (args_with path cmnds) (w ∷ [])) are.other_arg also.other_arg are.other_is also.other_is in
    are.runs_are
    ∙ ap (λ (given : List (List (List ℕ))). run_of path [] ∷ map (run_of path) given ++ run_of path (are.other_arg ∷ []) ∷ []) lists
    ∙ ap (λ (w : List ℕ). run_of path [] ∷ map (run_of path) also.lists ++ run_of path (w ∷ []) ∷ []) others
    ∙ sym also.runs_are

one_fresh : (taken : List (List ℕ)) (dir : List ℕ) (xs ys : List Run) → IsFreshFile taken dir xs → IsFreshFile taken dir ys → xs ≡ ys
one_fresh taken dir xs ys are also =
    are.runs_are ∙ ap (λ (w : List ℕ). run_of (dir ++ w) [] ∷ []) (one_first (λ w. has_word taken (dir ++ w)) are.name also.name are.name_is also.name_is)
    ∙ sym also.runs_are

one_command_cases : (cmnds : List Cmnd) (xs ys : List Run) → AreCommandCases cmnds xs → AreCommandCases cmnds ys → xs ≡ ys
one_command_cases cmnds xs ys are also =
    let files = one_once _ nat_list_cmp_total (paths cmnds) are.files also.files are.files_are also.files_are in
    let directories = one_once _ nat_list_cmp_total (dirs cmnds) are.directories also.directories are.directories_are also.directories_are in
    let of_files =
    one_parts (ArePathCases cmnds) (one_path_cases cmnds) also.files are.of_files also.of_files
    (subst (λ (fs : List (List ℕ)). AreParts (ArePathCases cmnds) fs are.of_files) files are.of_files_are) also.of_files_are in
    let of_directories =
    one_parts (IsFreshFile (paths cmnds)) (one_fresh (paths cmnds)) also.directories are.of_directories also.of_directories
    (subst (λ (ds : List (List ℕ)). AreParts (IsFreshFile (paths cmnds)) ds are.of_directories) directories are.of_directories_are) also.of_directories_are in
    let elsewhere = one_fresh (paths cmnds) (codes "/") are.elsewhere also.elsewhere are.elsewhere_is also.elsewhere_is in
    are.runs_are
    ∙ ap (λ (rs : List Run). rs ++ are.of_directories ++ are.elsewhere) of_files
    ∙ ap (λ (rs : List Run). also.of_files ++ rs ++ are.elsewhere) of_directories
    ∙ ap (λ (rs : List Run). also.of_files ++ also.of_directories ++ rs) elsewhere
    ∙ sym also.runs_are

-- ---- the five

pub one_list_of_each : (s : Scope) (a b : List Entry) (c d : Cases) → AreCases s a b c → AreCases s a b d → c ≡ d
one_list_of_each s a b c d are also =
    let by_user : c.users ≡ d.users = one_names s.user (users a ++ users b) c.users d.users are.users also.users in
    let by_host : c.hosts ≡ d.hosts = one_names s.host (hosts a ++ hosts b) c.hosts d.hosts are.hosts also.hosts in
    let by_target : c.targets ≡ d.targets = one_names s.runas (runas a ++ runas b) c.targets d.targets are.targets also.targets in
    let by_run : c.runs ≡ d.runs = one_command_cases (commands a ++ commands b) c.runs d.runs are.runs also.runs in
    let by_moment : c.moments ≡ d.moments = one_once _ nat_cmp_total _ c.moments d.moments are.moments also.moments in
    λ i. record { users = by_user i; hosts = by_host i; targets = by_target i; runs = by_run i; moments = by_moment i }

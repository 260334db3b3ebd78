-- For each part of an invocation its list has a case that everything in either policy answers alike.
use Rattle.std.proofs.Common.{◌≡◌, ℕ, ◌≤◌, true, List, ◌++◌, length}
use Rattle.std.specs.List.{AllByRecursion, Contains}
use Rattle.sudo_words.specs.Word.{is_name, is_host_name, is_file_path, is_arg}
use Rattle.sudo_words.specs.Moment.{IsMoment}
use Rattle.sudo_policy.specs.declared.entry.Entry.{Entry}
use Rattle.sudo_policy.specs.Policy.{IsPolicy}
use Rattle.sudo_decide.specs.Reach.{rules_in}
use Rattle.sudo_beyond.specs.declared.cases.Cases.{Cases}
use Rattle.sudo_decide.specs.declared.scope.Scope.{Scope}
use Rattle.sudo_beyond.specs.Standing.{users, hosts, runas, commands}
use Rattle.sudo_beyond.specs.Beyond.{Agrees}
use Rattle.sudo_beyond.specs.Cases.{AreCases, run_of}
use Rattle.sudo_beyond.specs.Alike.{AlikeNames, AlikeCmnds, AlikeMoments}
use Rattle.sudo_beyond.proofs.CmndCases.{cmnd_stands}
use Rattle.sudo_beyond.proofs.Counting.{is_counted}
use Rattle.sudo_beyond.proofs.Listed.{name_listed, run_listed, moment_listed}
use Rattle.sudo_beyond.proofs.MomentCases.{moment_stands}
use Rattle.sudo_beyond.proofs.NameCases.{name_stands, other_name, other_host}
use Rattle.sudo_beyond.proofs.PolicyForms.{are_lawful, lawful_dirs}

module _ (s : Scope) (a b : List Entry) (c : Cases) (is_a : IsPolicy a) (is_b : IsPolicy b) (are : AreCases s a b c) where
  pub user_has_a_case : (x : List ℕ) → is_name x ≡ true → Agrees s.user x → (y : List ℕ) × Contains c.users y × AlikeNames (users a ++ users b) x y
  user_has_a_case x is agrees =
      let found = name_stands is_name other_name s.user (users a ++ users b) x (is_counted a b is_a is_b).users is agrees in
      (found.name, name_listed s.user (users a ++ users b) c.users found.name are.users found.is_case, found.alike)

  pub host_has_a_case : (x : List ℕ) → is_host_name x ≡ true → Agrees s.host x → (y : List ℕ) × Contains c.hosts y × AlikeNames (hosts a ++ hosts b) x y
  host_has_a_case x is agrees =
      let found = name_stands is_host_name other_host s.host (hosts a ++ hosts b) x (is_counted a b is_a is_b).hosts is agrees in
      (found.name, name_listed s.host (hosts a ++ hosts b) c.hosts found.name are.hosts found.is_case, found.alike)

  pub target_has_a_case : (x : List ℕ) → is_name x ≡ true → Agrees s.runas x → (y : List ℕ) × Contains c.targets y × AlikeNames (runas a ++ runas b) x y
  target_has_a_case x is agrees =
      let found = name_stands is_name other_name s.runas (runas a ++ runas b) x (is_counted a b is_a is_b).runas is agrees in
      (found.name, name_listed s.runas (runas a ++ runas b) c.targets found.name are.targets found.is_case, found.alike)

  pub command_has_a_case : (path : List ℕ) (args : List (List ℕ)) → is_file_path path ≡ true → AllByRecursion (λ arg. is_arg arg ≡ true) args → length args ≤ 64
      → (other : List ℕ) × (others : List (List ℕ)) × Contains c.runs (run_of other others) × AlikeCmnds (commands a ++ commands b) path args other others
  command_has_a_case path args is are_args few =
      let found = cmnd_stands (commands a ++ commands b) (is_counted a b is_a is_b).commands
      (lawful_dirs (commands a ++ commands b) (are_lawful a b is_a.each is_b.each)) path args is are_args few in
      (found.file, found.given, run_listed (commands a ++ commands b) c.runs found.file found.given are.runs found.is_case, found.alike)

  pub moment_has_a_case : (t : ℕ) → IsMoment t → (u : ℕ) × Contains c.moments u × AlikeMoments (rules_in a ++ rules_in b) t u
  moment_has_a_case t is =
      let found = moment_stands (rules_in a ++ rules_in b) t is in
      (found.moment, moment_listed (rules_in a ++ rules_in b) c.moments found.moment are.moments found.is_case, found.alike)

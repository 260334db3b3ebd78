-- The cases suffice: if none of them is a gap, nothing lies beyond; and each of them that is a gap lies beyond.
use Rattle.std.proofs.Common.{◌≡◌, ℕ, true, Option, Some, None, MatchOption, List, [], ◌∷◌, ◌++◌, map, sym, subst}
use Rattle.std.specs.List.{AllByRecursion, Contains, flat_map}
use Rattle.std.proofs.lemmas.List.Elements.{All-contains, All-from_recursion, Contains-append_left, Contains-append_right, Contains-push}
use Rattle.sudo_words.specs.Word.{is_name, is_host_name}
use Rattle.sudo_words.specs.Moment.{IsMoment}
use Rattle.sudo_policy.specs.declared.entry.Entry.{Entry}
use Rattle.sudo_policy.specs.Policy.{IsPolicy}
use Rattle.sudo_decide.specs.declared.invocation.Invocation.{Invocation}
use Rattle.sudo_decide.specs.Reach.{rules_in}
use Rattle.sudo_beyond.specs.declared.cases.Cases.{Cases}
use Rattle.sudo_beyond.specs.declared.run.Run.{Run}
use Rattle.sudo_decide.specs.declared.scope.Scope.{Scope}
use Rattle.sudo_beyond.specs.Standing.{users, hosts, runas, commands}
use Rattle.sudo_beyond.specs.Beyond.{Agrees, IsScope, IsInvocation, IsInScope, IsGap, LiesBeyond, SomethingBeyond}
use Rattle.sudo_beyond.specs.Cases.{AreCases, invocation_of, of_run, of_target, of_host, of_user, invocations}
use Rattle.sudo_beyond.specs.Answer.{FirstOf, IsFirstWith}
use Rattle.sudo_beyond.proofs.AlikeLemmas.{all_weaker, all_flat}
use Rattle.sudo_beyond.proofs.Counting.{is_counted}
use Rattle.sudo_beyond.proofs.Everywhere.{beyond_at_case}
use Rattle.sudo_beyond.proofs.Gaps.{NoGap}
use Rattle.sudo_beyond.proofs.Listed.{IsRun, name_listed, names_formed, run_listed, runs_formed, moment_listed, moments_formed}
use Rattle.sudo_words.proofs.Lists.{contains_map}
use Rattle.sudo_beyond.proofs.NameCases.{other_name, other_host}
use Rattle.sudo_beyond.proofs.PolicyForms.{are_users, are_hosts, are_targets, are_lawful, are_turns}

-- ---- combinations

each_in : {X Y : Type 0} (f : X → List Y) (xs : List X) → AllByRecursion (λ x. (y : Y) → Contains (f x) y → Contains (flat_map f xs) y) xs
each_in f [] = tt
each_in {X} {Y} f (x ∷ xs) = (
  λ y there. Contains-append_left (f x) (flat_map f xs) y there,
  all_weaker (λ z. (y : Y) → Contains (f z) y → Contains (flat_map f xs) y) (λ z. (y : Y) → Contains (f z) y → Contains (f x ++ flat_map f xs) y) xs
      (λ z goes y there. Contains-append_right (f x) (flat_map f xs) y (goes y there))
      (each_in f xs),
)

contains_flat : {X Y : Type 0} (f : X → List Y) (xs : List X) (x : X) (y : Y) → Contains xs x → Contains (f x) y → Contains (flat_map f xs) y
contains_flat {X} {Y} f xs x y there here =
    All-contains (λ z. (w : Y) → Contains (f z) w → Contains (flat_map f xs) w) xs x
    (All-from_recursion (λ z. (w : Y) → Contains (f z) w → Contains (flat_map f xs) w) xs (each_in f xs)) there y here

all_of_map : {X Y : Type 0} (P : Y → Type 0) (f : X → Y) (xs : List X) → AllByRecursion (λ x. P (f x)) xs → AllByRecursion P (map f xs)
all_of_map P f [] all = tt
all_of_map P f (x ∷ xs) all = (all.0, all_of_map P f xs all.1)

-- ---- each case of two policies is among the combinations

pub at_a_case : (s : Scope) (a b : List Entry) (c : Cases) → IsPolicy a → IsPolicy b → AreCases s a b c → SomethingBeyond s a b
    → (i : Invocation) × Contains (invocations c) i × LiesBeyond s a b i
at_a_case s a b c is_a is_b are beyond =
    let at = beyond_at_case s a b is_a is_b beyond in
    let i = at.0 in
    let case = at.1 in
    let run : Run = record { path = i.path; args = i.args } in
    let moment = moment_listed (rules_in a ++ rules_in b) c.moments i.at are.moments case.at in
    let with_run = contains_map (invocation_of i.user i.host i.runas run) c.moments i.at moment in
    let with_target =
    contains_flat (of_run c i.user i.host i.runas) c.runs run i (run_listed (commands a ++ commands b) c.runs i.path i.args are.runs case.cmnd) with_run in
    let with_host = contains_flat (of_target c i.user i.host) c.targets i.runas i
    (name_listed s.runas (runas a ++ runas b) c.targets i.runas are.targets case.runas) with_target in
    let with_user =
    contains_flat (of_host c i.user) c.hosts i.host i (name_listed s.host (hosts a ++ hosts b) c.hosts i.host are.hosts case.host) with_host in (
      i,
      contains_flat (of_user c) c.users i.user i (name_listed s.user (users a ++ users b) c.users i.user are.users case.user) with_user,
      at.2,
    )

pub nothing_beyond : (s : Scope) (a b : List Entry) (c : Cases) → IsPolicy a → IsPolicy b
    → AreCases s a b c → NoGap (IsGap a b) (invocations c) → SomethingBeyond s a b → ⊥
nothing_beyond s a b c is_a is_b are none beyond =
    let at = at_a_case s a b c is_a is_b are beyond in
    All-contains (λ i. IsGap a b i → ⊥) (invocations c) at.0 (All-from_recursion (λ i. IsGap a b i → ⊥) (invocations c) none) at.1 at.2.gap

-- ---- each combination is an invocation in the scope

module _ (s : Scope) (a b : List Entry) (c : Cases) (is_a : IsPolicy a) (is_b : IsPolicy b) (is_s : IsScope s) (are : AreCases s a b c) where
  abbrev InScope : Invocation → Type 0
  InScope i = IsInvocation i × IsInScope s i

  abbrev IsUser : List ℕ → Type 0
  IsUser name = (is_name name ≡ true) × Agrees s.user name

  abbrev IsHost : List ℕ → Type 0
  IsHost name = (is_host_name name ≡ true) × Agrees s.host name

  abbrev IsTarget : List ℕ → Type 0
  IsTarget name = (is_name name ≡ true) × Agrees s.runas name

  formed : (user host target : List ℕ) (run : Run) (at : ℕ) → IsUser user → IsHost host
      → IsTarget target → IsRun run → IsMoment at → InScope (invocation_of user host target run at)
  formed user host target run at is_user is_host is_target is_run is_at = (
    record { user = is_user.0; host = is_host.0; runas = is_target.0; path = is_run.0; args = is_run.1.0; few_args = is_run.1.1; at = is_at },
    record { user = is_user.1; host = is_host.1; runas = is_target.1 },
  )

  pub all_in_scope : AllByRecursion InScope (invocations c)
  all_in_scope =
      let counted = is_counted a b is_a is_b in
      let are_named =
      names_formed is_name other_name s.user (users a ++ users b) c.users counted.users are.users is_s.user (are_users a b is_a.each is_b.each) in
      let are_hosted =
      names_formed is_host_name other_host s.host (hosts a ++ hosts b) c.hosts counted.hosts are.hosts is_s.host (are_hosts a b is_a.each is_b.each) in
      let are_aimed =
      names_formed is_name other_name s.runas (runas a ++ runas b) c.targets counted.runas are.targets is_s.runas (are_targets a b is_a.each is_b.each) in
      let are_run = runs_formed (commands a ++ commands b) counted.commands (are_lawful a b is_a.each is_b.each) c.runs are.runs in
      let are_timed = moments_formed (rules_in a ++ rules_in b) c.moments are.moments (are_turns a b is_a.each is_b.each) in
      all_flat InScope (of_user c) c.users
      (all_weaker IsUser (λ user. AllByRecursion InScope (of_user c user)) c.users
      (λ user is_user. all_flat InScope (of_host c user) c.hosts
      (all_weaker IsHost (λ host. AllByRecursion InScope (of_host c user host)) c.hosts
      (λ host is_host. all_flat InScope (of_target c user host) c.targets
      (all_weaker IsTarget (λ target. AllByRecursion InScope (of_target c user host target)) c.targets
      (λ target is_target. all_flat InScope (of_run c user host target) c.runs
      (all_weaker IsRun (λ run. AllByRecursion InScope (of_run c user host target run)) c.runs
      (λ run is_run. all_of_map InScope (invocation_of user host target run) c.moments
      (all_weaker IsMoment (λ at. InScope (invocation_of user host target run at)) c.moments
      (λ at is_at. formed user host target run at is_user is_host is_target is_run is_at) are_timed))
      are_run)) are_aimed)) are_hosted)) are_named)

  pub lies_beyond : (i : Invocation) → IsFirstWith (IsGap a b) (invocations c) i → LiesBeyond s a b i
  lies_beyond i first =
      let there : Contains (invocations c) i =
      subst (λ (is : List Invocation). Contains is i) (sym first.list_is)
      (Contains-append_right first.before (i ∷ first.after) i (Contains-append_left (i ∷ []) first.after i (Contains-push [] i))) in
      let in_scope = All-contains InScope (invocations c) i (All-from_recursion InScope (invocations c) all_in_scope) there in
      record { form = in_scope.0; scope = in_scope.1; gap = first.here }

  pub exact : (found : Option Invocation) → FirstOf (IsGap a b) (invocations c) found → MatchOption found (SomethingBeyond s a b → ⊥) (LiesBeyond s a b)
  exact None none = nothing_beyond s a b c is_a is_b are none
  exact (Some i) first = lies_beyond i first

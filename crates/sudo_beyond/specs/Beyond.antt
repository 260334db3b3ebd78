-- What one policy allows beyond another: invocations that the first allows and the second refuses
-- (NIST SP 800-53, AC-6(7)).
use Rattle.std.specs.Prelude.{◌≡◌, ℕ, ◌≤◌, true, List, length, Option, Some, None, IfSome, ◌⊎◌}
use Rattle.std.specs.List.{AllByRecursion}
use Rattle.sudo_words.specs.Word.{is_name, is_host_name, is_file_path, is_arg}
use Rattle.sudo_words.specs.Moment.{IsMoment}
use Rattle.sudo_policy.specs.declared.entry.Entry.{Entry}
use Rattle.sudo_decide.specs.declared.decision.Decision.TheVariants.{Deny, Allow, AllowNoPassword}
use Rattle.sudo_decide.specs.declared.invocation.Invocation.{Invocation}
use Rattle.sudo_decide.specs.Decision.{Decides}
use Rattle.sudo_decide.specs.declared.scope.Scope.{Scope}

-- each part of an invocation has its form, and there are up to 64 arguments
pub record IsInvocation (i : Invocation) : Type 0 where
  pub user : is_name i.user ≡ true
  pub host : is_host_name i.host ≡ true
  pub runas : is_name i.runas ≡ true
  pub path : is_file_path i.path ≡ true
  pub args : AllByRecursion (λ arg. is_arg arg ≡ true) i.args
  pub few_args : length i.args ≤ 64
  pub at : IsMoment i.at

-- a name that is fixed is this one; a name that is not fixed may be any
abbrev pub Agrees : Option (List ℕ) → List ℕ → Type 0
Agrees None name = Unit {0}
Agrees (Some fixed) name = name ≡ fixed

-- what a scope fixes is of its form
pub record IsScope (s : Scope) : Type 0 where
  pub user : IfSome s.user (λ name. is_name name ≡ true)
  pub host : IfSome s.host (λ name. is_host_name name ≡ true)
  pub runas : IfSome s.runas (λ name. is_name name ≡ true)

pub record IsInScope (s : Scope) (i : Invocation) : Type 0 where
  pub user : Agrees s.user i.user
  pub host : Agrees s.host i.host
  pub runas : Agrees s.runas i.runas

-- with a password or without
abbrev pub Allows : List Entry → Invocation → Type 0
Allows es i = Decides es i Allow ⊎ Decides es i AllowNoPassword

-- a allows it, and b refuses it
pub record IsGap (a b : List Entry) (i : Invocation) : Type 0 where
  pub allowed : Allows a i
  pub refused : Decides b i Deny

-- the invocation is in the scope, and a allows it beyond b
pub record LiesBeyond (s : Scope) (a b : List Entry) (i : Invocation) : Type 0 where
  pub form : IsInvocation i
  pub scope : IsInScope s i
  pub gap : IsGap a b i

-- there is one, whatever its names, path, arguments and moment
abbrev pub SomethingBeyond : Scope → List Entry → List Entry → Type 0
SomethingBeyond s a b = (i : Invocation) × LiesBeyond s a b i

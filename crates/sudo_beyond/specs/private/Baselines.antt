-- What is worked out once for a policy that others are compared with; only private clauses cite it.
use Rattle.std.specs.Prelude.{◌≡◌, ℕ, ◌+◌, ◌*◌, true, List, length}
use Rattle.std.specs.Option.{is_some}
use Rattle.sudo_policy.specs.declared.entry.Entry.{Entry}
use Rattle.sudo_policy.specs.Policy.{IsPolicy}
use Rattle.sudo_decide.specs.declared.invocation.Invocation.{Invocation}
use Rattle.sudo_decide.specs.declared.scope.Scope.{Scope}
use Rattle.sudo_decide.specs.Decision.{Decides}
use Rattle.sudo_decide.specs.Reach.{rules_in}
use Rattle.sudo_compiled.specs.declared.plain.PlainRule.{PlainRule}
use Rattle.sudo_compiled.specs.Compiled.{answer}
use Rattle.sudo_beyond.specs.declared.size.Size.{Size}
use Rattle.sudo_beyond.specs.Standing.{commands}
use Rattle.sudo_beyond.specs.Beyond.{Allows, IsInScope, IsInvocation}
use Rattle.sudo_beyond.specs.Cases.{turns}
use Rattle.sudo_beyond.specs.private.Gathering.{listings}

-- how many parts of a policy make cases of commands and of moments
pub record IsSize (es : List Entry) (s : Size) : Type 0 where
  pub commands_are : s.commands ≡ length (commands es)
  pub listings_are : s.listings ≡ length (listings (commands es))
  pub turns_are : s.turns ≡ length (turns (rules_in es))

-- Where the names are fixed, so many commands, lists of arguments and moments make at most so many
-- cases: for each command at most one with each list and two more, and one run elsewhere; and each
-- of these runs at each moment and at one more.
abbrev pub most_of : (commands listings turns : ℕ) → ℕ
most_of commands listings turns = (commands * (listings + 2) + 1) * (turns + 1)

-- the rules are the policy compiled, and this is its size
pub record IsReady (es : List Entry) (rules : List PlainRule) (s : Size) : Type 0 where
  pub policy : IsPolicy es
  pub answers : (i : Invocation) → Decides es i (answer rules i)
  pub size : IsSize es s

-- the scope fixes the user, the host and the target
pub record FixesNames (s : Scope) : Type 0 where
  pub user : is_some s.user ≡ true
  pub host : is_some s.host ≡ true
  pub runas : is_some s.runas ≡ true

-- an invocation in the scope that a policy allows
pub record IsAllowedIn (s : Scope) (a : List Entry) (i : Invocation) : Type 0 where
  pub form : IsInvocation i
  pub scope : IsInScope s i
  pub allowed : Allows a i

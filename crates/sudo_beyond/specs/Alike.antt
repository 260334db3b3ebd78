-- What it means that a policy answers alike two names, two paths with their arguments, or two
-- moments.
use Rattle.std.specs.Prelude.{◌≡◌, ℕ, List}
use Rattle.std.specs.List.{AllByRecursion}
use Rattle.std.specs.Str.{bytes_eq}
use Rattle.sudo_words.specs.declared.cmnd.Cmnd.{Cmnd}
use Rattle.sudo_words.specs.Command.{matches}
use Rattle.sudo_policy.specs.declared.entry.Entry.{Entry}
use Rattle.sudo_policy.specs.declared.entry.Rule.{Rule}
use Rattle.sudo_decide.specs.declared.invocation.Invocation.{Invocation}
use Rattle.sudo_decide.specs.Decision.{takes_part}
use Rattle.sudo_decide.specs.Reach.{rules_in}
use Rattle.sudo_beyond.specs.Standing as standing

-- each of these names equals both or neither
abbrev pub AlikeNames : List (List ℕ) → List ℕ → List ℕ → Type 0
AlikeNames names x y = AllByRecursion (λ name. bytes_eq name x ≡ bytes_eq name y) names

-- each of these commands matches both or neither
abbrev pub AlikeCmnds : List Cmnd → List ℕ → List (List ℕ) → List ℕ → List (List ℕ) → Type 0
AlikeCmnds cmnds path args other others =
    AllByRecursion (λ c. matches c path args ≡ matches c other others) cmnds

-- each of these rules takes part at both or at neither
abbrev pub AlikeMoments : List Rule → ℕ → ℕ → Type 0
AlikeMoments rules t u = AllByRecursion (λ r. takes_part r t ≡ takes_part r u) rules

-- two invocations that each name, command and date of a policy answers alike
pub record Alike (es : List Entry) (i j : Invocation) : Type 0 where
  pub user : AlikeNames (standing.users es) i.user j.user
  pub host : AlikeNames (standing.hosts es) i.host j.host
  pub runas : AlikeNames (standing.runas es) i.runas j.runas
  pub cmnd : AlikeCmnds (standing.commands es) i.path i.args j.path j.args
  pub at : AlikeMoments (rules_in es) i.at j.at

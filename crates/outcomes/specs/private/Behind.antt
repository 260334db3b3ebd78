-- The lines of a host that are left, as the summaries' requests give them in turn.
use Rattle.std.specs.Prelude.{◌≡◌, ℕ, ◌≤◌, List, ◌++◌, length, map}
use Rattle.std.specs.Prelude.{Option, Some, None}
use Rattle.std.specs.List.{AllByRecursion}
use Rattle.sudo_words.specs.declared.cmnd.Cmnd.{Cmnd}
use Rattle.sudo_policy.specs.declared.entry.Entry.TheVariants as entries
use Rattle.sudo_policy.specs.declared.entry.Rule.{Rule}
use Rattle.sudo_policy.specs.Printing.{canon}
use Rattle.messages.specs.declared.message.Message.{Message}
use Rattle.roster.specs.Fields.{RosterFields}
use Rattle.grants.specs.GrantLines.{AreWritten, rules_left}
use Rattle.grants.specs.GrantRules.{IsGrantRule}
use Rattle.grants.specs.Summaries.{Kept}
use Rattle.grants.specs.HostFaults.{most_lines}
use Rattle.outcomes.specs.private.InTurn.{Give}

-- After the text come the lines that are left of the summaries' requests, in turn: each is the line
-- of a rule of a grant, and they are not too many.
pub record AreBehind (f : RosterFields Cmnd) (messages : List Message) (host : List ℕ)
    (after : Option ℕ) (summaries : List Kept) (old new : List ℕ) : Type 0 where
  pub rules : List Rule
  pub given : Give f messages (rules_left after host) summaries rules
  pub grants : AllByRecursion IsGrantRule rules
  pub few : length rules ≤ most_lines
  pub text_is : new ≡ old ++ canon (map entries.Rule rules)

-- What was written for a name: the lines that are left of the request that its summary keeps, and
-- nothing where it has no summary.
abbrev pub AreNamesLines : RosterFields Cmnd → List Message → List ℕ → Option ℕ → Option Kept
    → (old new : List ℕ) → ℕ → Type 0
AreNamesLines f messages host after None old new count = (new ≡ old) × (count ≡ 0)
AreNamesLines f messages host after (Some k) old new count =
    AreWritten f messages k.request host after old new count

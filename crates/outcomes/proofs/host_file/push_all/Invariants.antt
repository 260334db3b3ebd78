use Rattle.std.proofs.Common.{◌≡◌, ◌++◌, ◌≤◌, List, length, map, take}
use Rattle.std.specs.Prelude.{string_bytes}
use Rattle.std.specs.List.{AllByRecursion}
use Rattle.sudo_policy.specs.declared.entry.Entry.TheVariants as entries
use Rattle.sudo_policy.specs.declared.entry.Rule.{Rule}
use Rattle.sudo_policy.specs.Printing.{canon}
use Rattle.messages.specs.declared.message.Message.{Message}
use Rattle.grants.specs.GrantRules.{IsGrantRule}
use Rattle.grants.specs.GrantLines.{rules_left}
use Rattle.outcomes.specs.private.Index.{kept_of, names_lent}
use Rattle.outcomes.specs.private.ByName.{Gathers}
use Rattle.outcomes.specs.private.InTurn.{Give}
use Rattle.outcomes.specs.private.Walk.{AreEntriesOf}
use Rattle.outcomes.proofs.host_file.push_all.Given as goal

abbrev pub invariant-loop-name : goal.invariant-loop-name
invariant-loop-name l = record {
  behind : (set : List Message) → Gathers set l.summaries → (rules : List Rule)
      × Give l.roster.says set (rules_left l.after l.host) (kept_of l.summaries (names_lent (take l.name-index l.names))) rules
      × AllByRecursion IsGrantRule rules
      × (string_bytes l.text ≡ string_bytes l.fn.text ++ canon (map entries.Rule rules))
      × (l.count ≡ length rules);
  few : l.count ≤ 8_192;
  walk : AreEntriesOf l.summaries l.walk;
}

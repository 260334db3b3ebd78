-- The lines that a request gives a host, written after a text: those of all its rules, or of the
-- rules that have not ended before a moment.
use Rattle.std.specs.Prelude.{◌≡◌, ℕ, Bool, true, List, ◌++◌, Option}
use Rattle.std.specs.Prelude.{Some, None, nat_le, filter, length, map}
use Rattle.std.specs.List.{AllByRecursion}
use Rattle.sudo_words.specs.declared.cmnd.Cmnd.{Cmnd}
use Rattle.sudo_policy.specs.declared.entry.Entry.TheVariants as entries
use Rattle.sudo_policy.specs.declared.entry.Rule.{Rule}
use Rattle.sudo_policy.specs.Printing.{canon}
use Rattle.messages.specs.Fields.{RequestFields}
use Rattle.messages.specs.Names.{name_of}
use Rattle.messages.specs.declared.message.Message.{Message}
use Rattle.roster.specs.Fields.{RosterFields}
use Rattle.grants.specs.GrantRules.{IsGrantRule, rules_for}
use Rattle.grants.specs.Statuses.{IsStatus}
use Rattle.grants.specs.declared.outcome.Status.{Status}

-- ---- which are left

-- whether something with this last moment, or with none, lasts until the moment
abbrev pub lasts_until : Option ℕ → ℕ → Bool
lasts_until None moment = true
lasts_until (Some last) moment = nat_le moment last

-- whether the rule's line is left: without a moment every line is, and with one each that ends then
-- or later
abbrev pub stays : Option ℕ → Rule → Bool
stays None rule = true
stays (Some moment) rule = lasts_until rule.not_after moment

-- those left of the rules that a request gives the host
abbrev pub rules_left : Option ℕ → List ℕ → RequestFields → Status → List Rule
rules_left after host q status = filter (stays after) (rules_for host q status)

-- ---- written

-- each of the rules is added after the text as its canonical line, and they are so many
pub record AreAdded (rules : List Rule) (old new : List ℕ) (count : ℕ) : Type 0 where
  pub text_is : new ≡ old ++ canon (map entries.Rule rules)
  pub count_is : count ≡ length rules

-- The rules that are left, given what the set's messages come to: each is a rule of a grant, and is
-- added as a line after the text.
pub record AreWritten (f : RosterFields Cmnd) (messages : List Message) (q : RequestFields)
    (host : List ℕ) (after : Option ℕ) (old new : List ℕ) (count : ℕ) : Type 0 where
  pub status : Status
  pub status_is : IsStatus f messages (name_of q) status
  pub grants : AllByRecursion IsGrantRule (rules_left after host q status)
  pub added : AreAdded (rules_left after host q status) old new count

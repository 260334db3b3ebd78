-- Worked case: what ann asks at the small site and bob approves, and an approval whose request has
-- not come.
use Rattle.std.specs.Prelude.{List, [], ◌∷◌, codes, None}
use Rattle.sudo_words.specs.declared.cmnd.Cmnd.TheVariants.{All}
use Rattle.sudo_policy.specs.declared.entry.Entry.{Entry}
use Rattle.sudo_policy.specs.declared.entry.Entry.TheVariants.{Rule}
use Rattle.messages.specs.Fields.{RequestFields, VerdictFields}
use Rattle.messages.specs.Names.{name_of}
use Rattle.messages.specs.WorkedTexts.{ann_asks_for, bob_approves, ls}
use Rattle.messages.specs.declared.message.Message.{Message}
use Rattle.messages.specs.declared.message.Message.TheVariants.{Request, Verdict}
use Rattle.sudo_policy.specs.Tags.{no_tags}
use Rattle.grants.specs.GrantRules.{plain_rule}
use Rattle.outcomes.specs.Outcomes.{LiveGrant}

-- ann asks for `/bin/ls` on `db1` as root, from nine to eleven of 5 January 2026
abbrev pub ann_asks_ls : RequestFields
ann_asks_ls = ann_asks_for (ls ∷ [])

-- bob approves what carol has not asked for
abbrev pub early : VerdictFields
early = record bob_approves { no = 8; of = codes "carol" }

-- ann's request, bob's approval of it, and that one
abbrev pub worked : List Message
worked = Request ann_asks_ls ∷ Verdict bob_approves ∷ Verdict early ∷ []

-- ann's grant
abbrev pub grant : LiveGrant
grant = record {
  name = name_of ann_asks_ls;
  ceiling = codes "db-root";
  window = record { start = 1_767_603_600; end = 1_767_610_800 };
}

-- a base of one rule, `bob db1 = ALL`
abbrev pub base : List Entry
base = Rule (plain_rule (codes "bob") (codes "db1") (codes "root") None None no_tags All) ∷ []

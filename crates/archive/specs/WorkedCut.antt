-- Worked cases: the number of a request that has ended is used again, and its approval comes again;
-- and a request that was revoked.
use Rattle.std.specs.Prelude.{List, [], ◌∷◌, codes}
use Rattle.messages.specs.Fields.{RequestFields, VerdictFields}
use Rattle.messages.specs.WorkedTexts.{bob_approves}
use Rattle.messages.specs.declared.kind.VerdictKind.TheVariants.{Revoke}
use Rattle.messages.specs.declared.message.Message.{Message}
use Rattle.messages.specs.declared.message.Message.TheVariants.{Request, Verdict}
use Rattle.outcomes.specs.WorkedSet.{ann_asks_ls}

-- what ann asked for before, under the number under which she then asks for nine to eleven: the
-- quarter of an hour from half past eight
abbrev pub ann_asked_before : RequestFields
ann_asked_before = record ann_asks_ls { from = 1_767_601_800; until = 1_767_602_700 }

-- this request, which bob approves
abbrev pub history : List Message
history = Request ann_asked_before ∷ Verdict bob_approves ∷ []

-- at twenty to nine ann takes back what she asked for
abbrev pub ann_revokes : VerdictFields
ann_revokes = record bob_approves { at = 1_767_602_400; by = codes "ann"; kind = Revoke }

-- what she asked for from nine to eleven, bob's approval, and this
abbrev pub revoked : List Message
revoked = Request ann_asks_ls ∷ Verdict bob_approves ∷ Verdict ann_revokes ∷ []

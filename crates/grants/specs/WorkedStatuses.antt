-- Worked cases: a small team, of whom two have to approve, and what its messages come to. The
-- moments are of 1 January 1970.
use Rattle.std.specs.Prelude.{ℕ, List, [], ◌∷◌, map, codes}
use Rattle.sudo_words.specs.declared.cmnd.Cmnd.{Cmnd}
use Rattle.messages.specs.Fields.{RequestFields, VerdictFields}
use Rattle.messages.specs.Names.{name_of}
use Rattle.messages.specs.declared.message.Message.TheVariants.{Request, Verdict}
use Rattle.messages.specs.declared.kind.VerdictKind.{VerdictKind}
use Rattle.messages.specs.declared.kind.VerdictKind.TheVariants.{Approve, Refuse, Revoke}
use Rattle.roster.specs.Fields.{CeilingFields, RosterFields}
use Rattle.roster.specs.declared.days.Days.TheVariants.{Always, Between}
use Rattle.grants.specs.Statuses.{IsStatus}
use Rattle.grants.specs.WorkedAdmission.{asked, asked_from, db_root}
use Rattle.grants.specs.declared.outcome.Status.{Status}
use Rattle.grants.specs.declared.outcome.Status.TheVariants.{Granted}

-- the site's ceiling, under which two have to approve
abbrev pub by_two : CeilingFields Cmnd
by_two = record db_root { needs = 2 }

-- ann operates; bob and dave approve; so does carol, who also audits, which conflicts
abbrev pub team : RosterFields Cmnd
team = record {
  relays = codes "mail" ∷ [];
  hosts = codes "db1" ∷ codes "db2" ∷ [];
  duties = codes "approve" ∷ codes "audit" ∷ codes "operate" ∷ [];
  conflicts = (codes "audit", codes "approve") ∷ [];
  people =
      (codes "ann", (codes "operate", Always) ∷ [])
      ∷ (codes "bob", (codes "approve", Always) ∷ [])
      ∷ (codes "carol", (codes "approve", Always) ∷ (codes "audit", Always) ∷ [])
      ∷ (codes "dave", (codes "approve", Always) ∷ [])
      ∷ [];
  ceilings = (codes "db-root", by_two) ∷ [];
}

-- the same team, with a ceiling whose longest window is a second shorter than ann asks for
abbrev pub shorter : RosterFields Cmnd
shorter = record team { ceilings = (codes "db-root", record by_two { longest = 7199 }) ∷ [] }

-- what somebody says at a moment about ann's request for nine to eleven
abbrev pub verdict_on_ann : VerdictKind → (by : List ℕ) → (at : ℕ) → VerdictFields
verdict_on_ann kind by at = record { at = at; by = by; kind = kind; no = 7; of = codes "ann" }

abbrev pub approves : (by : List ℕ) → (at : ℕ) → VerdictFields
approves = verdict_on_ann Approve

abbrev pub refuses : (by : List ℕ) → (at : ℕ) → VerdictFields
refuses = verdict_on_ann Refuse

abbrev pub revokes : (by : List ℕ) → (at : ℕ) → VerdictFields
revokes = verdict_on_ann Revoke

-- bob approves, then dave does, which completes it; and then further verdicts
abbrev pub both_and : List VerdictFields → List VerdictFields
both_and more = approves (codes "bob") 30_600 ∷ approves (codes "dave") 33_000 ∷ more

-- what ann's request and these verdicts come to
abbrev pub VerdictsComeTo : List VerdictFields → Status → Type 0
VerdictsComeTo verdicts status =
    IsStatus team (Request asked ∷ map Verdict verdicts) (name_of asked) status

-- they come to a grant of these moments
abbrev pub VerdictsGrant : List VerdictFields → (start end : ℕ) → Type 0
VerdictsGrant verdicts start end =
    VerdictsComeTo verdicts (Granted (record { start = start; end = end }))

-- ---- duties on some days only

-- The same team by days: bob approves from 2 January on, and carol, who always approves, audits up
-- to 1 January.
abbrev pub rota : RosterFields Cmnd
rota = record team {
  people =
      (codes "ann", (codes "operate", Always) ∷ [])
      ∷ (codes "bob", (codes "approve", Between 1 30) ∷ [])
      ∷ (codes "carol", (codes "approve", Always) ∷ (codes "audit", Between 0 0) ∷ [])
      ∷ (codes "dave", (codes "approve", Always) ∷ [])
      ∷ [];
}

-- on 1 January ann asks for nine to eleven of the 2nd
abbrev pub for_the_second : RequestFields
for_the_second = asked_from 118_800 126_000

-- what that and these verdicts come to
abbrev pub VerdictsComeToByDays : List VerdictFields → Status → Type 0
VerdictsComeToByDays verdicts status =
    IsStatus rota (Request for_the_second ∷ map Verdict verdicts) (name_of for_the_second) status

-- they come to a grant of these moments
abbrev pub VerdictsGrantByDays : List VerdictFields → (start end : ℕ) → Type 0
VerdictsGrantByDays verdicts start end =
    VerdictsComeToByDays verdicts (Granted (record { start = start; end = end }))

-- dave approves on 1 January at ten past nine
abbrev pub dave_and : List VerdictFields → List VerdictFields
dave_and more = approves (codes "dave") 33_000 ∷ more

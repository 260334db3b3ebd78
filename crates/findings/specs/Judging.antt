-- What an audit says of a name beside its messages and its status, by the roster and the messages
-- about the name alone.
use Rattle.std.specs.Prelude.{◌≡◌, ℕ, ◌-◌, ◌==◌, Bool, ◌&&◌, not, List, [], ◌∷◌, map, filter}
use Rattle.std.specs.Prelude.{length, Option, Some, None, MatchOption, option_map, codes}
use Rattle.std.specs.Str.{bytes_eq}
use Rattle.sudo_words.specs.declared.cmnd.Cmnd.{Cmnd}
use Rattle.messages.specs.Fields.{RequestFields, VerdictFields}
use Rattle.messages.specs.declared.message.Message.{Message}
use Rattle.messages.specs.declared.message.Message.TheVariants.{Request, Verdict}
use Rattle.roster.specs.Fields.{CeilingFields, Entry as Person, RosterFields}
use Rattle.roster.specs.Relations.{ceiling_at, eligible}
use Rattle.grants.specs.Statuses.{NeverComplete}
use Rattle.grants.specs.Verdicts.{IsComplete}
use Rattle.grants.specs.declared.outcome.Status.{Status}
use Rattle.grants.specs.declared.outcome.Status.TheVariants.{Disputed, Lapsed, Refused}
use Rattle.grants.specs.declared.outcome.Status.TheVariants.{Waiting, Void, Granted}
use Rattle.findings.specs.Effects.{approvals_under, effect, is_of_one}
use Rattle.findings.specs.declared.effects.Effect.{Effect}
use Rattle.findings.specs.declared.entry.AuditEntry.{AuditEntry}

-- the word for a status; without one, nobody asks
abbrev pub status_word : Option Status → List ℕ
status_word None = codes "parked"
status_word (Some Disputed) = codes "disputed"
status_word (Some Lapsed) = codes "lapsed"
status_word (Some Refused) = codes "refused"
status_word (Some Waiting) = codes "waiting"
status_word (Some Void) = codes "void"
status_word (Some (Granted w)) = codes "granted"

-- the ceiling of the first of the requests, if the roster has it
abbrev pub ceiling_asked : RosterFields Cmnd → List RequestFields → Option (CeilingFields Cmnd)
ceiling_asked f [] = None
ceiling_asked f (q ∷ more) = ceiling_at f q.ceiling

abbrev pub ceiling_for : RosterFields Cmnd → AuditEntry → Option (CeilingFields Cmnd)
ceiling_for f e = ceiling_asked f e.about.requests.items

-- each person's first approval that counts
abbrev pub approvals_for : RosterFields Cmnd → AuditEntry → List VerdictFields
approvals_for f e = approvals_under f (ceiling_for f e) e.about.verdicts.items

-- ---- when it was complete

-- the only one of the requests
abbrev pub only_request : List RequestFields → Option RequestFields
only_request [] = None
only_request (q ∷ []) = Some q
only_request (q ∷ r ∷ more) = None

-- the verdict is about the request
abbrev pub is_verdict_on : RequestFields → VerdictFields → Bool
is_verdict_on q v = bytes_eq v.of q.by && (v.no == q.no)

-- the request and the verdicts on it
abbrev pub messages_on : RequestFields → List VerdictFields → List Message
messages_on q vs = Request q ∷ map Verdict (filter (is_verdict_on q) vs)

-- the moment at which a name's only request was complete, by the verdicts on it, if it ever was
abbrev pub IsCompletionOf : RosterFields Cmnd → Option RequestFields
    → List VerdictFields → (complete : Option ℕ) → Type 0
IsCompletionOf f None vs complete = complete ≡ None
IsCompletionOf f (Some q) vs complete =
    MatchOption complete (NeverComplete f (messages_on q vs) q) (IsComplete f (messages_on q vs) q)

abbrev pub IsCompletionOn : RosterFields Cmnd → AuditEntry → (complete : Option ℕ) → Type 0
IsCompletionOn f e complete =
    IsCompletionOf f (only_request e.about.requests.items) e.about.verdicts.items complete

-- what became of a verdict on the name
abbrev pub effect_on : RosterFields Cmnd → AuditEntry → (complete : Option ℕ)
    → VerdictFields → Effect
effect_on f e complete v = effect f (ceiling_for f e) complete e.status v

-- ---- a request that waits

-- a request, and the ceiling that it is made under
abbrev pub Asked : Type 0
Asked = RequestFields × CeilingFields Cmnd

-- the only request, with its ceiling
abbrev pub only_one : Option (CeilingFields Cmnd) → List RequestFields → Option Asked
only_one None qs = None
only_one (Some c) [] = None
only_one (Some c) (q ∷ []) = Some (q, c)
only_one (Some c) (q ∷ r ∷ more) = None

abbrev pub waiting_as : Option Status → Option Asked → Option Asked
waiting_as None asked = None
waiting_as (Some Disputed) asked = None
waiting_as (Some Lapsed) asked = None
waiting_as (Some Refused) asked = None
waiting_as (Some Waiting) asked = asked
waiting_as (Some Void) asked = None
waiting_as (Some (Granted w)) asked = None

-- the request that waits, with its ceiling
abbrev pub waiting : RosterFields Cmnd → AuditEntry → Option Asked
waiting f e = waiting_as e.status (only_one (ceiling_for f e) e.about.requests.items)

-- how many people's approvals the request lacks
abbrev pub lacks : RosterFields Cmnd → AuditEntry → Option ℕ
lacks f e = option_map (λ a. a.1.needs - length (approvals_for f e)) (waiting f e)

-- the person may approve the request at the moment, and has not yet
abbrev pub may_approve : RosterFields Cmnd
    → (approvals : List VerdictFields) → Asked → (at : ℕ) → (person : List ℕ) → Bool
may_approve f approvals asked at person =
    eligible f person asked.0.by asked.1 at && not (is_of_one approvals person)

-- the people of a list who may
abbrev pub those_who_may : RosterFields Cmnd → (approvals : List VerdictFields)
    → Asked → (at : ℕ) → List (List ℕ × List Person) → List (List ℕ)
those_who_may f approvals asked at people =
    map (λ p. p.0) (filter (λ p. may_approve f approvals asked at p.0) people)

-- who may approve the request at the moment, and has not yet, in the order of the roster's people
abbrev pub approvers_of : RosterFields Cmnd
    → (approvals : List VerdictFields) → (at : ℕ) → Option Asked → List (List ℕ)
approvers_of f approvals at None = []
approvers_of f approvals at (Some asked) = those_who_may f approvals asked at f.people

abbrev pub approvers : RosterFields Cmnd → AuditEntry → (at : ℕ) → List (List ℕ)
approvers f e at = approvers_of f (approvals_for f e) at (waiting f e)

-- the moment for which it is told who may approve: `until` if it is given, else the request's own
abbrev pub or_own : Option ℕ → RequestFields → ℕ
or_own None q = q.at
or_own (Some until) q = until

abbrev pub asked_at : RosterFields Cmnd → AuditEntry → Option ℕ → Option ℕ
asked_at f e until = option_map (λ a. or_own until a.0) (waiting f e)

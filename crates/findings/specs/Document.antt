-- What an audit tells, as one JSON document (RFC 8259). Messages stand in it as their own texts; no
-- other text in it has a byte that needs an escape.
use Rattle.std.specs.Prelude.{◌≡◌, ℕ, Bool, true, false, if◌then◌else◌, List, [], ◌∷◌, ◌++◌}
use Rattle.std.specs.Prelude.{map, Option, Some, None, codes, decimal}
use Rattle.sudo_words.specs.Moment.{stamp}
use Rattle.sudo_words.specs.declared.cmnd.Cmnd.{Cmnd}
use Rattle.messages.specs.Fields.{RequestFields, VerdictFields}
use Rattle.messages.specs.Wire.{wire, verdict_text}
use Rattle.messages.specs.declared.message.Message.TheVariants.{Request}
use Rattle.messages.specs.declared.request_name.RequestName.{RequestName}
use Rattle.roster.specs.Fields.{RosterFields}
use Rattle.grants.specs.Admission.{Admits, IsDenial}
use Rattle.grants.specs.Denials.{denial_text}
use Rattle.grants.specs.declared.denial.Denial.{Denial}
use Rattle.grants.specs.declared.outcome.Status.{Status}
use Rattle.grants.specs.declared.outcome.Status.TheVariants.{Disputed, Lapsed, Refused}
use Rattle.grants.specs.declared.outcome.Status.TheVariants.{Waiting, Void, Granted}
use Rattle.grants.specs.declared.outcome.Window.{Window}
use Rattle.grants.specs.declared.weighing.Weight.TheVariants.{Counts, Asker, Duty, Conflict}
use Rattle.findings.specs.Effects.{effect_text}
use Rattle.findings.specs.Judging.{approvers, asked_at, effect_on, IsCompletionOn, lacks}
use Rattle.findings.specs.Judging.{only_request, status_word}
use Rattle.findings.specs.declared.by_host.HostWindow.{HostWindow}
use Rattle.findings.specs.declared.effects.Effect.{Effect}
use Rattle.findings.specs.declared.effects.Effect.TheVariants.{Weighs, Late}
use Rattle.findings.specs.declared.effects.Effect.TheVariants as effects
use Rattle.findings.specs.declared.entry.AuditEntry.{AuditEntry}
use Rattle.findings.specs.declared.pick.Pick.{Pick}
use Rattle.findings.specs.Windows.{AreWindows}

-- ---- lists

abbrev pub comma_before : (is_first : Bool) → List ℕ
comma_before true = []
comma_before false = codes ","

-- the texts one after the other, with a comma before each but the first
abbrev pub joined : (is_first : Bool) → List (List ℕ) → List ℕ
joined is_first [] = []
joined is_first (t ∷ ts) = comma_before is_first ++ t ++ joined false ts

-- ---- a verdict

-- whether the verdict counts, and else why it does not
abbrev pub why_json : List ℕ → List ℕ
why_json word = codes ",\"counts\":false,\"why\":\"" ++ word ++ codes "\"}"

abbrev pub is_counted : Effect → Bool
is_counted (Weighs Counts) = true
is_counted (Weighs Asker) = false
is_counted (Weighs Duty) = false
is_counted (Weighs Conflict) = false
is_counted Late = false
is_counted effects.Lapsed = false
is_counted effects.Disputed = false
is_counted effects.Parked = false

abbrev pub effect_json : Effect → List ℕ
effect_json effect =
    if is_counted effect then codes ",\"counts\":true}" else why_json (effect_text effect)

abbrev pub verdict_json : Effect → VerdictFields → List ℕ
verdict_json effect v = codes "{\"verdict\":" ++ verdict_text v ++ effect_json effect

abbrev pub each_json : (VerdictFields → Effect) → List VerdictFields → List (List ℕ)
each_json effect_of vs = map (λ v. verdict_json (effect_of v) v) vs

abbrev pub verdicts_json : (VerdictFields → Effect) → List VerdictFields → List ℕ
verdicts_json effect_of vs =
    codes ",\"verdicts\":[" ++ joined true (each_json effect_of vs) ++ codes "]"

-- ---- the requests

abbrev pub requests_json : List RequestFields → List ℕ
requests_json qs =
    codes "\"requests\":[" ++ joined true (map (λ q. wire (Request q)) qs) ++ codes "]"

-- ---- the name and its status

abbrev pub span_json : (from until : ℕ) → List ℕ
span_json from until =
    codes "\"from\":\"" ++ stamp from ++ codes "\",\"until\":\"" ++ stamp until ++ codes "\""

abbrev pub granted_json : Window → List ℕ
granted_json w = codes "\"window\":{" ++ span_json w.start w.end ++ codes "},"

abbrev pub window_json : Option Status → List ℕ
window_json None = []
window_json (Some Disputed) = []
window_json (Some Lapsed) = []
window_json (Some Refused) = []
window_json (Some Waiting) = []
window_json (Some Void) = []
window_json (Some (Granted w)) = granted_json w

abbrev pub denial_json : Option Denial → List ℕ
denial_json None = []
denial_json (Some d) = codes "\"denial\":\"" ++ denial_text d ++ codes "\","

abbrev pub name_json : RequestName → List ℕ
name_json name = codes "\"by\":\"" ++ name.by ++ codes "\",\"no\":" ++ decimal name.no

abbrev pub word_json : Option Status → List ℕ
word_json status = codes ",\"status\":\"" ++ status_word status ++ codes "\","

abbrev pub status_json : RequestName → Option Status → Option Denial → List ℕ
status_json name status denial =
    codes "{" ++ name_json name ++ word_json status ++ window_json status ++ denial_json denial

-- ---- what a request lacks

abbrev pub in_quotes : List ℕ → List ℕ
in_quotes word = codes "\"" ++ word ++ codes "\""

abbrev pub asked_json : (count at : ℕ) → List ℕ
asked_json count at =
    codes ",\"lacks\":" ++ decimal count
    ++ codes ",\"may_approve\":{\"at\":\"" ++ stamp at ++ codes "\",\"people\":["

abbrev pub waiting_json : (count at : ℕ) → (people : List (List ℕ)) → List ℕ
waiting_json count at people = asked_json count at ++ joined true people ++ codes "]}"

abbrev pub lacks_json : Option ℕ → Option ℕ → (people : ℕ → List (List ℕ)) → List ℕ
lacks_json None at people = []
lacks_json (Some count) None people = []
lacks_json (Some count) (Some at) people = waiting_json count at (map in_quotes (people at))

-- ---- an entry

abbrev pub entry_json : RosterFields Cmnd → (until : Option ℕ) → AuditEntry
    → (complete : Option ℕ) → Option Denial → List ℕ
entry_json f until e complete denial =
    status_json e.name e.status denial ++ requests_json e.about.requests.items
    ++ verdicts_json (effect_on f e complete) e.about.verdicts.items
    ++ lacks_json (lacks f e) (asked_at f e until) (approvers f e) ++ codes "}"

-- the only request of a name that lapsed
abbrev pub lapsed : Option Status → List RequestFields → Option RequestFields
lapsed None qs = None
lapsed (Some Disputed) qs = None
lapsed (Some Lapsed) qs = only_request qs
lapsed (Some Refused) qs = None
lapsed (Some Waiting) qs = None
lapsed (Some Void) qs = None
lapsed (Some (Granted w)) qs = None

-- why the roster does not admit the request, if it lapsed
abbrev pub IsDenialOf : RosterFields Cmnd → Option RequestFields → Option Denial → Type 0
IsDenialOf f None denial = denial ≡ None
IsDenialOf f (Some q) None = Admits f (Request q)
IsDenialOf f (Some q) (Some d) = IsDenial f (Request q) d

abbrev pub IsDenialOn : RosterFields Cmnd → AuditEntry → Option Denial → Type 0
IsDenialOn f e denial = IsDenialOf f (lapsed e.status e.about.requests.items) denial

-- the text of an entry
abbrev pub IsEntryText : RosterFields Cmnd → (until : Option ℕ) → AuditEntry → List ℕ → Type 0
IsEntryText f until e text =
    (complete : Option ℕ) × (denial : Option Denial) × IsCompletionOn f e complete
    × IsDenialOn f e denial × (text ≡ entry_json f until e complete denial)

-- ---- the whole

-- the texts of the elements, in their order
abbrev pub AreTextsOf : {X : Type 0} → (X → List ℕ → Type 0) → List X → List (List ℕ) → Type 0
AreTextsOf IsText [] texts = texts ≡ []
AreTextsOf {X} IsText (x ∷ xs) texts = (text : List ℕ) × (more : List (List ℕ))
    × (texts ≡ text ∷ more) × IsText x text × AreTextsOf IsText xs more

abbrev pub host_window_json : HostWindow → List ℕ
host_window_json w =
    codes "{\"host\":\"" ++ w.host ++ codes "\"," ++ span_json w.start w.end ++ codes ","
    ++ name_json (record { by = w.by; no = w.no }) ++ codes "}"

abbrev pub document : (names windows : List (List ℕ)) → List ℕ
document names windows =
    codes "{\"names\":[" ++ joined true names
    ++ codes "],\"windows\":[" ++ joined true windows ++ codes "]}\n"

-- The entries, in their order, and the windows on the hosts that are asked about.
pub record IsDocument (f : RosterFields Cmnd)
    (pick : Pick) (entries : List AuditEntry) (text : List ℕ) : Type 0 where
  pub names : List (List ℕ)
  pub windows : List HostWindow
  pub names_are : AreTextsOf (IsEntryText f pick.until) entries names
  pub windows_are : AreWindows pick entries windows
  pub text_is : text ≡ document names (map host_window_json windows)

-- What an audit tells, as a text for a terminal: a heading in its column and words beside it, in
-- lines of at most 100 columns unless a single word does not fit.
use Rattle.std.specs.Prelude.{◌≡◌, ℕ, ◌+◌, ◌-◌, ◌==◌, Bool, true, false, not, ◌||◌}
use Rattle.std.specs.Prelude.{List, [], ◌∷◌, ◌++◌, filter, length, Option, Some, None}
use Rattle.std.specs.Prelude.{nat_lt, if◌then◌else◌, is_some, is_none, codes, decimal}
use Rattle.std.specs.List.{concat, flat_map, slice_split}
use Rattle.std.specs.Str.{bytes_eq}
use Rattle.sudo_words.specs.Bytes.{space, spaces}
use Rattle.sudo_words.specs.Command.{cmnd_text}
use Rattle.sudo_words.specs.Moment.{stamp}
use Rattle.sudo_words.specs.declared.cmnd.Cmnd.{Cmnd}
use Rattle.messages.specs.Fields.{RequestFields, VerdictFields}
use Rattle.messages.specs.Wire.{kind_text}
use Rattle.messages.specs.declared.request_name.RequestName.{RequestName}
use Rattle.roster.specs.Fields.{RosterFields}
use Rattle.grants.specs.Denials.{denial_text}
use Rattle.grants.specs.declared.denial.Denial.{Denial}
use Rattle.grants.specs.declared.outcome.Status.{Status}
use Rattle.grants.specs.declared.outcome.Status.TheVariants.{Disputed, Lapsed, Refused}
use Rattle.grants.specs.declared.outcome.Status.TheVariants.{Waiting, Void, Granted}
use Rattle.grants.specs.declared.outcome.Window.{Window}
use Rattle.findings.specs.Document.{AreTextsOf, IsDenialOn}
use Rattle.findings.specs.Effects.{effect_text}
use Rattle.findings.specs.Judging.{approvers, asked_at, effect_on, IsCompletionOn, lacks}
use Rattle.findings.specs.Judging.{status_word}
use Rattle.findings.specs.Windows.{AreWindows}
use Rattle.findings.specs.declared.by_host.HostWindow.{HostWindow}
use Rattle.findings.specs.declared.effects.Effect.{Effect}
use Rattle.findings.specs.declared.entry.AuditEntry.{AuditEntry}
use Rattle.findings.specs.declared.pick.Pick.{Pick}

-- ---- lines

-- a heading; the text beside it begins at column 12
abbrev pub headed : List ℕ → List ℕ
headed heading = codes "  " ++ heading ++ spaces (10 - length heading)

-- how many of its 100 columns a line has left beside its heading, and one that goes on below
abbrev pub beside_heading : ℕ
beside_heading = 100 - 12

abbrev pub on_new_line : ℕ
on_new_line = 100 - 14

-- what stands before a word: nothing before the first, a space where the line has room for both,
-- and else a new line, which begins at column 14
abbrev pub gap : (room : ℕ) → (is_first : Bool) → (word : List ℕ) → List ℕ
gap room true word = []
gap room false word = if nat_lt (length word) room then codes " " else codes "\n              "

-- how many columns the line has left behind the word
abbrev pub room_after : (room : ℕ) → (is_first : Bool) → (word : List ℕ) → ℕ
room_after room true word = room - length word
room_after room false word =
    if nat_lt (length word) room then room - (length word + 1) else on_new_line - length word

-- words where a line has so many columns left
abbrev pub wrapped : (room : ℕ) → (is_first : Bool) → List (List ℕ) → List ℕ
wrapped room is_first [] = []
wrapped room is_first (word ∷ words) =
    gap room is_first word ++ word ++ wrapped (room_after room is_first word) false words

-- a heading and the words beside it
abbrev pub line : (heading : List ℕ) → List (List ℕ) → List ℕ
line heading words = headed heading ++ wrapped beside_heading true words ++ codes "\n"

-- a text without its spaces and line ends
abbrev pub is_ink : ℕ → Bool
is_ink b = not ((b == 32) || (b == 10))

abbrev pub ink : List ℕ → List ℕ
ink text = filter is_ink text

-- ---- the name and its status

abbrev pub span_text : (start end : ℕ) → List ℕ
span_text start end = stamp start ++ codes " to " ++ stamp end

abbrev pub granted_text : Window → List ℕ
granted_text w = codes " " ++ span_text w.start w.end

abbrev pub window_text : Option Status → List ℕ
window_text None = []
window_text (Some Disputed) = []
window_text (Some Lapsed) = []
window_text (Some Refused) = []
window_text (Some Waiting) = []
window_text (Some Void) = []
window_text (Some (Granted w)) = granted_text w

abbrev pub why_text : Option Denial → List ℕ
why_text None = []
why_text (Some d) = codes " " ++ denial_text d

abbrev pub name_text : RequestName → List ℕ
name_text name = name.by ++ codes " " ++ decimal name.no

abbrev pub status_line : RequestName → Option Status → Option Denial → List ℕ
status_line name status denial =
    name_text name ++ codes "  " ++ status_word status ++ window_text status ++ why_text denial
    ++ codes "\n"

-- ---- the requests

abbrev pub asked_text : RequestFields → List ℕ
asked_text q =
    headed (codes "asked") ++ stamp q.at ++ codes " for " ++ span_text q.from q.until
    ++ codes "\n"

-- a heading and one text beside it, whatever its length
abbrev pub plain_line : (heading text : List ℕ) → List ℕ
plain_line heading text = headed heading ++ text ++ codes "\n"

-- a command, cut at its spaces where it is too long
abbrev pub cmnd_line : Cmnd → List ℕ
cmnd_line cmnd = line (codes "command") (slice_split (λ b. b == space) (cmnd_text cmnd))

abbrev pub request_lines : RequestFields → List ℕ
request_lines q =
    asked_text q ++ plain_line (codes "ceiling") q.ceiling
    ++ plain_line (codes "target") q.runas ++ line (codes "hosts") q.hosts
    ++ flat_map cmnd_line q.cmnds

-- ---- the verdicts

abbrev pub verdict_line : Effect → VerdictFields → List ℕ
verdict_line effect v = line (kind_text v.kind) (stamp v.at ∷ v.by ∷ effect_text effect ∷ [])

-- ---- what a request lacks

abbrev pub waiting_lines : (count at : ℕ) → (people : List (List ℕ)) → List ℕ
waiting_lines count at people =
    plain_line (codes "lacks") (decimal count) ++ line (codes "may") (stamp at ∷ people)

abbrev pub lacks_lines : Option ℕ → Option ℕ → (people : ℕ → List (List ℕ)) → List ℕ
lacks_lines None at people = []
lacks_lines (Some count) None people = []
lacks_lines (Some count) (Some at) people = waiting_lines count at (people at)

-- ---- an entry

abbrev pub entry_lines : RosterFields Cmnd → (until : Option ℕ) → AuditEntry
    → (complete : Option ℕ) → Option Denial → List ℕ
entry_lines f until e complete denial =
    status_line e.name e.status denial ++ flat_map request_lines e.about.requests.items
    ++ flat_map (λ v. verdict_line (effect_on f e complete v) v) e.about.verdicts.items
    ++ lacks_lines (lacks f e) (asked_at f e until) (approvers f e)

-- the lines of an entry
abbrev pub AreEntryLines : RosterFields Cmnd → (until : Option ℕ) → AuditEntry → List ℕ → Type 0
AreEntryLines f until e text =
    (complete : Option ℕ) × (denial : Option Denial) × IsCompletionOn f e complete
    × IsDenialOn f e denial × (text ≡ entry_lines f until e complete denial)

-- ---- the windows

-- the host differs from the one above
abbrev pub is_new : (above : Option (List ℕ)) → (host : List ℕ) → Bool
is_new None host = true
is_new (Some above) host = not (bytes_eq above host)

abbrev pub host_line : (above : Option (List ℕ)) → (host : List ℕ) → List ℕ
host_line above host = if is_new above host then host ++ codes "\n" else []

abbrev pub window_line : HostWindow → List ℕ
window_line w =
    codes "  " ++ span_text w.start w.end ++ codes "  "
    ++ name_text (record { by = w.by; no = w.no }) ++ codes "\n"

-- the windows, each host once above its own
abbrev pub window_lines : (above : Option (List ℕ)) → List HostWindow → List ℕ
window_lines above [] = []
window_lines above (w ∷ ws) =
    host_line above w.host ++ window_line w ++ window_lines (Some w.host) ws

-- ---- the whole

-- somebody asks under the name, or nobody does and its verdicts wait
abbrev pub is_under : (is_asked : Bool) → AuditEntry → Bool
is_under true e = is_some e.status
is_under false e = is_none e.status

-- the entries of names under which somebody asks, or of the others
abbrev pub those_under : (is_asked : Bool) → List AuditEntry → List AuditEntry
those_under is_asked entries = filter (is_under is_asked) entries

abbrev pub text : (requests parked : List (List ℕ)) → List HostWindow → List ℕ
text requests parked windows =
    codes "REQUESTS\n" ++ concat requests ++ codes "PARKED\n" ++ concat parked
    ++ codes "WINDOWS\n" ++ window_lines None windows

-- The entries of names under which somebody asks, then those of the others, each in their order,
-- and the windows on the hosts that are asked about.
pub record IsTerminalText (f : RosterFields Cmnd)
    (pick : Pick) (entries : List AuditEntry) (whole : List ℕ) : Type 0 where
  pub requests : List (List ℕ)
  pub parked : List (List ℕ)
  pub windows : List HostWindow
  pub requests_are : AreTextsOf (AreEntryLines f pick.until) (those_under true entries) requests
  pub parked_are : AreTextsOf (AreEntryLines f pick.until) (those_under false entries) parked
  pub windows_are : AreWindows pick entries windows
  pub text_is : whole ≡ text requests parked windows

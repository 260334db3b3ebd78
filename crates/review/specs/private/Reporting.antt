-- What the functions that write the report add to its text; only their own clauses cite it.
use Rattle.std.specs.Prelude.{◌≡◌, ℕ, true, false, List, ◌++◌, Option, Some, None}
use Rattle.sudo_words.specs.Moment.{IsMoment}
use Rattle.sudo_words.specs.declared.cmnd.Cmnd.{Cmnd}
use Rattle.messages.specs.Names.{name_of}
use Rattle.messages.specs.declared.request_name.RequestName.{RequestName}
use Rattle.messages.specs.declared.message.Message.{Message}
use Rattle.roster.specs.Fields.{RosterFields}
use Rattle.roster.specs.Relations.{ceiling_at}
use Rattle.grants.specs.Statuses.{IsStatus, window_at}
use Rattle.grants.specs.Summaries.{Kept, StandsFor}
use Rattle.grants.specs.declared.outcome.Status.{Status}
use Rattle.grants.specs.declared.outcome.Window.{Window}
use Rattle.review.specs.declared.barred.OpenRequest.{OpenRequest}
use Rattle.review.specs.declared.live.InForce.{InForce}
use Rattle.review.specs.declared.need.Need.{Need}
use Rattle.review.specs.declared.need.Need.TheVariants.{Needed, Needless, Unknown}
use Rattle.review.specs.Columns.{lines_text}
use Rattle.review.specs.Report.{IsOnlyRequest, is_open}

-- these lines are added
abbrev pub AddsLines : (List (List ℕ) → Type 0) → (old new : List ℕ) → Type 0
AddsLines IsPart old new = (lines : List (List ℕ)) × (new ≡ old ++ lines_text lines) × IsPart lines

abbrev pub kept_name : Kept → RequestName
kept_name k = name_of k.request

-- the window's start and end are moments
abbrev pub IsSpan : Window → Type 0
IsSpan w = IsMoment w.start × IsMoment w.end

-- The summary stands for the set, and the status is that of its name by the set's messages.
pub record IsOutcome (f : RosterFields Cmnd) (messages : List Message)
    (k : Kept) (status : Status) : Type 0 where
  pub stands : StandsFor messages k
  pub status_is : IsStatus f messages (kept_name k) status

-- a summary's request and its window, if it is granted and the window holds the moment
abbrev pub IsInForceOf : RosterFields Cmnd → List Message → ℕ → Kept → Option InForce → Type 0
IsInForceOf f messages at k None =
    (status : Status) × IsStatus f messages (kept_name k) status × (window_at at status ≡ None)
IsInForceOf f messages at k (Some grant) =
    (status : Status) × IsStatus f messages (kept_name k) status
    × (window_at at status ≡ Some grant.window)
    × IsOnlyRequest messages (kept_name k) grant.request.now

-- a summary's request and its ceiling, if the name is neither disputed nor lapsed
abbrev pub IsOpenOf : RosterFields Cmnd → List Message → Kept → Option OpenRequest → Type 0
IsOpenOf f messages k None =
    (status : Status) × IsStatus f messages (kept_name k) status × (is_open status ≡ false)
IsOpenOf f messages k (Some o) =
    (status : Status) × IsStatus f messages (kept_name k) status
    × (is_open status ≡ true) × IsOnlyRequest messages (kept_name k) o.request.now
    × (o.request.now ≡ k.request) × (ceiling_at f o.request.now.ceiling ≡ Some o.ceiling.now)

-- the combined need over two lists of hosts
abbrev pub over_both : Need → Need → Need
over_both Needed other = Needed
over_both Needless other = other
over_both Unknown Needed = Needed
over_both Unknown Needless = Unknown
over_both Unknown Unknown = Unknown

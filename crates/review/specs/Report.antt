-- The report of a set of messages at a moment: who holds what, whose approvals did not count and
-- why, who holds conflicting duties, which grants are broad, and which verdicts wait for their
-- request (NIST SP 800-53 AC-5, AC-6(7)).
use Rattle.std.specs.Prelude.{◌≡◌, ℕ, ◌&&◌, Bool, true, false, List, [], ◌∷◌, ◌++◌}
use Rattle.std.specs.Prelude.{Contains, Option, Some, None, map, if◌then◌else◌, codes}
use Rattle.std.specs.List.{flat_map}
use Rattle.std.specs.List.Sorted.{IsStrictlySortedBy}
use Rattle.std.specs.declared.cmp.Ordering.{Ordering}
use Rattle.sudo_words.specs.Command.{cmnd_text}
use Rattle.sudo_words.specs.Moment.{stamp}
use Rattle.sudo_words.specs.declared.cmnd.Cmnd.{Cmnd}
use Rattle.sudo_words.specs.declared.cmnd.Cmnd.TheVariants.{All, Path, Dir}
use Rattle.sudo_policy.specs.declared.entry.Entry.{Entry as PolicyEntry}
use Rattle.messages.specs.Fields.{RequestFields}
use Rattle.messages.specs.Names.{IsNamed, name_cmp, name_of}
use Rattle.messages.specs.declared.request_name.RequestName.{RequestName}
use Rattle.messages.specs.declared.message.Message.{Message}
use Rattle.messages.specs.declared.message.Message.TheVariants.{Request}
use Rattle.roster.specs.Fields.{CeilingFields, Entry, RosterFields}
use Rattle.roster.specs.Relations.{ceiling_at, holds, pair_order}
use Rattle.grants.specs.Statuses.{IsStatus, window_at}
use Rattle.grants.specs.Verdicts.{StandsAlone}
use Rattle.grants.specs.declared.outcome.Status.{Status}
use Rattle.grants.specs.declared.outcome.Status.TheVariants.{Disputed, Lapsed, Refused}
use Rattle.grants.specs.declared.outcome.Status.TheVariants.{Waiting, Void, Granted}
use Rattle.grants.specs.declared.outcome.Window.{Window}
use Rattle.outcomes.specs.Parked.{AreParked}
use Rattle.review.specs.declared.need.Need.{Need}
use Rattle.review.specs.Barred.{AreBarredLines, HasApproved}
use Rattle.sudo_words.specs.Lists.{AreParts, IsEachOnce, is_before, text_order}
use Rattle.review.specs.Columns.{left, name_columns, lines_text}
use Rattle.review.specs.Needs.{IsNeed, need_text}

-- ---- whole lists

-- everything for which `Is` holds, each once, in order, and nothing else
pub record AreAll {X : Type 0} (order : X → X → Ordering)
    (Is : X → Type 0) (list : List X) : Type 0 where
  pub in_order : IsStrictlySortedBy order list
  pub each : (x : X) → Contains list x → Is x
  pub all : (x : X) → Is x → Contains list x

-- somebody asks under the name
pub record IsAsked (messages : List Message) (name : RequestName) : Type 0 where
  pub request : RequestFields
  pub asked : Contains messages (Request request)
  pub named : IsNamed request name

-- ---- the lines of a name, by its status

-- this is the only request with the name
pub record IsOnlyRequest (messages : List Message)
    (name : RequestName) (q : RequestFields) : Type 0 where
  pub named : IsNamed q name
  pub alone : StandsAlone messages q

-- the lines of a grant that is in force, and none if it is not
abbrev pub LinesInForce : (RequestFields → Window → List (List ℕ) → Type 0)
    → List Message → RequestName → Option Window → List (List ℕ) → Type 0
LinesInForce Of messages name None lines = lines ≡ []
LinesInForce Of messages name (Some w) lines =
    (q : RequestFields) × IsOnlyRequest messages name q × Of q w lines

pub record AreInForce (f : RosterFields Cmnd) (messages : List Message)
    (at : ℕ) (Of : RequestFields → Window → List (List ℕ) → Type 0)
    (name : RequestName) (lines : List (List ℕ)) : Type 0 where
  pub status : Status
  pub status_is : IsStatus f messages name status
  pub lines_are : LinesInForce Of messages name (window_at at status) lines

-- ---- LIVE: who asked, the number, the ceiling, the first and the last moment, and whether the
-- grant is needed beside the base

abbrev pub grant_columns : RequestFields → List ℕ
grant_columns q = name_columns (name_of q) ++ codes " " ++ left q.ceiling

abbrev pub span_columns : Window → List ℕ
span_columns w = codes " " ++ stamp w.start ++ codes " " ++ stamp w.end ++ codes " "

abbrev pub live_line : RequestFields → Window → Need → List ℕ
live_line q w need = grant_columns q ++ span_columns w ++ need_text need

abbrev pub IsLiveLine : (base : List PolicyEntry) → RequestFields → Window → List (List ℕ) → Type 0
IsLiveLine base q w lines = (need : Need) × IsNeed base q w need × (lines ≡ live_line q w need ∷ [])

-- ---- BROAD: each command of a grant in force that is ALL or a directory

abbrev pub broad_line : RequestFields → Cmnd → List ℕ
broad_line q cmnd = name_columns (name_of q) ++ codes " " ++ cmnd_text cmnd

abbrev pub broad_for : RequestFields → Cmnd → List (List ℕ)
broad_for q All = broad_line q All ∷ []
broad_for q (Path file rule) = []
broad_for q (Dir dir) = broad_line q (Dir dir) ∷ []

abbrev pub AreBroadLines : RequestFields → Window → List (List ℕ) → Type 0
AreBroadLines q w lines = lines ≡ flat_map (broad_for q) q.cmnds

-- ---- BARRED: for a name that is neither disputed nor lapsed, each person who approved and was
-- eligible at none of the approvals, and why not at the earliest

abbrev pub is_open : Status → Bool
is_open Disputed = false
is_open Lapsed = false
is_open Refused = true
is_open Waiting = true
is_open Void = true
is_open (Granted w) = true

pub record AreBarredUnder (f : RosterFields Cmnd) (messages : List Message)
    (q : RequestFields) (lines : List (List ℕ)) : Type 0 where
  pub ceiling : CeilingFields Cmnd
  pub people : List (List ℕ)
  pub ceiling_is : ceiling_at f q.ceiling ≡ Some ceiling
  pub people_are : AreAll text_order (HasApproved messages q) people
  pub lines_are : AreParts (AreBarredLines f messages ceiling q) people lines

abbrev pub BarredLines : RosterFields Cmnd → List Message
    → RequestName → Bool → List (List ℕ) → Type 0
BarredLines f messages name false lines = lines ≡ []
BarredLines f messages name true lines =
    (q : RequestFields) × IsOnlyRequest messages name q × AreBarredUnder f messages q lines

pub record AreBarred (f : RosterFields Cmnd) (messages : List Message)
    (name : RequestName) (lines : List (List ℕ)) : Type 0 where
  pub status : Status
  pub status_is : IsStatus f messages name status
  pub lines_are : BarredLines f messages name (is_open status) lines

-- ---- CONFLICTS: each conflicting pair of duties that a person holds at the moment, the lesser
-- duty first

abbrev pub lesser_first : List ℕ × List ℕ → List ℕ × List ℕ
lesser_first pair = if is_before pair.1 pair.0 then (pair.1, pair.0) else pair

abbrev pub ArePairs : RosterFields Cmnd → List (List ℕ × List ℕ) → Type 0
ArePairs f pairs = IsEachOnce pair_order (map lesser_first f.conflicts) pairs

abbrev pub holds_both : RosterFields Cmnd → (at : ℕ) → (person : List ℕ) → List ℕ × List ℕ → Bool
holds_both f at person pair = holds f person pair.0 at && holds f person pair.1 at

abbrev pub conflict_line : (person : List ℕ) → List ℕ × List ℕ → List ℕ
conflict_line person pair = left person ++ codes " " ++ left pair.0 ++ codes " " ++ pair.1

abbrev pub conflict_for : RosterFields Cmnd → (at : ℕ)
    → (person : List ℕ) → List ℕ × List ℕ → List (List ℕ)
conflict_for f at person pair =
    if holds_both f at person pair then conflict_line person pair ∷ [] else []

abbrev pub conflicts_of : RosterFields Cmnd → (at : ℕ)
    → (pairs : List (List ℕ × List ℕ)) → List ℕ × List Entry → List (List ℕ)
conflicts_of f at pairs person = flat_map (conflict_for f at person.0) pairs

-- ---- the whole

abbrev pub report_lines : ℕ → (live barred conflicts broad parked : List (List ℕ)) → List (List ℕ)
report_lines at live barred conflicts broad parked =
    (codes "REVIEW " ++ stamp at) ∷ codes "LIVE" ∷ live
    ++ codes "BARRED" ∷ barred
    ++ codes "CONFLICTS" ∷ conflicts
    ++ codes "BROAD" ∷ broad
    ++ codes "PARKED" ∷ parked

-- The report's text. LIVE, BARRED and BROAD go over the names that somebody asks under, in their
-- order; PARKED has the texts of the verdicts that wait for their request.
pub record IsReport (f : RosterFields Cmnd) (base : List PolicyEntry)
    (messages : List Message) (at : ℕ) (text : List ℕ) : Type 0 where
  pub names : List RequestName
  pub pairs : List (List ℕ × List ℕ)
  pub live : List (List ℕ)
  pub barred : List (List ℕ)
  pub broad : List (List ℕ)
  pub parked : List (List ℕ)
  pub names_are : AreAll name_cmp (IsAsked messages) names
  pub pairs_are : ArePairs f pairs
  pub live_are : AreParts (AreInForce f messages at (IsLiveLine base)) names live
  pub barred_are : AreParts (AreBarred f messages) names barred
  pub broad_are : AreParts (AreInForce f messages at AreBroadLines) names broad
  pub parked_are : AreParked messages parked
  pub text_is : text ≡ lines_text
      (report_lines at live barred (flat_map (conflicts_of f at pairs) f.people) broad parked)

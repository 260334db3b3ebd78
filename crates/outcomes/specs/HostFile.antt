-- A host's file: the base's canonical text, and after it one line for each command of each request
-- that names the host and whose window is not empty, with the window's first and last moment as
-- dates (sudoers(5), "NOTBEFORE").
use Rattle.std.specs.Prelude.{◌≡◌, ℕ, ◌<◌, ◌⊎◌, List, ◌++◌, Contains, Some, filter, map, slice_get}
use Rattle.sudo_words.specs.declared.cmnd.Cmnd.{Cmnd}
use Rattle.sudo_policy.specs.declared.entry.Rule.{Rule}
use Rattle.sudo_policy.specs.declared.entry.Entry.{Entry}
use Rattle.sudo_policy.specs.declared.entry.Entry.TheVariants as entries
use Rattle.sudo_policy.specs.Printing.{canon}
use Rattle.messages.specs.Fields.{RequestFields}
use Rattle.messages.specs.Names.{NamePrecedes, name_of}
use Rattle.messages.specs.declared.request_name.RequestName.{RequestName}
use Rattle.messages.specs.declared.message.Message.{Message}
use Rattle.roster.specs.Fields.{RosterFields}
use Rattle.grants.specs.GrantLines.{stays}
use Rattle.grants.specs.GrantRules.{grant_rule}
use Rattle.grants.specs.Statuses.{IsFirstMoment, IsLastMoment}
use Rattle.messages.specs.Order.{AreInOrder}

-- a line's place in the file, by the request's name and the command's place in it, and its rule
pub record Line : Type 0 where
  pub name : RequestName
  pub place : ℕ
  pub rule : Rule

-- The line of the command at a place in a request, on a host that the request names, from the first
-- moment of its window to the last.
pub record IsLine (f : RosterFields Cmnd) (messages : List Message)
    (host : List ℕ) (line : Line) : Type 0 where
  pub request : RequestFields
  pub first : ℕ
  pub last : ℕ
  pub cmnd : Cmnd
  pub names_host : Contains request.hosts host
  pub first_is : IsFirstMoment f messages request first
  pub last_is : IsLastMoment f messages request last
  pub cmnd_is : slice_get request.cmnds line.place ≡ Some cmnd
  pub name_is : line.name ≡ name_of request
  pub rule_is : line.rule ≡ grant_rule host request first last cmnd

-- by the asker in byte order, then the number, then the place of the command
abbrev pub LinePrecedes : (a b : Line) → Type 0
LinePrecedes a b = NamePrecedes a.name b.name ⊎ ((a.name ≡ b.name) × (a.place < b.place))

-- the lines that the set of messages gives the host: these and no others, in order
pub record AreLines (f : RosterFields Cmnd) (messages : List Message)
    (host : List ℕ) (lines : List Line) : Type 0 where
  pub in_order : AreInOrder LinePrecedes lines
  pub each : (line : Line) → Contains lines line → IsLine f messages host line
  pub all : (line : Line) → IsLine f messages host line → Contains lines line

abbrev pub with_lines : List Entry → List Line → List Entry
with_lines base lines = base ++ map (λ line. entries.Rule line.rule) lines

-- the text of the host's file
pub record IsHostFile (f : RosterFields Cmnd) (base : List Entry)
    (messages : List Message) (host text : List ℕ) : Type 0 where
  pub lines : List Line
  pub lines_are : AreLines f messages host lines
  pub text_is : text ≡ canon (with_lines base lines)

-- ---- without the lines that have ended

-- the lines that end at the moment or later
abbrev pub lines_after : ℕ → List Line → List Line
lines_after moment lines = filter (λ line. stays (Some moment) line.rule) lines

-- the text of the host's file without the lines that end before the moment
pub record IsHostFileAfter (f : RosterFields Cmnd) (base : List Entry)
    (messages : List Message) (host : List ℕ) (moment : ℕ) (text : List ℕ) : Type 0 where
  pub lines : List Line
  pub lines_are : AreLines f messages host lines
  pub text_is : text ≡ canon (with_lines base (lines_after moment lines))

-- What is left of a host's lines: all of them, or those that end at a moment or later.
use Rattle.std.specs.Prelude.{◌≡◌, ◌⊎◌, ℕ, ◌<◌, List, filter, length, Option}
use Rattle.sudo_words.specs.declared.cmnd.Cmnd.{Cmnd}
use Rattle.sudo_policy.specs.declared.entry.Entry.{Entry}
use Rattle.sudo_policy.specs.Printing.{canon}
use Rattle.sudo_policy.specs.Spelling.{Spells}
use Rattle.messages.specs.declared.message.Message.{Message}
use Rattle.roster.specs.Fields.{RosterFields}
use Rattle.grants.specs.GrantLines.{stays}
use Rattle.grants.specs.HostFaults.{most_lines}
use Rattle.grants.specs.declared.host_fault.HostFault.{HostFault}
use Rattle.grants.specs.declared.host_fault.HostFault.TheVariants.{TooManyRules, NoMemory}
use Rattle.outcomes.specs.HostFile.{Line, AreLines, with_lines}

-- those left of the host's lines; without a moment all are
abbrev pub lines_left : Option ℕ → List Line → List Line
lines_left after lines = filter (λ line. stays after line.rule) lines

-- the canonical text of the base with the lines that are left, and it spells just these entries
pub record IsFileLeft (f : RosterFields Cmnd) (base : List Entry) (messages : List Message)
    (host : List ℕ) (after : Option ℕ) (text : List ℕ) : Type 0 where
  pub lines : List Line
  pub lines_are : AreLines f messages host lines
  pub text_is : text ≡ canon (with_lines base (lines_left after lines))
  pub spelled : Spells text (with_lines base (lines_left after lines))

-- why there are no lines: want of memory, or too many are left
abbrev pub IsPast : RosterFields Cmnd → List Message → List ℕ → Option ℕ → HostFault → Type 0
IsPast f messages host after e =
    (e ≡ NoMemory) ⊎ ((e ≡ TooManyRules) × ((lines : List Line)
    → AreLines f messages host lines → most_lines < length (lines_left after lines)))

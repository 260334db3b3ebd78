-- The lines of a text that are still to be read, and the front that the lines before them left if
-- the last of those goes on. For private clauses.
use Rattle.std.specs.Prelude.{◌≡◌, ◌<◌, ◌⊎◌, List, [], ◌∷◌, ◌++◌, length}
use Rattle.sudo_policy.specs.declared.entry.Entry.{Entry}
use Rattle.sudo_policy.specs.declared.fault.FaultKind.{FaultKind}
use Rattle.sudo_policy.specs.declared.fault.FaultKind.TheVariants.{Line}
use Rattle.sudo_policy.specs.declared.fault.LineFault.{LineFault}
use Rattle.sudo_policy.specs.Text.{Text}
use Rattle.sudo_policy.specs.Lines.{Joined}
use Rattle.sudo_policy.specs.Spelling.{SpellsLines}

-- The lines are these when joined, with the front before the first if the front is not empty.
abbrev pub JoinedAfter : Text → List Text → List Text → Type 0
JoinedAfter front lines joined =
    ((front ≡ []) × Joined lines joined) ⊎ ((0 < length front) × (body : Text)
    × (more : List Text) × (joined ≡ (front ++ body) ∷ more) × Joined lines (body ∷ more))

abbrev pub SpellsAfter : Text → List Text → List Entry → Type 0
SpellsAfter front lines es =
    (joined : List Text) × JoinedAfter front lines joined × SpellsLines joined es

-- The lines after the front spell these entries, followed by what the rest spell after the next
-- front.
pub record Leads (front : Text) (lines : List Text)
    (here : List Entry) (next : Text) (rest : List Text) : Type 0 where
  pub adds : (es : List Entry) → SpellsAfter next rest es → SpellsAfter front lines (here ++ es)
  pub only : (es : List Entry) → SpellsAfter front lines es
      → (more : List Entry) × (es ≡ here ++ more) × SpellsAfter next rest more

-- the lines, joined where they go on, spell these entries
abbrev pub SpellsBy : List Text → List Entry → Type 0
SpellsBy lines es = (joined : List Text) × Joined lines joined × SpellsLines joined es

-- a fault of a line, and not of the bytes
abbrev pub IsInLine : FaultKind → Type 0
IsInLine kind = (fault : LineFault) × (kind ≡ Line fault)

-- What the functions that write a document add to its text; only private clauses cite this.
use Rattle.std.specs.Prelude.{◌≡◌, ℕ, true, List, ◌++◌}
use Rattle.std.specs.List.{concat}
use Rattle.findings.specs.Document.{joined}

-- such a text is added
abbrev pub Adds : (List ℕ → Type 0) → (old new : List ℕ) → Type 0
Adds IsText old new = (text : List ℕ) × (new ≡ old ++ text) × IsText text

-- such texts are added, with a comma before each but the first
abbrev pub AddsJoined : (List (List ℕ) → Type 0) → (old new : List ℕ) → Type 0
AddsJoined AreTexts old new =
    (texts : List (List ℕ)) × (new ≡ old ++ joined true texts) × AreTexts texts

-- such texts are added, one after the other
abbrev pub AddsAll : (List (List ℕ) → Type 0) → (old new : List ℕ) → Type 0
AddsAll AreTexts old new =
    (texts : List (List ℕ)) × (new ≡ old ++ concat texts) × AreTexts texts

-- The history of a site: which rosters and bases it had, and since when.
use Rattle.std.specs.Prelude.{◌≡◌, ◌⊎◌, ℕ, List, [], ◌∷◌, ◌++◌}
use Rattle.sudo_words.specs.Bytes.{newline}
use Rattle.sudo_policy.specs.declared.entry.Entry.{Entry}
use Rattle.desk.specs.Digests.{digests_text}

-- The text's last line ends with the digests of this roster and this base. Nothing is said of what
-- stands before them: no desk knows what was served before it began.
abbrev pub EndsWithDigests : (roster : List ℕ) → (base : List Entry) → (history : List ℕ) → Type 0
EndsWithDigests roster base history =
    (before : List ℕ) × (history ≡ before ++ digests_text roster base ++ newline ∷ [])

-- what a desk of this roster and base knows of the history: nothing, or a text that ends so
abbrev pub IsHistory : (roster : List ℕ) → (base : List Entry) → (history : List ℕ) → Type 0
IsHistory roster base history = (history ≡ []) ⊎ EndsWithDigests roster base history

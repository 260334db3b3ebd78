-- Lists in a strict order; the byte order of texts, and lists of texts that rise strictly in it.
use Rattle.std.specs.Prelude.{◌≡◌, ℕ, Bool, true, ◌&&◌, List, [], ◌∷◌}
use Rattle.sudo_words.specs.Lists.{is_before}

-- ---- lists in a strict order

-- the element precedes each element of the list
abbrev pub AllAfter : {X : Type 0} → (X → X → Type 0) → X → List X → Type 0
AllAfter Precedes x [] = Unit {0}
AllAfter Precedes x (y ∷ ys) = Precedes x y × AllAfter Precedes x ys

-- each element precedes all after it
abbrev pub AreInOrder : {X : Type 0} → (X → X → Type 0) → List X → Type 0
AreInOrder Precedes [] = Unit {0}
AreInOrder Precedes (x ∷ more) = AllAfter Precedes x more × AreInOrder Precedes more

-- ---- texts in byte order

abbrev pub TextPrecedes : (a b : List ℕ) → Type 0
TextPrecedes a b = is_before a b ≡ true

-- `low` comes before the first text, and each text before the next
abbrev pub rises_from : List ℕ → List (List ℕ) → Bool
rises_from low [] = true
rises_from low (w ∷ ws) = is_before low w && rises_from w ws

-- each text comes before the next, so none comes twice
abbrev pub is_rising : List (List ℕ) → Bool
is_rising [] = true
is_rising (w ∷ ws) = rises_from w ws

abbrev pub IsRising : List (List ℕ) → Type 0
IsRising ws = is_rising ws ≡ true

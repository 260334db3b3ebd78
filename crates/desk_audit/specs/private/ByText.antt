-- Messages in a map by their texts.
use Rattle.std.specs.Prelude.{◌≡◌, ℕ, List, Contains}
use Rattle.std.specs.BTreeMap.{BTreeMap, IsOrdered}
use Rattle.std.specs.Cmp.Lexicographic.{slice_cmp}
use Rattle.std.specs.Ordering.{nat_cmp}
use Rattle.messages.specs.Wire.{wire}
use Rattle.messages.specs.declared.message.Message.{Message}

-- Each entry is a message of the list under its text, and each text of the list has an entry.
pub record AreByText (list : List Message) (all : BTreeMap (List ℕ) Message) : Type 0 where
  pub ordered : IsOrdered (slice_cmp nat_cmp) all
  pub each : (entry : List ℕ × Message) → Contains all.entries entry
      → Contains list entry.1 × (entry.0 ≡ wire entry.1)
  pub all_there : (m : Message) → Contains list m
      → (n : Message) × Contains all.entries (wire m, n)

-- Where a fault of a text is, and what `extend` answers.
use Rattle.std.specs.Prelude.{◌≡◌, ℕ, ◌+◌, ◌≤◌, ◌==◌, false, List, ◌∷◌, ◌++◌, count_by, map}
use Rattle.sudo_words.specs.Bytes.{newline}
use Rattle.sudo_policy.specs.Text.{Text}
use Rattle.sudo_policy.specs.Lex.{is_text_byte}
use Rattle.sudo_policy.specs.declared.entry.Rule.{Rule}
use Rattle.sudo_policy.specs.declared.entry.Entry.{Entry}
use Rattle.sudo_policy.specs.declared.entry.Entry.TheVariants as entries

-- the text has a byte that no text may have
abbrev pub HasOtherByte : Text → Type 0
HasOtherByte text =
    (front rest : Text) × (b : ℕ) × (text ≡ front ++ b ∷ rest) × (is_text_byte b ≡ false)

-- a line of the text, from 1 to one past the count of its newlines
abbrev pub IsLineOf : Text → ℕ → Type 0
IsLineOf text line = (1 ≤ line) × (line ≤ 1 + count_by (λ b. b == newline) text)

-- entries with these rules after them
abbrev pub with_rules : List Entry → List Rule → List Entry
with_rules es rules = es ++ map entries.Rule rules

-- Texts that spell the same, and lines that differ in their comment or in how they go on
-- (sudoers(5), "Other special characters and reserved words").
use Rattle.std.specs.Prelude.{◌≡◌, ◌≤◌, true, List, [], ◌∷◌, ◌++◌, length}
use Rattle.sudo_words.specs.Bytes.{backslash}
use Rattle.sudo_policy.specs.declared.entry.Entry.{Entry}
use Rattle.sudo_policy.specs.Limits.{most_text_bytes}
use Rattle.sudo_policy.specs.Text.{Text}
use Rattle.sudo_policy.specs.Span.{Each}
use Rattle.sudo_policy.specs.Lex.{is_text_byte}
use Rattle.sudo_policy.specs.Lines.{lines_of, is_no_hash, is_before_comment}
use Rattle.sudo_policy.specs.Lines.{is_comment, IsContinued}
use Rattle.sudo_policy.specs.Spelling.{Spells}

-- only bytes that a text may have, and not too many
abbrev pub IsText : Text → Type 0
IsText text = (length text ≤ most_text_bytes) × Each is_text_byte text

-- each spells what the other spells, if both may be texts
abbrev pub SpellAlike : Text → Text → Type 0
SpellAlike text other =
    IsText text → IsText other → (es : List Entry)
    → (Spells text es → Spells other es) × (Spells other es → Spells text es)

-- The texts have the same lines, except that in one place the first has these and the other those.
pub record DifferIn (text other : Text) (these those : List Text) : Type 0 where
  pub before : List Text
  pub after : List Text
  pub text_is : lines_of text ≡ before ++ (these ++ after)
  pub other_is : lines_of other ≡ before ++ (those ++ after)

-- a line without `#`, after which a comment with this note may stand
pub record MayHaveNote (line note : Text) : Type 0 where
  pub each : Each is_no_hash line
  pub before : is_before_comment line ≡ true
  pub comment : is_comment note ≡ true

-- `FRONT \` and the next line, which is not a backslash alone; and the one line in their place
abbrev pub GoesOnWith : Text → Text → Type 0
GoesOnWith front next = IsContinued (front ++ backslash ∷ []) front × (next ≡ backslash ∷ [] → ⊥)

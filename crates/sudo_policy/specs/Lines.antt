-- The lines of a text: comments are taken out, and continued lines are joined (sudoers(5), "Other
-- special characters and reserved words").
use Rattle.std.specs.Prelude.{◌≡◌, ℕ, ◌-◌, ◌==◌, nat_eq, Bool, true, false, not, ◌&&◌}
use Rattle.std.specs.Prelude.{◌||◌, ◌⊎◌, slice_index, List, [], ◌∷◌, ◌++◌, length, codes}
use Rattle.std.specs.List.{slice_split, starts_with, ends_with}
use Rattle.sudo_words.specs.Bytes.{space, newline, equals, comma, colon, backslash, hash}
use Rattle.sudo_words.specs.Word.{is_digit}
use Rattle.sudo_policy.specs.Text.{Text}
use Rattle.sudo_policy.specs.Span.{Each}
use Rattle.sudo_policy.specs.Lex.{is_blank}

-- a line of the text ends at a newline or where the text ends
abbrev pub lines_of : Text → List Text
lines_of text = slice_split (λ b. b == newline) text

abbrev pub is_no_hash : ℕ → Bool
is_no_hash b = not (b == hash)

abbrev pub ends_in_backslash : Text → Bool
ends_in_backslash text = ends_with nat_eq text (codes "\\")

-- whether the last byte passes; where there is none, it does not
abbrev pub last_passes : (ℕ → Bool) → Text → Bool
last_passes p [] = false
last_passes p (b ∷ bs) = p (slice_index (b ∷ bs) (length (b ∷ bs) - 1))

-- what may follow the `#` of a comment: neither a digit nor `include`, and no backslash at its end
abbrev pub begins_with_digit : Text → Bool
begins_with_digit [] = false
begins_with_digit (b ∷ bs) = is_digit b

abbrev pub is_comment : Text → Bool
is_comment text = not (begins_with_digit text)
    && not (starts_with nat_eq text (codes "include")) && not (ends_in_backslash text)

-- a comment begins a line, or stands after a blank
abbrev pub is_before_comment : Text → Bool
is_before_comment [] = true
is_before_comment (b ∷ bs) = last_passes is_blank (b ∷ bs)

-- ---- each line is one of three

-- a plain line: it has no `#`, and does not end in a backslash
pub record IsPlain (line : Text) : Type 0 where
  pub each : Each is_no_hash line
  pub ends : ends_in_backslash line ≡ false

-- a line with a comment: a text without `#`, and after it `#` and what may follow
pub record HasComment (line text comment : Text) : Type 0 where
  pub whole : line ≡ text ++ hash ∷ comment
  pub each : Each is_no_hash text
  pub before : is_before_comment text ≡ true
  pub allowed : is_comment comment ≡ true

-- a line may go on after a blank, `,`, `=` or `:`
abbrev pub may_go_on : ℕ → Bool
may_go_on b = is_blank b || (b == comma) || (b == equals) || (b == colon)

-- a line that goes on: such a front and a backslash, without a comment
pub record IsContinued (line front : Text) : Type 0 where
  pub whole : line ≡ front ++ backslash ∷ []
  pub each : Each is_no_hash front
  pub ends : last_passes may_go_on front ≡ true

-- what is read of a line that does not go on: all of a plain line, or what stands before a comment
abbrev pub IsBody : Text → Text → Type 0
IsBody line body =
    (IsPlain line × (body ≡ line)) ⊎ ((comment : Text) × HasComment line body comment)

-- The lines are these when joined. The last does not go on.
abbrev pub Joined : List Text → List Text → Type 0
Joined [] joined = joined ≡ []
Joined (line ∷ lines) joined =
    -- the first is complete, and the rest is joined by itself
    ((body : Text) × (more : List Text) × IsBody line body
    × (joined ≡ body ∷ more) × Joined lines more)
    -- or the first goes on, and the first joined line of the rest follows it after one space
    ⊎ ((front body : Text) × (more : List Text) × IsContinued line front
    × (joined ≡ (front ++ space ∷ body) ∷ more) × Joined lines (body ∷ more))

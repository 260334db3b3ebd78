-- Texts that spell policies (sudoers(5), "SUDOERS FILE FORMAT").
use Rattle.std.specs.Prelude.{◌≡◌, ◌≤◌, List, [], ◌∷◌, ◌++◌, length}
use Rattle.sudo_policy.specs.declared.entry.Entry.{Entry}
use Rattle.sudo_policy.specs.declared.tree.Line.{Line}
use Rattle.sudo_policy.specs.Limits.{most_text_bytes}
use Rattle.sudo_policy.specs.Text.{Text}
use Rattle.sudo_policy.specs.Span.{Each}
use Rattle.sudo_policy.specs.Lex.{Tok, Lexes, is_text_byte}
use Rattle.sudo_policy.specs.Lines.{lines_of, Joined}
use Rattle.sudo_policy.specs.Grammar.{SpellsTree}
use Rattle.sudo_policy.specs.Inheritance.{entries_of}
use Rattle.sudo_policy.specs.Policy.{IsPolicy}

-- tokens and the entries that they stand for; where there is no token there is no entry
abbrev pub SpellsEntries : List Tok → List Entry → Type 0
SpellsEntries [] es = es ≡ []
SpellsEntries (t ∷ ts) es = (line : Line) × SpellsTree (t ∷ ts) line × (es ≡ entries_of line)

-- a line without its comment, joined with those that continue it, and the entries that it stands
-- for
abbrev pub SpellsLine : Text → List Entry → Type 0
SpellsLine line es = (ts : List Tok) × Lexes line ts × SpellsEntries ts es

-- the lines stand for these entries in order
abbrev pub SpellsLines : List Text → List Entry → Type 0
SpellsLines [] es = es ≡ []
SpellsLines (line ∷ lines) es =
    (here rest : List Entry) × SpellsLine line here × (es ≡ here ++ rest) × SpellsLines lines rest

-- The text, of at most 16 MiB of the bytes that a text may have, spells the policy.
pub record Spells (text : Text) (es : List Entry) : Type 0 where
  pub short : length text ≤ most_text_bytes
  pub bytes : Each is_text_byte text
  pub joined : List Text
  pub lines : Joined (lines_of text) joined
  pub entries : SpellsLines joined es
  pub policy : IsPolicy es

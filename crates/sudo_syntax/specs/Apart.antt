-- Specifications and definitions that are joined by `:`, and on lines of their own (sudoers(5),
-- "Aliases", "User specification").
use Rattle.std.specs.Prelude.{List, [], ◌∷◌, ◌++◌, codes}
use Rattle.sudo_words.specs.Bytes.{space, colon}
use Rattle.sudo_policy.specs.declared.entry.Signed.{Signed}
use Rattle.sudo_policy.specs.declared.entry.Entry.{Entry}
use Rattle.sudo_policy.specs.declared.tree.Definition.{Definition}
use Rattle.sudo_policy.specs.declared.tree.Part.{Part}
use Rattle.sudo_policy.specs.Text.{Text, Names}
use Rattle.sudo_policy.specs.Lex.{Tok, Lexes}
use Rattle.sudo_policy.specs.Grammar.{Listed, Users, SpellsPart, SpellsDef}
use Rattle.sudo_policy.specs.Spelling.{SpellsLine}

-- the bytes, all of them, are these users
abbrev pub AreUsers : Text → Names → Type 0
AreUsers bytes users = (ts : List Tok) × Lexes bytes ts × Users ts users []

-- these parts, with `:` between
abbrev pub AreColonParts : Text → List Part → Type 0
AreColonParts bytes parts = (ts : List Tok) × Lexes bytes ts × Listed colon SpellsPart ts parts []

-- these definitions, with `:` between
abbrev pub AreDefs : {X : Type 0} → (List Tok → Signed X → List Tok → Type 0)
    → Text → List (Definition X) → Type 0
AreDefs Is bytes defs = (ts : List Tok) × Lexes bytes ts × Listed colon (SpellsDef Is) ts defs []

-- `BEGIN FIRST : SECOND` spells what the lines `BEGIN FIRST` and `BEGIN SECOND` spell, one after
-- the other
abbrev pub SpellsBoth : (begin first second : Text) → Type 0
SpellsBoth begin first second =
    (a b : List Entry) → SpellsLine (begin ++ space ∷ first) a
    → SpellsLine (begin ++ space ∷ second) b
    → SpellsLine (begin ++ space ∷ (first ++ codes " : " ++ second)) (a ++ b)

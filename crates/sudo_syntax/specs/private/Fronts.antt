-- What stands at the front of tokens, and what may stand after what is read. For private clauses.
use Rattle.std.specs.Prelude.{◌≡◌, ◌≢◌, ℕ, Bool, true, false, ◌⊎◌, List, [], ◌∷◌, map, Option}
use Rattle.sudo_words.specs.Bytes.{equals, colon}
use Rattle.sudo_words.specs.Word.{is_upper}
use Rattle.sudo_words.specs.Moment as moments
use Rattle.sudo_words.specs.Command.{arg_text}
use Rattle.sudo_words.specs.declared.cmnd.ArgRule.{ArgRule}
use Rattle.sudo_words.specs.declared.cmnd.ArgRule.TheVariants as rules
use Rattle.sudo_policy.specs.declared.tags.Tag.{Tag}
use Rattle.sudo_policy.specs.declared.tags.GivenTags.{GivenTags}
use Rattle.sudo_policy.specs.Lex.{Tok, word, mark}
use Rattle.sudo_policy.specs.Grammar.{Date, GivesBound, Bounds, SpellsDates, SpellsTags}
use Rattle.sudo_policy.specs.Grammar.{begins_spaced, Listed}
use Rattle.sudo_policy.specs.Tags.{tag_word, given_by}

abbrev pub NoWord : List Tok → Type 0
NoWord [] = Unit {0}
NoWord (word a n text ∷ ts) = ⊥
NoWord (mark a byte ∷ ts) = Unit {0}

-- what does not begin with this mark
abbrev pub NoMark : ℕ → List Tok → Type 0
NoMark m [] = Unit {0}
NoMark m (word a n text ∷ ts) = Unit {0}
NoMark m (mark a byte ∷ ts) = byte ≢ m

-- nothing, this mark or `:`
abbrev pub EndsBy : ℕ → List Tok → Type 0
EndsBy m [] = Unit {0}
EndsBy m (word a n text ∷ ts) = ⊥
EndsBy m (mark a byte ∷ ts) = (byte ≡ m) ⊎ (byte ≡ colon)

-- what does not begin with a word after blanks
abbrev pub NoArg : List Tok → Type 0
NoArg ts = (text : List ℕ) (next : List Tok) → ts ≢ word true 0 text ∷ next

-- what does not begin with a word, `=` and a word without blanks between
abbrev pub NoDate : List Tok → Type 0
NoDate ts = (a : Bool) (name time : List ℕ) (next : List Tok)
    → ts ≢ word a 0 name ∷ mark false equals ∷ word false 0 time ∷ next

-- what does not begin with a word and this mark
abbrev pub NoHead : ℕ → List Tok → Type 0
NoHead m ts = (a b : Bool) (name : List ℕ) (next : List Tok) → ts ≢ word a 0 name ∷ mark b m ∷ next

-- what does not begin with a tag
abbrev pub NoTag : List Tok → Type 0
NoTag ts =
    (a b : Bool) (tag : Tag) (next : List Tok) → ts ≢ word a 0 (tag_word tag) ∷ mark b colon ∷ next

-- arguments, each after blanks
abbrev pub arg_toks : List (List ℕ) → List Tok
arg_toks args = map (λ arg. word true 0 (arg_text arg)) args

-- the rule of listed arguments: any are allowed if none is listed
abbrev pub rule_from : List (List ℕ) → ArgRule
rule_from [] = rules.Any
rule_from (arg ∷ args) = rules.Exactly (arg ∷ args)

-- whether the first byte is an upper-case letter
abbrev pub begins_upper : List ℕ → Bool
begins_upper [] = false
begins_upper (b ∷ bs) = is_upper b

-- an option of this word and time gives the bounds
abbrev pub AddsBound : (before after : Option ℕ)
    → (name time : List ℕ) → (new_before new_after : Option ℕ) → Type 0
AddsBound before after name time new_before new_after =
    (moment : ℕ) × moments.SpellsMoment time moment
    × GivesBound before after (record { word = name; moment = moment }) new_before new_after

-- options that give these bounds, after options that gave others
abbrev pub Dated : (before after : Option ℕ) → List Tok
    → (new_before new_after : Option ℕ) → List Tok → Type 0
Dated before after ts new_before new_after rest =
    (dates : List Date) × SpellsDates ts dates rest × Bounds before after dates new_before new_after

-- tags that give this
abbrev pub Tagged : List Tok → GivenTags → List Tok → Type 0
Tagged ts given rest = (tags : List Tag) × SpellsTags ts tags rest × (given ≡ given_by tags)

-- what does not begin with this word
abbrev pub NoKind : List ℕ → List Tok → Type 0
NoKind kind ts = (a : Bool) (next : List Tok) → ts ≢ word a 0 kind ∷ next

-- the word of a kind, and after blanks definitions with `:` between
abbrev pub Defines : {X : Type 0} → List ℕ
    → (List Tok → X → List Tok → Type 0) → List Tok → List X → Type 0
Defines kind Is ts defs =
    (a : Bool) × (next : List Tok) × (ts ≡ word a 0 kind ∷ next)
    × (begins_spaced next ≡ true) × Listed colon Is next defs []

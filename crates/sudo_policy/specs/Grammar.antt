-- The grammar of a line (sudoers(5), "SUDOERS FILE FORMAT"): definitions of aliases, or a user
-- specification. Each relation is between tokens, what they begin with, and the tokens that follow
-- it. A token's Bool says whether blanks stand before it: a variable where they may, true where
-- they must, false where they may not.
use Rattle.std.specs.Prelude.{◌≡◌, ℕ, ◌%◌, ◌==◌, Bool, true, false, ◌⊎◌, List, [], ◌∷◌}
use Rattle.std.specs.Prelude.{◌++◌, map, Option, Some, None, codes}
use Rattle.sudo_words.specs.Bytes.{equals, comma, colon, opening, closing, quote}
use Rattle.sudo_words.specs.Word.{is_name, is_host_name, is_alias_name}
use Rattle.sudo_words.specs.Moment as moments
use Rattle.sudo_words.specs.Command.{head_text, rule_of, arg_text}
use Rattle.sudo_words.specs.declared.cmnd.ArgRule.{ArgRule}
use Rattle.sudo_words.specs.declared.cmnd.ArgRule.TheVariants as rules
use Rattle.sudo_policy.specs.declared.entry.Signed.{Signed}
use Rattle.sudo_policy.specs.declared.entry.Item.{Item}
use Rattle.sudo_policy.specs.declared.entry.CmndItem.{CmndItem}
use Rattle.sudo_policy.specs.declared.entry.CmndItem.TheVariants as cmnds
use Rattle.sudo_policy.specs.declared.tags.Tag.{Tag}
use Rattle.sudo_policy.specs.declared.tree.Definition.{Definition}
use Rattle.sudo_policy.specs.declared.tree.CmndSpec.{CmndSpec}
use Rattle.sudo_policy.specs.declared.tree.Part.{Part}
use Rattle.sudo_policy.specs.declared.tree.Line.{Line}
use Rattle.sudo_policy.specs.declared.tree.Line.TheVariants as lines
use Rattle.sudo_policy.specs.Text.{Names}
use Rattle.sudo_policy.specs.Lex.{Tok, word, mark, is_spaced}
use Rattle.sudo_policy.specs.Policy.{IsItem, IsCmndItem}
use Rattle.sudo_policy.specs.Tags.{tag_word, given_by}
use Rattle.sudo_policy.specs.Printing.{item_text}

-- whether blanks stand before the first token
abbrev pub begins_spaced : List Tok → Bool
begins_spaced [] = false
begins_spaced (t ∷ ts) = is_spaced t

-- ---- lists: one or more elements, with a mark between, and blanks round it or not

abbrev pub More : {X : Type 0} → ℕ → (List Tok → X → List Tok → Type 0)
    → List Tok → List X → List Tok → Type 0
More m Is ts [] rest = ts ≡ rest
More m Is ts (x ∷ xs) rest =
    (a : Bool) × (next mid : List Tok) × (ts ≡ mark a m ∷ next)
    × Is next x mid × More m Is mid xs rest

abbrev pub Listed : {X : Type 0} → ℕ → (List Tok → X → List Tok → Type 0)
    → List Tok → List X → List Tok → Type 0
Listed m Is ts [] rest = ⊥
Listed m Is ts (x ∷ xs) rest = (mid : List Tok) × Is ts x mid × More m Is mid xs rest

-- ---- items: an odd number of `!` negates

abbrev pub is_odd : ℕ → Bool
is_odd n = n % 2 == 1

-- `ALL`, a name of the form, or an alias
pub record SpellsItem (form : List ℕ → Bool) (ts : List Tok)
    (s : Signed (Item (List ℕ))) (rest : List Tok) : Type 0 where
  pub spaced : Bool
  pub bangs : ℕ
  pub toks : ts ≡ word spaced bangs (item_text s.item) ∷ rest
  pub item : IsItem form s.item
  pub sign : s.negated ≡ is_odd bangs

-- what stands after a path: nothing, `""`, or arguments, each after blanks
abbrev pub rule_toks : ArgRule → List Tok
rule_toks rules.Any = []
rule_toks rules.Empty = mark true quote ∷ mark false quote ∷ []
rule_toks (rules.Exactly args) = map (λ arg. word true 0 (arg_text arg)) args

abbrev pub head_of : CmndItem → List ℕ
head_of (cmnds.Alias name) = name
head_of (cmnds.Cmnd cmnd) = head_text cmnd

abbrev pub args_of : CmndItem → List Tok
args_of (cmnds.Alias name) = []
args_of (cmnds.Cmnd cmnd) = rule_toks (rule_of cmnd)

-- a command, or an alias of commands
pub record SpellsCmnd (ts : List Tok) (s : Signed CmndItem) (rest : List Tok) : Type 0 where
  pub spaced : Bool
  pub bangs : ℕ
  pub toks : ts ≡ word spaced bangs (head_of s.item) ∷ (args_of s.item ++ rest)
  pub item : IsCmndItem s.item
  pub sign : s.negated ≡ is_odd bangs

abbrev pub Users : List Tok → Names → List Tok → Type 0
Users = Listed comma (SpellsItem is_name)

abbrev pub Hosts : List Tok → Names → List Tok → Type 0
Hosts = Listed comma (SpellsItem is_host_name)

abbrev pub Cmnds : List Tok → List (Signed CmndItem) → List Tok → Type 0
Cmnds = Listed comma SpellsCmnd

-- ---- a command of a user specification: targets, dates and tags of its own, and the command

-- the targets, in parentheses
abbrev pub SpellsRunas : List Tok → Option Names → List Tok → Type 0
SpellsRunas ts None rest = ts ≡ rest
SpellsRunas ts (Some runas) rest =
    (a b : Bool) × (next mid : List Tok) × (ts ≡ mark a opening ∷ next)
    × Users next runas mid × (mid ≡ mark b closing ∷ rest)

-- an option: its word, and its moment
pub record Date : Type 0 where
  pub word : List ℕ
  pub moment : ℕ

-- the options, with blanks after each
abbrev pub SpellsDates : List Tok → List Date → List Tok → Type 0
SpellsDates ts [] rest = ts ≡ rest
SpellsDates ts (date ∷ dates) rest =
    (a : Bool) × (time : List ℕ) × (next : List Tok) × moments.SpellsMoment time date.moment
    × (ts ≡ word a 0 date.word ∷ mark false equals ∷ word false 0 time ∷ next)
    × (begins_spaced next ≡ true) × SpellsDates next dates rest

-- An option gives a bound that was not given before; the other stays.
abbrev pub GivesBound : (before after : Option ℕ)
    → Date → (new_before new_after : Option ℕ) → Type 0
GivesBound before after date new_before new_after =
    ((date.word ≡ codes "NOTBEFORE") × (before ≡ None) × (new_before ≡ Some date.moment)
    × (new_after ≡ after)) ⊎ ((date.word ≡ codes "NOTAFTER") × (after ≡ None)
    × (new_after ≡ Some date.moment) × (new_before ≡ before))

-- The bounds that the options give, in order, after earlier options that gave these so far.
abbrev pub Bounds : (before after : Option ℕ) → List Date
    → (not_before not_after : Option ℕ) → Type 0
Bounds before after [] not_before not_after = (not_before ≡ before) × (not_after ≡ after)
Bounds before after (date ∷ dates) not_before not_after =
    (new_before new_after : Option ℕ) × GivesBound before after date new_before new_after
    × Bounds new_before new_after dates not_before not_after

-- the tags, with `:` after each
abbrev pub SpellsTags : List Tok → List Tag → List Tok → Type 0
SpellsTags ts [] rest = ts ≡ rest
SpellsTags ts (tag ∷ tags) rest =
    (a b : Bool) × (next : List Tok)
    × (ts ≡ word a 0 (tag_word tag) ∷ mark b colon ∷ next) × SpellsTags next tags rest

pub record SpellsCmndSpec (ts : List Tok) (s : CmndSpec) (rest : List Tok) : Type 0 where
  pub after_runas : List Tok
  pub dates : List Date
  pub after_dates : List Tok
  pub tags : List Tag
  pub after_tags : List Tok
  pub runas : SpellsRunas ts s.runas after_runas
  pub dated : SpellsDates after_runas dates after_dates
  pub bounds : Bounds None None dates s.not_before s.not_after
  pub tagged : SpellsTags after_dates tags after_tags
  pub given : s.tags ≡ given_by tags
  pub cmnd : SpellsCmnd after_tags s.cmnd rest

abbrev pub CmndSpecs : List Tok → List CmndSpec → List Tok → Type 0
CmndSpecs = Listed comma SpellsCmndSpec

-- hosts, `=` and commands
pub record SpellsPart (ts : List Tok) (p : Part) (rest : List Tok) : Type 0 where
  pub spaced : Bool
  pub next : List Tok
  pub hosts : Hosts ts p.hosts (mark spaced equals ∷ next)
  pub specs : CmndSpecs next p.specs rest

-- a name, `=` and a list
pub record SpellsDef {X : Type 0} (Is : List Tok → Signed X → List Tok → Type 0)
    (ts : List Tok) (d : Definition X) (rest : List Tok) : Type 0 where
  pub name_spaced : Bool
  pub spaced : Bool
  pub next : List Tok
  pub toks : ts ≡ word name_spaced 0 d.name ∷ mark spaced equals ∷ next
  pub name : is_alias_name d.name ≡ true
  pub list : Listed comma Is next d.list rest

-- the word of a kind, and after blanks definitions with `:` between
abbrev pub SpellsAliases : {X : Type 0} → List ℕ
    → (List Tok → Signed X → List Tok → Type 0) → List Tok → List (Definition X) → Type 0
SpellsAliases kind Is ts defs =
    (a : Bool) × (next : List Tok) × (ts ≡ word a 0 kind ∷ next)
    × (begins_spaced next ≡ true) × Listed colon (SpellsDef Is) next defs []

-- users, and after blanks parts with `:` between
abbrev pub SpellsUserSpec : List Tok → Names → List Part → Type 0
SpellsUserSpec ts users parts =
    (next : List Tok) × Users ts users next
    × (begins_spaced next ≡ true) × Listed colon SpellsPart next parts []

abbrev pub SpellsTree : List Tok → Line → Type 0
SpellsTree ts (lines.Users defs) = SpellsAliases (codes "User_Alias") (SpellsItem is_name) ts defs
SpellsTree ts (lines.Runas defs) = SpellsAliases (codes "Runas_Alias") (SpellsItem is_name) ts defs
SpellsTree ts (lines.Hosts defs) =
    SpellsAliases (codes "Host_Alias") (SpellsItem is_host_name) ts defs
SpellsTree ts (lines.Cmnds defs) = SpellsAliases (codes "Cmnd_Alias") SpellsCmnd ts defs
SpellsTree ts (lines.UserSpec users parts) = SpellsUserSpec ts users parts

-- What the words of a command line ask.
use Rattle.std.specs.Prelude.{◌≡◌, ℕ, Bool, true, false, ◌&&◌, ◌||◌, not, ◌==◌}
use Rattle.std.specs.Prelude.{if◌then◌else◌, List, [], ◌∷◌, ◌++◌, Option, Some, None, codes}
use Rattle.std.specs.Prelude.{string_bytes}
use Rattle.std.specs.Str.{bytes_eq}
use Rattle.sudo_words.specs.Moment.{IsStamp}
use Rattle.findings.specs.declared.words.Choice.{Choice}
use Rattle.findings.specs.declared.words.Choice.TheVariants.{From, Until, Host, Person}
use Rattle.findings.specs.declared.words.Question.{Question}

-- ---- what words say

-- What is said so far: the words that are no option's, each option's word, whether `--json` has
-- come, the option whose word comes next, and whether `--` has come.
pub record Heard : Type 0 where
  pub places : List (List ℕ)
  pub from : Option (List ℕ)
  pub until : Option (List ℕ)
  pub host : Option (List ℕ)
  pub person : Option (List ℕ)
  pub as_json : Bool
  pub choice : Option Choice
  pub is_ended : Bool

abbrev pub nothing_heard : Heard
nothing_heard = record {
  places = [];
  from = None;
  until = None;
  host = None;
  person = None;
  as_json = false;
  choice = None;
  is_ended = false;
}

-- the option with this text
abbrev pub choice_of : List ℕ → Option Choice
choice_of word =
    if bytes_eq word (codes "--from") then Some From
    else if bytes_eq word (codes "--until") then Some Until
    else if bytes_eq word (codes "--host") then Some Host
    else if bytes_eq word (codes "--person") then Some Person
    else None

abbrev pub begins_with_dash : List ℕ → Bool
begins_with_dash [] = false
begins_with_dash (b ∷ bs) = b == 45

-- the word begins with `-` and is longer
abbrev pub is_flag : List ℕ → Bool
is_flag word = not (bytes_eq word (codes "-")) && begins_with_dash word

-- the word is the option's
abbrev pub with_choice : Choice → Heard → List ℕ → Heard
with_choice From h word = record h { from = Some word; choice = None }
with_choice Until h word = record h { until = Some word; choice = None }
with_choice Host h word = record h { host = Some word; choice = None }
with_choice Person h word = record h { person = Some word; choice = None }

abbrev pub with_flag : Heard → List ℕ → Heard
with_flag h word =
    if bytes_eq word (codes "--") then record h { is_ended = true }
    else if bytes_eq word (codes "--json") then record h { as_json = true }
    else record h { choice = choice_of word }

-- one more word, as the option's that waits for one, if one does
abbrev pub hear_as : Option Choice → Heard → List ℕ → Heard
hear_as (Some choice) h word = with_choice choice h word
hear_as None h word =
    if h.is_ended || not (is_flag word)
    then record h { places = h.places ++ word ∷ [] }
    else with_flag h word

abbrev pub hear : Heard → List ℕ → Heard
hear h word = hear_as h.choice h word

abbrev pub hear_all : Heard → List (List ℕ) → Heard
hear_all h [] = h
hear_all h (word ∷ words) = hear_all (hear h word) words

-- ---- what the words ask

-- the word, if there is one, is the stamp of the moment, if there is one
abbrev pub IsMomentOf : Option (List ℕ) → Option ℕ → Type 0
IsMomentOf None None = Unit {0}
IsMomentOf None (Some t) = ⊥
IsMomentOf (Some word) None = ⊥
IsMomentOf (Some word) (Some t) = IsStamp word t

-- Three words are the files, and each option has its own word.
pub record WordsAsk (h : Heard) (q : Question) : Type 0 where
  pub places :
      h.places ≡ string_bytes q.roster ∷ string_bytes q.base ∷ string_bytes q.store ∷ []
  pub from : IsMomentOf h.from q.pick.from
  pub until : IsMomentOf h.until q.pick.until
  pub host : h.host ≡ q.pick.host
  pub person : h.person ≡ q.pick.person
  pub as_json : h.as_json ≡ q.as_json
  pub complete : h.choice ≡ None

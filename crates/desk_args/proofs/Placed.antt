-- Words that are not options are positional.
use Rattle.std.specs.Prelude.{◌≡◌, ◌&&◌, ◌==◌, Bool, true, false, not, List, [], ◌∷◌, ◌++◌, ℕ, Option, Some}
use Rattle.std.specs.Prelude.{None, is_some, if◌then◌else◌, find, fold, option_and_then, option_map, refl}
use Rattle.std.specs.List.{list_all}
use Rattle.std.specs.Option.{option_map_or}
use Rattle.std.specs.Str.{bytes_eq}
use Rattle.std.proofs.Common.{◌∙◌, ap, ap₂, append_assoc, sym}
use Rattle.std.proofs.lemmas.List.{append-nil}
use Rattle.clap.specs.Walk.{answers_to, stop_after, Held, Names, Rule, Text, Waiting, Walk, arg_by_index, finished, idle, is_multiple}
use Rattle.clap.specs.Walk.{nothing_held, option, positional, rows_after, settled, to_positional, value, walk, walk_from, walked, word_met}
use Rattle.clap.specs.Faults.{built_fault, check_fault, entered_fault, defaults_fault, level_fault}
use Rattle.clap.specs.Faults.{settle_fault, step_fault, turn_fault, walk_fault, word_fault}
use Rattle.clap.specs.Kinds.{Kinds, or_else}
use Rattle.clap.specs.Lexer.{long_of, long_of_rest, short_of, short_of_rest, strip_byte}
use Rattle.clap.specs.Simple.{App, Shape, entered, label_of, names_of, rows_at}
use Rattle.clap.proofs.WalkLemmas.{both}
use Rattle.desk_args.specs.Operands.{is_operand}

-- ---- a word that is not an option

is_false : (b : Bool) → not b ≡ true → b ≡ false
is_false true h = absurd cc
is_false false h = refl

record IsPlain (word : Text) : Type 0 where
  pub dashes : bytes_eq word (45 ∷ 45 ∷ []) ≡ false
  pub long : long_of word ≡ None
  pub short : short_of word ≡ None

lone : (b : Bool) → (b && false) ≡ false
lone true = refl
lone false = refl

short : (b : ℕ) → long_of (b ∷ []) ≡ None
short b = elim (b == 45) as (λ t. option_and_then long_of_rest (option_and_then (strip_byte 45) (if t then Some [] else None)) ≡ None) [
  | true ↦ refl
  | false ↦ refl
]

alone : (b : ℕ) → short_of (b ∷ []) ≡ None
alone b = elim (b == 45) as (λ t. option_and_then short_of_rest (if t then Some [] else None) ≡ None) [
  | true ↦ refl
  | false ↦ refl
]

longer : (b c : ℕ) (cs : Text) → not (b == 45) ≡ true → IsPlain (b ∷ c ∷ cs)
longer b c cs other = record {
  dashes = rw (is_false (b == 45) other) refl;
  long = rw (is_false (b == 45) other) refl;
  short = rw (is_false (b == 45) other) refl;
}

is_plain : (word : Text) → is_operand word ≡ true → IsPlain word
is_plain [] operand = record { dashes = refl; long = refl; short = refl }
is_plain (b ∷ []) operand = record { dashes = lone (b == 45); long = short b; short = alone b }
is_plain (b ∷ c ∷ cs) operand = longer b c cs operand

-- nothing waits for a value of an option
abbrev pub IsFree : Waiting → Type 0
IsFree idle = Unit {0}
IsFree (option id) = ⊥
IsFree positional = Unit {0}

met : (c : List Rule) (waiting : Waiting) (position : ℕ) (word : Text) (h : Held) → IsPlain word → IsFree waiting
    → word_met c [] false waiting position word h ≡ (h, value)
met c idle position word h plain free = rw (plain.dashes, plain.long, plain.short) refl
met c (option id) position word h plain free = absurd free
met c positional position word h plain free = rw (plain.dashes, plain.long, plain.short) refl

no_fault : (s : Shape) (waiting : Waiting) (word : Text) (h : Held) → IsPlain word → IsFree waiting → word_fault s [] false waiting word h ≡ []
no_fault s idle word h plain free = rw (plain.dashes, plain.long, plain.short) refl
no_fault s (option id) word h plain free = absurd free
no_fault s positional word h plain free = rw (plain.dashes, plain.long, plain.short) refl

-- ---- the walk over such words

abbrev pub at_place : List Rule → Walk → Text → Walk
at_place c w word = to_positional c (arg_by_index c w.position) word w w.held

record IsOpen (w : Walk) : Type 0 where
  pub going : w.stopped ≡ None
  pub leading : w.is_trailing ≡ false
  pub free : IsFree w.waiting

walked_place : (c : List Rule) (w : Walk) (word : Text) → is_operand word ≡ true → IsOpen w → walked c [] w word ≡ at_place c w word
unfolding walked
walked_place c w word operand fresh =
    rw (fresh.going, fresh.leading, met c w.waiting w.position word w.held (is_plain word operand) fresh.free) refl

turn_place : (s : Shape) (w : Walk) (word : Text) → is_operand word ≡ true → IsOpen w → turn_fault s [] w word ≡ step_fault s w.position w.held value
turn_place s w word operand fresh =
    rw (
      fresh.going,
      fresh.leading,
      met s.rules w.waiting w.position word w.held (is_plain word operand) fresh.free,
      no_fault s w.waiting word w.held (is_plain word operand) fresh.free,
    ) refl

-- ---- many such words

abbrev pub never_trails : Rule → Bool
never_trails a = not a.trailing_var_arg

abbrev Leads : Option Rule → Type 0
Leads None = Unit {0}
Leads (Some a) = never_trails a ≡ true

find_leads : (test : Rule → Bool) (c : List Rule) → list_all never_trails c ≡ true → Leads (find test c)
find_leads test [] all = tt
find_leads test (a ∷ rest) all =
    elim (test a) as (λ b. Leads (if b then Some a else find test rest)) [
      | true ↦ (both (never_trails a) (list_all never_trails rest) all).0
      | false ↦ find_leads test rest (both (never_trails a) (list_all never_trails rest) all).1
    ]

open_at : (c : List Rule) (found : Option Rule) (word : Text) (w : Walk) → Leads found → IsOpen w → IsOpen (to_positional c found word w w.held)
open_at c None word w leads fresh = record { going = fresh.going; leading = fresh.leading; free = fresh.free }
open_at c (Some a) word w leads fresh = record {
  going = refl;
  leading = rw (fresh.leading, is_false a.trailing_var_arg leads) refl;
  free = elim (is_multiple a) as (λ b. IsFree (if b then positional else idle)) [
    | true ↦ tt
    | false ↦ tt
  ];
}

walk_place : (c : List Rule) (w : Walk) (words : List Text) → list_all is_operand words ≡ true → list_all never_trails c ≡ true → IsOpen w
    → fold (walked c []) w words ≡ fold (at_place c) w words
walk_place c w [] all leads fresh = refl
walk_place c w (word ∷ rest) all leads fresh =
    let parts = both (is_operand word) (list_all is_operand rest) all in
    ap (λ (v : Walk). fold (walked c []) v rest) (walked_place c w word parts.0 fresh)
    ∙ walk_place c (at_place c w word) rest parts.1 leads (open_at c (arg_by_index c w.position) word w (find_leads _ c leads) fresh)

abbrev pub placed_fault : Shape → Walk → List Text → Kinds
placed_fault s w [] = []
placed_fault s w (word ∷ rest) = or_else (step_fault s w.position w.held value) (placed_fault s (at_place s.rules w word) rest)

fault_place : (s : Shape) (w : Walk) (words : List Text) → list_all is_operand words ≡ true → list_all never_trails s.rules ≡ true → IsOpen w
    → walk_fault s [] w words ≡ placed_fault s w words
unfolding walk_fault
fault_place s w [] all leads fresh = refl
fault_place s w (word ∷ rest) all leads fresh =
    let parts = both (is_operand word) (list_all is_operand rest) all in
    ap₂ or_else (turn_place s w word parts.0 fresh)
    (ap (λ (v : Walk). walk_fault s [] v rest) (walked_place s.rules w word parts.0 fresh)
    ∙ fault_place s (at_place s.rules w word) rest parts.1 leads (open_at s.rules (arg_by_index s.rules w.position) word w (find_leads _ s.rules leads) fresh))

-- ---- one level of the parse over such words

abbrev pub start : Walk
start = walk_from nothing_held

fresh_start : IsOpen start
fresh_start = record { going = refl; leading = refl; free = tt }

abbrev pub placed : List Rule → List Text → Walk
placed c words = fold (at_place c) start words

-- what follows the walk
abbrev pub ended : Shape → Kinds → Walk → Kinds
ended s walks w =
    or_else walks
    (or_else (settle_fault s.rules s.args_override_self w.held)
    (or_else (defaults_fault (settled s.rules w.held).rows s.rules)
    (check_fault s (finished s.rules w.held) false)))

abbrev pub placed_level : Shape → List Text → Kinds
placed_level s words = ended s (placed_fault s start words) (placed s.rules words)

pub level_place : (s : Shape) (words : List Text) → list_all is_operand words ≡ true → list_all never_trails s.rules ≡ true
    → level_fault s [] nothing_held words false [] ≡ placed_level s words
level_place s words all leads =
    ap₂ (ended s) (fault_place s start words all leads fresh_start) (walk_place s.rules start words all leads fresh_start)

pub rows_place : (c : List Rule) (words : List Text) → list_all is_operand words ≡ true → list_all never_trails c ≡ true
    → rows_after c [] words ≡ finished c (placed c words).held
rows_place c words all leads = ap (λ (w : Walk). finished c w.held) (walk_place c start words all leads fresh_start)

-- ---- the words after a subcommand's name

stops : (c : List Rule) (names : Names) (w : Walk) (name : Text) (before rest : List Text)
    → fold (walked c names) (record w { stopped = Some (name, before) }) rest ≡ record w { stopped = Some (name, before ++ rest) }
unfolding walked
stops c names w name before [] = ap (λ (all : List Text). record w { stopped = Some (name, all) }) (sym (append-nil before))
stops c names w name before (word ∷ rest) =
    stops c names w name (before ++ word ∷ []) rest
    ∙ ap (λ (all : List Text). record w { stopped = Some (name, all) }) (append_assoc before (word ∷ []) rest)

stops_faultless : (s : Shape) (names : Names) (w : Walk) (name : Text) (before rest : List Text)
    → walk_fault s names (record w { stopped = Some (name, before) }) rest ≡ []
unfolding walked walk_fault
stops_faultless s names w name before [] = refl
stops_faultless s names w name before (word ∷ rest) = stops_faultless s names w name (before ++ word ∷ []) rest

-- the word is the name of this subcommand, and nothing else is wanted above it
pub record Enters (a : App) (name : Text) (leaf : Shape) : Type 0 where
  pub walks : walked a.top.rules (names_of a) start name ≡ record start { stopped = Some (name, []) }
  pub turns : turn_fault a.top (names_of a) start name ≡ []
  pub finds : find (λ s. answers_to name (label_of s)) a.subs ≡ Some leaf
  pub settles : settle_fault a.top.rules a.top.args_override_self nothing_held ≡ []
  pub defaults : defaults_fault [] a.top.rules ≡ []
  pub checks : check_fault a.top (finished a.top.rules nothing_held) true ≡ []

walk_named : (a : App) (name : Text) (leaf : Shape) (rest : List Text) → Enters a name leaf
    → walk a.top.rules (names_of a) nothing_held (name ∷ rest) ≡ record start { stopped = Some (name, rest) }
walk_named a name leaf rest e =
    ap (λ (w : Walk). fold (walked a.top.rules (names_of a)) w rest) e.walks ∙ stops a.top.rules (names_of a) start name [] rest

pub entered_named : (a : App) (name : Text) (leaf : Shape) (rest : List Text) → Enters a name leaf
    → entered a (stop_after a.top.rules (names_of a) (name ∷ rest)) ≡ Some (rows_at leaf rest)
entered_named a name leaf rest e =
    ap (λ (w : Walk). entered a w.stopped) (walk_named a name leaf rest e)
    ∙ ap (option_map (λ s. rows_at s rest)) e.finds

-- what is wrong at the top, by what is wrong below it
abbrev above : App → Kinds → Walk → Kinds
above a walks w =
    or_else walks
    (or_else (entered_fault a w.stopped)
    (or_else (settle_fault a.top.rules a.top.args_override_self w.held)
    (or_else (defaults_fault (settled a.top.rules w.held).rows a.top.rules)
    (check_fault a.top (finished a.top.rules w.held) (is_some (entered a w.stopped))))))

fault_named : (a : App) (name : Text) (leaf : Shape) (rest : List Text) → Enters a name leaf
    → walk_fault a.top (names_of a) start (name ∷ rest) ≡ []
unfolding walk_fault
fault_named a name leaf rest e =
    ap₂ or_else e.turns
    (ap (λ (w : Walk). walk_fault a.top (names_of a) w rest) e.walks ∙ stops_faultless a.top (names_of a) start name [] rest)

-- the checks of the top, where a subcommand was entered
checked_above : (a : App) (found : Option Shape) (rest : List Text) (leaf : Shape) → found ≡ Some leaf
    → is_some (option_map (λ s. rows_at s rest) found) ≡ true
checked_above a found rest leaf is = ap (λ f. is_some (option_map (λ s. rows_at s rest) f)) is

pub faultless_named : (a : App) (name : Text) (leaf : Shape) (rest : List Text) → Enters a name leaf
    → level_fault leaf [] nothing_held rest false [] ≡ [] → built_fault a nothing_held (name ∷ rest) ≡ []
faultless_named a name leaf rest e below =
    ap₂ (above a) (fault_named a name leaf rest e) (walk_named a name leaf rest e)
    ∙ ap₂ or_else (ap (λ f. option_map_or (λ s. level_fault s [] nothing_held rest false []) f []) e.finds ∙ below)
    (ap₂ or_else e.settles
    (ap₂ or_else e.defaults
    (ap (check_fault a.top (finished a.top.rules nothing_held)) (checked_above a _ rest leaf e.finds) ∙ e.checks)))

-- A line in which clap finds no fault is one of the program's commands, with a value for each argument that it wants.
use Rattle.std.specs.Prelude.{◌≡◌, ◌⊎◌, ℕ, ◌&&◌, ◌||◌, Bool, true, false, not, List, [], ◌∷◌, Option, Some, None, codes}
use Rattle.std.specs.Prelude.{if◌then◌else◌, is_some, find, fold, option_and_then, option_map, slice_get, slice_index_or, refl}
use Rattle.std.specs.List.{list_all, list_any}
use Rattle.std.specs.Option.{option_map_or}
use Rattle.std.specs.Str.{bytes_eq}
use Rattle.std.proofs.lemmas.Slice.Eq.{bytes_eq-Decides}
use Rattle.std.proofs.Common.{sym, inl, inr}
use Rattle.clap.specs.Walk.{Held, Names, Outcome, Row, Rule, Step, Text, Waiting, Walk, after_flag, after_step, answers_to, arg_by_index}
use Rattle.clap.specs.Walk.{arg_by_long, bundle, done, finished, first_of, idle, long_met, long_or_other, next, nothing_held, option, plain}
use Rattle.clap.specs.Walk.{plain_word, positional, refused, rows_after, settled, short_or_plain, stop_after, subcommand, subcommand_met}
use Rattle.clap.specs.Walk.{subcommand_or_other, to_positional, trailing, value, waits, walk, walk_from, walked, walked_from, word_met}
use Rattle.clap.specs.Facts.{explicit_source}
use Rattle.clap.specs.declared.error.kind.ErrorKind.{ErrorKind}
use Rattle.clap.specs.Faults.{check_fault, defaults_fault, entered_fault, fault_of, level_fault}
use Rattle.clap.specs.Faults.{other_fault, settle_fault, step_fault, turn_fault, walk_fault, word_fault}
use Rattle.clap.specs.Kinds.{Kinds, check_kinds, or_else}
use Rattle.clap.specs.Lexer.{long_of, short_of}
use Rattle.clap.specs.Simple.{Shape, matches_of, argument_words, built, entered, label_of, names_of, rows_at, subcommand_of}
use Rattle.clap.specs.Takes.{is_given}
use Rattle.desk_args.specs.CommandLine.{HaveSome, HasAllValues, check, desk_app}
use Rattle.desk_args.proofs.Filled.{AreFull, IsFull, defaults-full, is_giving, no_first, no_second, settled-full, walk-full}

-- ---- a row that is given has a value

full_first : (values : List Text) → IsFull values → is_some (slice_get values 0) ≡ true
full_first [] full = absurd full
full_first (v ∷ vs) full = refl

given_first : (id : Text) (rows : List Row) → AreFull rows → is_given id rows ≡ true → is_some (first_of id rows) ≡ true
given_first id [] f given = absurd cc
given_first id (r ∷ rs) f given =
    (elim (bytes_eq r.id id) as (λ b. option_map_or (λ x. explicit_source x.source) (if b then Some r else find (λ x. bytes_eq x.id id) rs) false ≡ true
    → is_some (option_and_then (λ x. slice_get x.values 0) (if b then Some r else find (λ x. bytes_eq x.id id) rs)) ≡ true) [
      | true ↦ λ g. full_first r.values f.0
      | false ↦ λ g. given_first id rs f.1 g
    ]) given

-- ---- the walk never stops at `help`, which is a fault

-- a walk that stopped, stopped at another command
abbrev IsOther : Option (Text × List Text) → Type 0
IsOther None = Unit {0}
IsOther (Some p) = bytes_eq p.0 (codes "help") ≡ false

abbrev IsOtherStep : Step → Type 0
IsOtherStep (subcommand name) = bytes_eq name (codes "help") ≡ false
IsOtherStep (next waiting) = Unit {0}
IsOtherStep (trailing position) = Unit {0}
IsOtherStep value = Unit {0}

plain_other : (c : List Rule) (waiting : Waiting) (word : Text) (h : Held) → IsOtherStep (plain_word c waiting word h).1
plain_other c idle word h = tt
plain_other c (option id) word h = tt
plain_other c positional word h = tt

after_flag_other : (c : List Rule) (waiting : Waiting) (word : Text) (h : Held) (outcome : Outcome) → IsOtherStep (after_flag c waiting word h outcome).1
after_flag_other c waiting word h done = tt
after_flag_other c waiting word h (waits id) = tt
after_flag_other c waiting word h plain = plain_other c waiting word h
after_flag_other c waiting word h refused = plain_other c waiting word h

short_other : (c : List Rule) (waiting : Waiting) (word : Text) (flags : Option Text) (h : Held) → IsOtherStep (short_or_plain c waiting word flags h).1
short_other c waiting word None h = plain_other c waiting word h
short_other c waiting word (Some flags) h = after_flag_other c waiting word (bundle c flags h).0 (bundle c flags h).1

long_other : (c : List Rule) (waiting : Waiting) (word : Text) (long : Option (Text × Option Text)) (h : Held)
    → IsOtherStep (long_or_other c waiting word long h).1
long_other c waiting word (Some p) h =
    after_flag_other c waiting word (long_met c (arg_by_long c p.0) p.1 h).0 (long_met c (arg_by_long c p.0) p.1 h).1
long_other c waiting word None h = short_other c waiting word (short_of word) h

dashes_other : (c : List Rule) (dashes : Bool) (waiting : Waiting) (position : ℕ) (word : Text) (h : Held)
    → IsOtherStep (let met : Held × Step = if dashes then (h, trailing position) else long_or_other c waiting word (long_of word) h in met).1
dashes_other c true waiting position word h = tt
dashes_other c false waiting position word h = long_other c waiting word (long_of word) h

help_is_fault : (is_help off : Bool) (k : ErrorKind) (ks : Kinds) → off ≡ false → (if is_help && not off then k ∷ ks else []) ≡ [] → is_help ≡ false
help_is_fault false off k ks on none = refl
help_is_fault true false k ks on none = absurd cc
help_is_fault true true k ks on none = absurd cc

named_other : (s : Shape) (name : Option Text) (waiting : Waiting) (position : ℕ) (word : Text) (h : Held) → s.disable_help_subcommand ≡ false
    → other_fault s name word h ≡ [] → IsOtherStep (subcommand_or_other s.rules name waiting position word h).1
named_other s (Some name) waiting position word h on none = help_is_fault (bytes_eq name (codes "help")) s.disable_help_subcommand _ _ on none
named_other s None waiting position word h on none = dashes_other s.rules (bytes_eq word (45 ∷ 45 ∷ [])) waiting position word h

word_other : (s : Shape) (names : Names) (is_trailing : Bool) (waiting : Waiting) (position : ℕ) (word : Text) (h : Held)
    → s.disable_help_subcommand ≡ false → word_fault s names is_trailing waiting word h ≡ []
    → IsOtherStep (word_met s.rules names is_trailing waiting position word h).1
word_other s names true waiting position word h on none = tt
word_other s names false waiting position word h on none = named_other s (subcommand_met names waiting word) waiting position word h on none

positional_other : (c : List Rule) (found : Option Rule) (word : Text) (w : Walk) (h : Held)
    → IsOther w.stopped → IsOther (to_positional c found word w h).stopped
positional_other c None word w h other = other
positional_other c (Some a) word w h other = tt

step_other : (c : List Rule) (word : Text) (w : Walk) (h : Held) (step : Step) → IsOther w.stopped → IsOtherStep step
    → IsOther (after_step c word w h step).stopped
step_other c word w h (next waiting) other is = other
step_other c word w h (trailing position) other is = other
step_other c word w h (subcommand name) other is = is
step_other c word w h value other is = positional_other c (arg_by_index c w.position) word w h other

stopped_other : (s : Shape) (names : Names) (stopped : Option (Text × List Text)) (w : Walk) (word : Text) → s.disable_help_subcommand ≡ false
    → (let met = word_met s.rules names w.is_trailing w.waiting w.position word w.held in
    if is_some stopped then [] else or_else (word_fault s names w.is_trailing w.waiting word w.held) (step_fault s w.position met.0 met.1)) ≡ []
    → IsOther stopped → IsOther w.stopped → IsOther (walked_from s.rules names stopped w word).stopped
stopped_other s names (Some p) w word on none other now = other
stopped_other s names None w word on none other now =
    let met = word_met s.rules names w.is_trailing w.waiting w.position word w.held in
    step_other s.rules word w met.0 met.1 now
    (word_other s names w.is_trailing w.waiting w.position word w.held on (no_first _ (step_fault s w.position met.0 met.1) none))

walk_other : (s : Shape) (names : Names) (w : Walk) (words : List Text) → s.disable_help_subcommand ≡ false → walk_fault s names w words ≡ []
    → IsOther w.stopped → IsOther (fold (walked s.rules names) w words).stopped
unfolding walked walk_fault
walk_other s names w [] on none other = other
walk_other s names w (word ∷ rest) on none other =
    walk_other s names (walked s.rules names w word) rest on (no_second (turn_fault s names w word) _ none)
    (stopped_other s names w.stopped w word on (no_first _ (walk_fault s names (walked s.rules names w word) rest) none) other other)

-- ---- one level of the parse

record Passes (s : Shape) (names : Names) (h : Held) (words : List Text) (has : Bool) (below : Kinds) : Type 0 where
  pub walks : walk_fault s names (walk_from h) words ≡ []
  pub lower : below ≡ []
  pub settles : settle_fault s.rules s.args_override_self (walk s.rules names h words).held ≡ []
  pub checks : check_fault s (finished s.rules (walk s.rules names h words).held) has ≡ []

passes : (s : Shape) (names : Names) (h : Held) (words : List Text) (has : Bool) (below : Kinds) → level_fault s names h words has below ≡ []
    → Passes s names h words has below
passes s names h words has below none =
    let end = (walk s.rules names h words).held in
    let check = check_fault s (finished s.rules end) has in
    let defaults = defaults_fault (settled s.rules end).rows s.rules in
    let settle = settle_fault s.rules s.args_override_self end in
    let walks = walk_fault s names (walk_from h) words in
    let after_walk : or_else below (or_else settle (or_else defaults check)) ≡ [] = no_second walks _ none in
    let after_below : or_else settle (or_else defaults check) ≡ [] = no_second below _ after_walk in
    let after_settle : or_else defaults check ≡ [] = no_second settle _ after_below in
    record {
      walks = no_first walks (or_else below (or_else settle (or_else defaults check))) none;
      lower = no_first below (or_else settle (or_else defaults check)) after_walk;
      settles = no_first settle (or_else defaults check) after_below;
      checks = no_second defaults check after_settle;
    }

-- each row of a subcommand has a value
leaf_full : (s : Shape) (words : List Text) → list_all is_giving s.rules ≡ true → Passes s [] nothing_held words false []
    → AreFull (rows_after s.rules [] words)
leaf_full s words all p =
    defaults-full s.rules _ (settled-full s.rules s.args_override_self (walk s.rules [] nothing_held words).held all p.settles
    (walk-full s [] (walk_from nothing_held) words all p.walks tt))

-- ---- the last checks

no_third_kind : (x y z : Bool) → check_kinds x y z ≡ [] → z ≡ false
no_third_kind true y z none = absurd cc
no_third_kind false true z none = absurd cc
no_third_kind false false true none = absurd cc
no_third_kind false false false none = refl

no_second_kind : (x y z : Bool) → check_kinds x y z ≡ [] → y ≡ false
no_second_kind true y z none = absurd cc
no_second_kind false true z none = absurd cc
no_second_kind false false z none = refl

abbrev wants_help : Shape → List Row → Bool → Bool
wants_help s rows has = not has && (s.arg_required_else_help && not (list_any (λ r. explicit_source r.source) rows))

abbrev wants_argument : Shape → List Row → Bool → Bool
wants_argument s rows has = not (s.subcommand_negates_reqs && has) && list_any (λ a. a.required && not (is_given a.id rows)) s.rules

none_wanted : (s : Shape) (rows : List Row) (has : Bool) → check_fault s rows has ≡ [] → wants_argument s rows has ≡ false
none_wanted s rows has none = no_third_kind (wants_help s rows has) (not has && s.subcommand_required) (wants_argument s rows has) none

subcommand_is : (s : Shape) (rows : List Row) (has : Bool) → s.subcommand_required ≡ true → check_fault s rows has ≡ [] → has ≡ true
subcommand_is s rows true required none = refl
subcommand_is s rows false required none =
    let not_required : s.subcommand_required ≡ false =
    no_second_kind (wants_help s rows false) (not false && s.subcommand_required) (wants_argument s rows false) none in
    absurd cc

is_there : (given others : Bool) → (not given || others) ≡ false → given ≡ true
is_there true others none = refl
is_there false others none = absurd cc

others_are : (given others : Bool) → (not given || others) ≡ false → others ≡ false
others_are true others none = none
others_are false others none = absurd cc

-- ---- the arguments that may not be left out

abbrev required_ids : List Rule → List Text
required_ids [] = []
required_ids (a ∷ rest) = if a.required then a.id ∷ required_ids rest else required_ids rest

given_all : (rules : List Rule) (rows : List Row) → AreFull rows → list_any (λ a. a.required && not (is_given a.id rows)) rules ≡ false
    → HaveSome (required_ids rules) rows
given_all [] rows full none = tt
given_all (a ∷ rest) rows full none =
    (elim a.required as (λ b. ((b && not (is_given a.id rows)) || list_any (λ r. r.required && not (is_given r.id rows)) rest) ≡ false
    → HaveSome (if b then a.id ∷ required_ids rest else required_ids rest) rows) [
      | true ↦ λ e. (
        given_first a.id rows full (is_there (is_given a.id rows) _ e),
        given_all rest rows full (others_are (is_given a.id rows) _ e),
      )
      | false ↦ λ e. given_all rest rows full e
    ]) none

always : (negates any : Bool) → (not (negates && false) && any) ≡ false → any ≡ false
always true any none = none
always false any none = none

leaf_complete : (s : Shape) (words : List Text) → list_all is_giving s.rules ≡ true → level_fault s [] nothing_held words false [] ≡ []
    → HaveSome (required_ids s.rules) (rows_after s.rules [] words)
leaf_complete s words all none =
    let p = passes s [] nothing_held words false [] none in
    let rows = rows_after s.rules [] words in
    given_all s.rules rows (leaf_full s words all p) (always s.subcommand_negates_reqs _ (none_wanted s rows false p.checks))

-- ---- the program's commands

-- the commands as they are built, with `help` after them
abbrev nth : ℕ → List Shape → Shape
nth n shapes = slice_index_or shapes n check.top

abbrev leaf : ℕ → Shape
leaf n = nth n (built desk_app).subs

-- words in which the command finds no fault are complete
abbrev Completes : Shape → Type 0
Completes s = (words : List Text) → level_fault s [] nothing_held words false [] ≡ [] → HasAllValues (Some (rows_at s words))

check_complete : Completes (leaf 0)
check_complete words none = inl (refl, leaf_complete (leaf 0) words refl none)

decide_complete : Completes (leaf 1)
decide_complete words none = inr (inl (refl, leaf_complete (leaf 1) words refl none))

beyond_complete : Completes (leaf 2)
beyond_complete words none = inr (inr (inl (refl, leaf_complete (leaf 2) words refl none)))

deliver_complete : Completes (leaf 3)
deliver_complete words none = inr (inr (inr (inl (refl, leaf_complete (leaf 3) words refl none))))

print_complete : Completes (leaf 4)
print_complete words none = inr (inr (inr (inr (inl (refl, leaf_complete (leaf 4) words refl none)))))

review_complete : Completes (leaf 5)
review_complete words none = inr (inr (inr (inr (inr (inl (refl, leaf_complete (leaf 5) words refl none))))))

rebuild_complete : Completes (leaf 6)
rebuild_complete words none = inr (inr (inr (inr (inr (inr (inl (refl, leaf_complete (leaf 6) words refl none)))))))

serve_complete : Completes (leaf 7)
serve_complete words none = inr (inr (inr (inr (inr (inr (inr (refl, leaf_complete (leaf 7) words refl none)))))))

-- each of the commands is complete, or does not answer to the name
abbrev AllComplete : Text → List Shape → Type 0
AllComplete name [] = Unit {0}
AllComplete name (s ∷ rest) = ((answers_to name (label_of s) ≡ false) ⊎ Completes s) × AllComplete name rest

found_complete : (name : Text) (shapes : List Shape) (words : List Text) → AllComplete name shapes
    → is_some (option_map (λ s. rows_at s words) (find (λ s. answers_to name (label_of s)) shapes)) ≡ true
    → option_map_or (λ s. level_fault s [] nothing_held words false []) (find (λ s. answers_to name (label_of s)) shapes) [] ≡ []
    → HasAllValues (option_map (λ s. rows_at s words) (find (λ s. answers_to name (label_of s)) shapes))
found_complete name [] words all is none = absurd cc
found_complete name (s ∷ rest) words all is none =
    (elim (answers_to name (label_of s)) as (λ b. answers_to name (label_of s) ≡ b
    → is_some (option_map (λ x. rows_at x words) (if b then Some s else find (λ x. answers_to name (label_of x)) rest)) ≡ true
    → option_map_or (λ x. level_fault x [] nothing_held words false []) (if b then Some s else find (λ x. answers_to name (label_of x)) rest) [] ≡ []
    → HasAllValues (option_map (λ x. rows_at x words) (if b then Some s else find (λ x. answers_to name (label_of x)) rest))) [
      | true ↦ λ met some faultless. elim all.0 [ inl other ↦ absurd cc | inr completes ↦ completes words faultless ]
      | false ↦ λ met some faultless. found_complete name rest words all.1 some faultless
    ]) refl is none

flipped : (b : Bool) → (b ≡ true → ⊥) → (b || false) ≡ false
flipped true never = absurd (never refl)
flipped false never = refl

other_name : (name : Text) → bytes_eq name (codes "help") ≡ false → (bytes_eq (codes "help") name || false) ≡ false
other_name name other = flipped _ (λ e.
    let back : bytes_eq name (codes "help") ≡ true = (bytes_eq-Decides name (codes "help")).1 (sym ((bytes_eq-Decides (codes "help") name).0 e)) in
    cc)

stop_complete : (stop : Option (Text × List Text)) → IsOther stop → is_some (entered (built desk_app) stop) ≡ true → entered_fault (built desk_app) stop ≡ []
    → HasAllValues (entered (built desk_app) stop)
stop_complete None other is none = absurd cc
stop_complete (Some p) other is none =
    found_complete p.0 (built desk_app).subs p.1 (
      inr check_complete,
      (
        inr decide_complete,
        (
          inr beyond_complete,
          (inr deliver_complete, (inr print_complete, (inr review_complete, (inr rebuild_complete, (inr serve_complete, (inl (other_name p.0 other), tt)))))),
        ),
      ),
    ) is none

pub complete : (words : List Text) → fault_of desk_app words ≡ [] → HasAllValues (subcommand_of desk_app words)
complete words none =
    let a = built desk_app in
    let given = argument_words a words in
    let stop = stop_after a.top.rules (names_of a) given in
    let p = passes a.top (names_of a) nothing_held given (is_some (entered a stop)) (entered_fault a stop) none in
    stop_complete stop (walk_other a.top (names_of a) (walk_from nothing_held) given refl p.walks tt)
    (subcommand_is a.top (matches_of desk_app words) (is_some (entered a stop)) refl p.checks) p.lower

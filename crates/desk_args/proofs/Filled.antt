-- Where clap finds no fault, each row of a simple command's matches has a value.
use Rattle.std.specs.Prelude.{◌≡◌, ℕ, zero, suc, ◌&&◌, Bool, true, false, List, [], ◌∷◌, ◌++◌, Option, Some, None}
use Rattle.std.specs.Prelude.{if◌then◌else◌, is_some, nat_lt, length, drop, find, fold, encode_utf8, slice_get, refl}
use Rattle.std.specs.List.{list_all}
use Rattle.std.specs.Option.{option_map_or}
use Rattle.std.specs.Str.{bytes_eq, chars}
use Rattle.clap.specs.Walk.{Held, Names, Outcome, Row, Rule, Step, Text, Waiting, Walk, action_of, after_flag, after_step, arg_by_id, arg_by_index}
use Rattle.clap.specs.Walk.{arg_by_long, arg_by_short, at_row, attached_value, bundle, bundle_met, bundle_step, default_rows, done, flag_met}
use Rattle.clap.specs.Walk.{has_row, idle, is_pending, long_met, long_or_other, more_values, most_values, next, option, option_met, option_word}
use Rattle.clap.specs.Walk.{plain, plain_word, positional, pushed, reacted, refused, settled, settled_rows, short_met, short_or_plain, subcommand}
use Rattle.clap.specs.Walk.{subcommand_met, subcommand_or_other, takes_several, takes_values, to_positional, trailing, used, used_as, used_by_id}
use Rattle.clap.specs.Walk.{value, values_or_missing, waits, walked, walked_from, with_default, with_values, without, word_met, reading_by}
use Rattle.clap.specs.Facts.{unwrap_or_range}
use Rattle.clap.specs.Faults.{action_fault, bundle_fault, bundle_step_fault, flag_word_fault, flags_fault, long_fault, option_fault, other_fault}
use Rattle.clap.specs.Faults.{positional_fault, react_fault, settle_fault, short_fault, step_fault, stray_fault, turn_fault, use_fault, walk_fault, word_fault}
use Rattle.clap.specs.Kinds.{Kinds, or_else, range_kinds}
use Rattle.clap.specs.Lexer.{long_of, short_of}
use Rattle.clap.specs.Simple.{Shape}
use Rattle.clap.specs.declared.builder.action.ArgAction.{ArgAction}
use Rattle.clap.specs.declared.builder.action.ArgAction.TheVariants.{Append, Help, Set}
use Rattle.clap.specs.declared.builder.value_parser.Reading.{Reading}
use Rattle.clap.specs.declared.error.kind.ErrorKind.{ErrorKind}
use Rattle.clap.specs.declared.error.kind.ErrorKind.TheVariants as kind
use Rattle.clap.specs.declared.parser.matches.ValueSource.{ValueSource}
use Rattle.clap.specs.declared.parser.matches.ValueSource.TheVariants.{CommandLine, DefaultValue}
use Rattle.clap.proofs.WalkLemmas.{both}

-- ---- lists of values and of rows

abbrev pub IsFull : List Text → Type 0
IsFull [] = ⊥
IsFull (v ∷ vs) = Unit {0}

-- each row has a value
abbrev pub AreFull : List Row → Type 0
AreFull [] = Unit {0}
AreFull (r ∷ rs) = IsFull r.values × AreFull rs

full-append : (xs ys : List Text) → IsFull ys → IsFull (xs ++ ys)
full-append [] ys full = full
full-append (x ∷ xs) ys full = tt

rows-append : (xs ys : List Row) → AreFull xs → AreFull ys → AreFull (xs ++ ys)
rows-append [] ys f g = g
rows-append (x ∷ xs) ys f g = (f.0, rows-append xs ys f.1 g)

at_row-full : (id : Text) (change : Row → List Row) (missing : List Row) → ((r : Row) → AreFull (change r)) → AreFull missing → (rows : List Row)
    → AreFull rows → AreFull (at_row id change missing rows)
at_row-full id change missing changed gone [] f = gone
at_row-full id change missing changed gone (r ∷ rs) f =
    elim (bytes_eq r.id id) as (λ b. AreFull (if b then change r ++ rs else r ∷ at_row id change missing rs)) [
      | true ↦ rows-append (change r) rs (changed r) f.1
      | false ↦ (f.0, at_row-full id change missing changed gone rs f.1)
    ]

without-full : (id : Text) (rows : List Row) → AreFull rows → AreFull (without id rows)
without-full id rows f = at_row-full id (λ _. []) [] (λ r. tt) tt rows f

with_values-full : (id : Text) (how : Reading) (source : ValueSource) (values : List Text) (rows : List Row) → IsFull values → AreFull rows
    → AreFull (with_values id how source values rows)
with_values-full id how source values rows full f =
    at_row-full id (more_values source values) _ (λ r. (full-append r.values values full, tt)) (full, tt) rows f

-- ---- rules

-- a use of the argument gives a value, or is refused
abbrev pub gives : ArgAction → ℕ → Bool
gives Set least = nat_lt 0 least
gives Append least = nat_lt 0 least
gives Help least = true
gives _ least = false

abbrev pub is_giving : Rule → Bool
is_giving a = gives (action_of a) (unwrap_or_range a.range).start_inclusive

abbrev pub IsGiving : Option Rule → Type 0
IsGiving None = Unit {0}
IsGiving (Some a) = is_giving a ≡ true

find-giving : (test : Rule → Bool) (c : List Rule) → list_all is_giving c ≡ true → IsGiving (find test c)
find-giving test [] all = tt
find-giving test (a ∷ rest) all =
    elim (test a) as (λ b. IsGiving (if b then Some a else find test rest)) [
      | true ↦ (both (is_giving a) (list_all is_giving rest) all).0
      | false ↦ find-giving test rest (both (is_giving a) (list_all is_giving rest) all).1
    ]

-- ---- kinds

pub no_first : (a b : Kinds) → or_else a b ≡ [] → a ≡ []
no_first [] b e = refl
no_first (k ∷ ks) b e = absurd cc

pub no_second : (a b : Kinds) → or_else a b ≡ [] → b ≡ []
no_second [] b e = e
no_second (k ∷ ks) b e = absurd cc

-- ---- one use

lacking_is_kind : (b : Bool) (k : ErrorKind) (ks : Kinds) → b ≡ true → (if b && true then k ∷ [] else ks) ≡ [] → ⊥
lacking_is_kind true k ks e none = cc
lacking_is_kind false k ks e none = cc

given-full : (a : Rule) (values : List Text) (least most : ℕ) → nat_lt 0 least ≡ true → range_kinds least most (length values) ≡ []
    → IsFull (values_or_missing a values)
given-full a [] least most lt none = absurd (lacking_is_kind (nat_lt 0 least) _ _ lt none)
given-full a (v ∷ vs) least most lt none = tt

used_as-full : (x : ArgAction) (least : ℕ) (id : Text) (how : Reading) (values : List Text) (rows : List Row) → gives x least ≡ true
    → (nat_lt 0 least ≡ true → IsFull values) → AreFull rows → AreFull (used_as x id how values rows)
used_as-full Set least id how values rows giving full f = with_values-full id how CommandLine values (without id rows) (full giving) (without-full id rows f)
used_as-full Append least id how values rows giving full f = with_values-full id how CommandLine values rows (full giving) f
used_as-full Help least id how values rows giving full f = f
used_as-full _ least id how values rows giving full f = absurd cc

used-full : (a : Rule) (again : Bool) (values : List Text) (rows : List Row) → is_giving a ≡ true → use_fault again a values rows ≡ [] → AreFull rows
    → AreFull (used a values rows)
used-full a again values rows giving none f =
    used_as-full (action_of a) (unwrap_or_range a.range).start_inclusive a.id (reading_by a) (values_or_missing a values) rows giving
    (λ lt. given-full a values _ (most_values a) lt (no_first _ (action_fault (action_of a) again a (values_or_missing a values) rows) none)) f

by_id-full : (again : Bool) (found : Option Rule) (values : List Text) (rows : List Row) → IsGiving found
    → option_map_or (λ a. use_fault again a values rows) found [] ≡ [] → AreFull rows → AreFull (used_by_id found values rows)
by_id-full again None values rows giving none f = f
by_id-full again (Some a) values rows giving none f = used-full a again values rows giving none f

pending-full : (c : List Rule) (again : Bool) (pending : Option (Text × List Text)) (rows : List Row) → list_all is_giving c ≡ true
    → option_map_or (λ p. option_map_or (λ a. use_fault again a p.1 rows) (arg_by_id c p.0) []) pending [] ≡ [] → AreFull rows
    → AreFull (settled_rows c pending rows)
pending-full c again None rows all none f = f
pending-full c again (Some p) rows all none f = by_id-full again (arg_by_id c p.0) p.1 rows (find-giving _ c all) none f

pub settled-full : (c : List Rule) (again : Bool) (h : Held) → list_all is_giving c ≡ true → settle_fault c again h ≡ [] → AreFull h.rows
    → AreFull (settled c h).rows
settled-full c again h all none f = pending-full c again h.pending h.rows all none f

reacted-full : (c : List Rule) (again : Bool) (a : Rule) (values : List Text) (h : Held) → list_all is_giving c ≡ true → is_giving a ≡ true
    → react_fault c again a values h ≡ [] → AreFull h.rows → AreFull (reacted c a values h).rows
reacted-full c again a values h all giving none f =
    used-full a again values (settled c h).rows giving (no_second (settle_fault c again h) _ none)
    (settled-full c again h all (no_first _ (use_fault again a values (settled c h).rows) none) f)

-- ---- one word

option_met-full : (c : List Rule) (again : Bool) (a : Rule) (v : Option Text) (h : Held) → list_all is_giving c ≡ true → is_giving a ≡ true
    → option_fault c again a v h ≡ [] → AreFull h.rows → AreFull (option_met c a v h).0.rows
option_met-full c again a (Some v) h all giving none f = reacted-full c again a (v ∷ []) h all giving none f
option_met-full c again a None h all giving none f = settled-full c again h all none f

flag_met-full : (c : List Rule) (again : Bool) (a : Rule) (v : Option Text) (h : Held) → list_all is_giving c ≡ true → is_giving a ≡ true
    → (if is_some v then kind.TooManyValues ∷ [] else react_fault c again a [] h) ≡ [] → AreFull h.rows → AreFull (flag_met c a v h).0.rows
flag_met-full c again a (Some v) h all giving none f = f
flag_met-full c again a None h all giving none f = reacted-full c again a [] h all giving none f

long_taken-full : (c : List Rule) (again : Bool) (a : Rule) (v : Option Text) (h : Held) (takes : Bool) → list_all is_giving c ≡ true → is_giving a ≡ true
    → (if takes then option_fault c again a v h else (if is_some v then kind.TooManyValues ∷ [] else react_fault c again a [] h)) ≡ [] → AreFull h.rows
    → AreFull (if takes then option_met c a v h else flag_met c a v h).0.rows
long_taken-full c again a v h true all giving none f = option_met-full c again a v h all giving none f
long_taken-full c again a v h false all giving none f = flag_met-full c again a v h all giving none f

long_met-full : (c : List Rule) (again : Bool) (found : Option Rule) (v : Option Text) (h : Held) → list_all is_giving c ≡ true → IsGiving found
    → long_fault c again found v h ≡ [] → AreFull h.rows → AreFull (long_met c found v h).0.rows
long_met-full c again None v h all giving none f = f
long_met-full c again (Some a) v h all giving none f = long_taken-full c again a v h (takes_values a) all giving none f

short_taken-full : (c : List Rule) (again : Bool) (a : Rule) (rest : Text) (h : Held) (takes : Bool) (onward : Held → Held × Outcome)
    (next_fault : Held → Kinds) → list_all is_giving c ≡ true → is_giving a ≡ true
    → ((g : Held) → next_fault g ≡ [] → AreFull g.rows → AreFull (onward g).0.rows)
    → (if takes then option_fault c again a (attached_value rest) h else or_else (react_fault c again a [] h) (next_fault (reacted c a [] h))) ≡ []
    → AreFull h.rows → AreFull (if takes then option_met c a (attached_value rest) h else onward (reacted c a [] h)).0.rows
short_taken-full c again a rest h true onward next_fault all giving later none f = option_met-full c again a (attached_value rest) h all giving none f
short_taken-full c again a rest h false onward next_fault all giving later none f =
    later (reacted c a [] h) (no_second (react_fault c again a [] h) _ none)
    (reacted-full c again a [] h all giving (no_first _ (next_fault (reacted c a [] h)) none) f)

short_met-full : (c : List Rule) (again : Bool) (found : Option Rule) (rest : Text) (h : Held) (onward : Held → Held × Outcome)
    (next_fault : Held → Kinds) → list_all is_giving c ≡ true → IsGiving found
    → ((g : Held) → next_fault g ≡ [] → AreFull g.rows → AreFull (onward g).0.rows)
    → short_fault c again found rest h next_fault ≡ [] → AreFull h.rows → AreFull (short_met c found rest h onward).0.rows
short_met-full c again None rest h onward next_fault all giving later none f = f
short_met-full c again (Some a) rest h onward next_fault all giving later none f =
    short_taken-full c again a rest h (takes_values a) onward next_fault all giving later none f

bundle_step-full : (c : List Rule) (again : Bool) (first : Option ℕ) (flags : Text) (skip : ℕ) (so_far : Outcome) (h : Held)
    (met : Text → ℕ → Outcome → Held → Held × Outcome) (fault : Text → ℕ → Held → Kinds) → list_all is_giving c ≡ true
    → ((more : Text) (over : ℕ) (before : Outcome) (g : Held) → fault more over g ≡ [] → AreFull g.rows → AreFull (met more over before g).0.rows)
    → bundle_step_fault c again first flags skip h fault ≡ [] → AreFull h.rows → AreFull (bundle_step c first flags skip so_far h met).0.rows
bundle_step-full c again None flags skip so_far h met fault all later none f = f
bundle_step-full c again (Some x) flags zero so_far h met fault all later none f =
    let rest = drop (length (encode_utf8 x)) flags in
    short_met-full c again (arg_by_short c x) rest h (met rest 0 done) (fault rest 0) all (find-giving _ c all) (later rest 0 done) none f
bundle_step-full c again (Some x) flags (suc skip) so_far h met fault all later none f =
    later (drop (length (encode_utf8 x)) flags) skip so_far h none f

-- a bundle of flags, from its first character on
bundle-full : (c : List Rule) (again : Bool) (k : ℕ) (flags : Text) (skip : ℕ) (so_far : Outcome) (h : Held) → list_all is_giving c ≡ true
    → flags_fault c again k flags skip h ≡ [] → AreFull h.rows → AreFull (bundle_met c k flags skip so_far h).0.rows
unfolding bundle_met flags_fault
bundle-full c again zero flags skip so_far h all none f = f
bundle-full c again (suc k) flags skip so_far h all none f =
    bundle_step-full c again (slice_get (chars flags) 0) flags skip so_far h (bundle_met c k) (flags_fault c again k) all
    (λ more over before g n filled. bundle-full c again k more over before g all n filled) none f

option_word-full : (found : Option Rule) (id word : Text) (h : Held) → AreFull h.rows → AreFull (option_word found id word h).0.rows
option_word-full None id word h f = f
option_word-full (Some a) id word h f = f

plain_word-full : (c : List Rule) (waiting : Waiting) (word : Text) (h : Held) → AreFull h.rows → AreFull (plain_word c waiting word h).0.rows
plain_word-full c idle word h f = f
plain_word-full c (option id) word h f = option_word-full (arg_by_id c id) id word h f
plain_word-full c positional word h f = f

after_flag-full : (c : List Rule) (waiting : Waiting) (word : Text) (h : Held) (outcome : Outcome) → AreFull h.rows
    → AreFull (after_flag c waiting word h outcome).0.rows
after_flag-full c waiting word h done f = f
after_flag-full c waiting word h (waits id) f = f
after_flag-full c waiting word h plain f = plain_word-full c waiting word h f
after_flag-full c waiting word h refused f = plain_word-full c waiting word h f

short_or_plain-full : (c : List Rule) (again : Bool) (waiting : Waiting) (word : Text) (flags : Option Text) (h : Held) → list_all is_giving c ≡ true
    → option_map_or (λ fs. bundle_fault c again fs h) flags [] ≡ [] → AreFull h.rows → AreFull (short_or_plain c waiting word flags h).0.rows
short_or_plain-full c again waiting word None h all none f = plain_word-full c waiting word h f
short_or_plain-full c again waiting word (Some flags) h all none f =
    after_flag-full c waiting word (bundle c flags h).0 (bundle c flags h).1
    (bundle-full c again (length flags) flags h.skip plain (record h { skip = 0 }) all none f)

long_or_other-full : (c : List Rule) (again : Bool) (waiting : Waiting) (word : Text) (long : Option (Text × Option Text)) (h : Held)
    → list_all is_giving c ≡ true → flag_word_fault c again long word h ≡ [] → AreFull h.rows → AreFull (long_or_other c waiting word long h).0.rows
long_or_other-full c again waiting word (Some p) h all none f =
    after_flag-full c waiting word (long_met c (arg_by_long c p.0) p.1 h).0 (long_met c (arg_by_long c p.0) p.1 h).1
    (long_met-full c again (arg_by_long c p.0) p.1 h all (find-giving _ c all) none f)
long_or_other-full c again waiting word None h all none f = short_or_plain-full c again waiting word (short_of word) h all none f

-- `--`, or another word
dashes-full : (c : List Rule) (again : Bool) (dashes : Bool) (waiting : Waiting) (position : ℕ) (word : Text) (h : Held) → list_all is_giving c ≡ true
    → (if dashes then [] else flag_word_fault c again (long_of word) word h) ≡ [] → AreFull h.rows
    → AreFull (let met : Held × Step = if dashes then (h, trailing position) else long_or_other c waiting word (long_of word) h in met).0.rows
dashes-full c again true waiting position word h all none f = f
dashes-full c again false waiting position word h all none f = long_or_other-full c again waiting word (long_of word) h all none f

other-full : (s : Shape) (name : Option Text) (waiting : Waiting) (position : ℕ) (word : Text) (h : Held) → list_all is_giving s.rules ≡ true
    → other_fault s name word h ≡ [] → AreFull h.rows → AreFull (subcommand_or_other s.rules name waiting position word h).0.rows
other-full s (Some name) waiting position word h all none f = f
other-full s None waiting position word h all none f =
    dashes-full s.rules s.args_override_self (bytes_eq word (45 ∷ 45 ∷ [])) waiting position word h all none f

word-full : (s : Shape) (names : Names) (is_trailing : Bool) (waiting : Waiting) (position : ℕ) (word : Text) (h : Held) → list_all is_giving s.rules ≡ true
    → word_fault s names is_trailing waiting word h ≡ [] → AreFull h.rows → AreFull (word_met s.rules names is_trailing waiting position word h).0.rows
word-full s names true waiting position word h all none f = f
word-full s names false waiting position word h all none f = other-full s (subcommand_met names waiting word) waiting position word h all none f

-- ---- one turn of the walk

held-full : (c : List Rule) (again : Bool) (a : Rule) (word : Text) (h : Held) (stays : Bool) → list_all is_giving c ≡ true
    → (if stays then [] else settle_fault c again h) ≡ [] → AreFull h.rows → AreFull (pushed a.id word (if stays then h else settled c h)).rows
held-full c again a word h true all none f = f
held-full c again a word h false all none f = settled-full c again h all none f

positional-full : (s : Shape) (found : Option Rule) (word : Text) (w : Walk) (h : Held) → list_all is_giving s.rules ≡ true
    → option_map_or (λ a. positional_fault s.rules s.args_override_self a h) found (stray_fault s) ≡ [] → AreFull h.rows
    → AreFull (to_positional s.rules found word w h).held.rows
positional-full s None word w h all none f = f
positional-full s (Some a) word w h all none f =
    held-full s.rules s.args_override_self a word h (is_pending a h.pending && takes_several a) all none f

step-full : (s : Shape) (word : Text) (w : Walk) (h : Held) (step : Step) → list_all is_giving s.rules ≡ true → step_fault s w.position h step ≡ []
    → AreFull h.rows → AreFull (after_step s.rules word w h step).held.rows
step-full s word w h (next waiting) all none f = f
step-full s word w h (trailing position) all none f = f
step-full s word w h (subcommand name) all none f = f
step-full s word w h value all none f = positional-full s (arg_by_index s.rules w.position) word w h all none f

stopped-full : (s : Shape) (names : Names) (stopped : Option (Text × List Text)) (w : Walk) (word : Text) → list_all is_giving s.rules ≡ true
    → (let met = word_met s.rules names w.is_trailing w.waiting w.position word w.held in
    if is_some stopped then [] else or_else (word_fault s names w.is_trailing w.waiting word w.held) (step_fault s w.position met.0 met.1)) ≡ []
    → AreFull w.held.rows → AreFull (walked_from s.rules names stopped w word).held.rows
stopped-full s names (Some p) w word all none f = f
stopped-full s names None w word all none f =
    let met = word_met s.rules names w.is_trailing w.waiting w.position word w.held in
    step-full s word w met.0 met.1 all (no_second (word_fault s names w.is_trailing w.waiting word w.held) _ none)
    (word-full s names w.is_trailing w.waiting w.position word w.held all (no_first _ (step_fault s w.position met.0 met.1) none) f)

-- ---- the walk, and what follows it

pub walk-full : (s : Shape) (names : Names) (w : Walk) (words : List Text) → list_all is_giving s.rules ≡ true → walk_fault s names w words ≡ []
    → AreFull w.held.rows → AreFull (fold (walked s.rules names) w words).held.rows
unfolding walked walk_fault
walk-full s names w [] all none f = f
walk-full s names w (word ∷ rest) all none f =
    walk-full s names (walked s.rules names w word) rest all (no_second (turn_fault s names w word) _ none)
    (stopped-full s names w.stopped w word all (no_first _ (walk_fault s names (walked s.rules names w word) rest) none) f)

default_rows-full : (id : Text) (how : Reading) (values : List Text) (rows : List Row) → AreFull rows → AreFull (default_rows id how values rows)
default_rows-full id how [] rows f = f
default_rows-full id how (v ∷ vs) rows f = with_values-full id how DefaultValue (v ∷ vs) rows tt f

with_default-full : (rows : List Row) (a : Rule) → AreFull rows → AreFull (with_default rows a)
with_default-full rows a f =
    elim (has_row a.id rows) as (λ b. AreFull (if b then rows else default_rows a.id (reading_by a) a.defaults rows)) [
      | true ↦ f
      | false ↦ default_rows-full a.id (reading_by a) a.defaults rows f
    ]

pub defaults-full : (c : List Rule) (rows : List Row) → AreFull rows → AreFull (fold with_default rows c)
defaults-full [] rows f = f
defaults-full (a ∷ rest) rows f = defaults-full rest (with_default rows a) (with_default-full rows a f)

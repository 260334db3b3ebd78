-- The positional words of `decide`, with any number of arguments at the end.
use Rattle.std.specs.Prelude.{◌≡◌, ◌++◌, List, [], ◌∷◌, Some, None, codes, fold, slice_index_or, false, refl}
use Rattle.std.proofs.Common.{◌∙◌, ap, ap₂, append_assoc}
use Rattle.clap.proofs.OnLiterals.{clap_on_literals}
use Rattle.clap.specs.Faults.{step_fault}
use Rattle.clap.specs.Kinds.{or_else}
use Rattle.clap.specs.Simple.{Shape, built}
use Rattle.clap.specs.Walk.{Row, Text, Walk, finished, positional, value}
use Rattle.clap.specs.declared.parser.matches.ValueSource.TheVariants.{CommandLine}
use Rattle.clap.specs.declared.builder.value_parser.Reading.TheVariants as reading
use Rattle.desk_args.specs.CommandLine.{check, desk_app, given_values}
use Rattle.desk_args.proofs.Placed.{at_place, ended, placed, placed_fault, placed_level}

abbrev pub leaf : Shape
leaf = slice_index_or (built desk_app).subs 1 check.top

abbrev pub row : Text → List Text → Row
row id values = record { id = id; values = values; count = None; source = Some CommandLine; reading = reading.AsWritten }

-- the row of ARGS, where there are any
abbrev pub args_row : List Text → List Row
args_row [] = []
args_row (v ∷ vs) = row (codes "ARGS") (v ∷ vs) ∷ []

-- the rows of the six values before ARGS
abbrev pub six : (f u h r t p : Text) → List Row → List Row
six f u h r t p more =
    row (codes "FILE") (f ∷ []) ∷ row (codes "USER") (u ∷ []) ∷ row (codes "HOST") (h ∷ []) ∷ row (codes "RUNAS") (r ∷ []) ∷ row (codes "AT") (t ∷ [])
    ∷ row (codes "PATH") (p ∷ []) ∷ more

-- the walk after the six, with these values of ARGS, and one more that is pending
abbrev at_args : (f u h r t p : Text) → List Text → Text → Walk
at_args f u h r t p vs x = record {
  held = record { rows = six f u h r t p (args_row vs); pending = Some (codes "ARGS", x ∷ []); skip = 0 };
  waiting = positional;
  position = 7;
  is_trailing = false;
  stopped = None;
}

one_more : (f u h r t p : Text) (vs : List Text) (x y : Text) → at_place leaf.rules (at_args f u h r t p vs x) y ≡ at_args f u h r t p (vs ++ x ∷ []) y
unfolding clap_on_literals
one_more f u h r t p [] x y = refl
one_more f u h r t p (v ∷ vs) x y = refl

one_faultless : (f u h r t p : Text) (vs : List Text) (x : Text) → step_fault leaf 7 (at_args f u h r t p vs x).held value ≡ []
unfolding clap_on_literals
one_faultless f u h r t p [] x = refl
one_faultless f u h r t p (v ∷ vs) x = refl

all_faultless : (f u h r t p : Text) (vs : List Text) (x : Text) (ys : List Text) → placed_fault leaf (at_args f u h r t p vs x) ys ≡ []
all_faultless f u h r t p vs x [] = refl
all_faultless f u h r t p vs x (y ∷ ys) =
    ap₂ or_else (one_faultless f u h r t p vs x)
    (ap (λ (w : Walk). placed_fault leaf w ys) (one_more f u h r t p vs x y) ∙ all_faultless f u h r t p (vs ++ x ∷ []) y ys)

-- the walk after the last argument
record Last (f u h r t p : Text) (args : List Text) (w : Walk) : Type 0 where
  pub before : List Text
  pub last : Text
  pub is : w ≡ at_args f u h r t p before last
  pub all : before ++ last ∷ [] ≡ args

last_of : (f u h r t p : Text) (vs : List Text) (x : Text) (ys : List Text)
    → Last f u h r t p (vs ++ x ∷ ys) (fold (at_place leaf.rules) (at_args f u h r t p vs x) ys)
last_of f u h r t p vs x [] = record { before = vs; last = x; is = refl; all = refl }
last_of f u h r t p vs x (y ∷ ys) =
    let l = last_of f u h r t p (vs ++ x ∷ []) y ys in
    record {
      before = l.before;
      last = l.last;
      is = ap (λ (w : Walk). fold (at_place leaf.rules) w ys) (one_more f u h r t p vs x y) ∙ l.is;
      all = l.all ∙ append_assoc vs (x ∷ []) (y ∷ ys);
    }

ends_faultless : (f u h r t p : Text) (vs : List Text) (x : Text) → ended leaf [] (at_args f u h r t p vs x) ≡ []
unfolding clap_on_literals
ends_faultless f u h r t p [] x = refl
ends_faultless f u h r t p (v ∷ vs) x = refl

ends_with : (f u h r t p : Text) (vs : List Text) (x : Text)
    → finished leaf.rules (at_args f u h r t p vs x).held ≡ six f u h r t p (args_row (vs ++ x ∷ []))
unfolding clap_on_literals
ends_with f u h r t p [] x = refl
ends_with f u h r t p (v ∷ vs) x = refl

pub six_faultless : (f u h r t p : Text) (args : List Text) → placed_level leaf (f ∷ u ∷ h ∷ r ∷ t ∷ p ∷ args) ≡ []
unfolding clap_on_literals
six_faultless f u h r t p [] = refl
six_faultless f u h r t p (x ∷ xs) =
    let l = last_of f u h r t p [] x xs in
    ap₂ (ended leaf) (all_faultless f u h r t p [] x xs) l.is ∙ ends_faultless f u h r t p l.before l.last

pub six_rows : (f u h r t p : Text) (args : List Text)
    → finished leaf.rules (placed leaf.rules (f ∷ u ∷ h ∷ r ∷ t ∷ p ∷ args)).held ≡ six f u h r t p (args_row args)
unfolding clap_on_literals
six_rows f u h r t p [] = refl
six_rows f u h r t p (x ∷ xs) =
    let l = last_of f u h r t p [] x xs in
    ap (λ (w : Walk). finished leaf.rules w.held) l.is
    ∙ ends_with f u h r t p l.before l.last
    ∙ ap (λ args. six f u h r t p (args_row args)) l.all

pub args_are : (f u h r t p : Text) (args : List Text) → given_values (codes "ARGS") (six f u h r t p (args_row args)) ≡ args
args_are f u h r t p [] = refl
args_are f u h r t p (x ∷ xs) = refl

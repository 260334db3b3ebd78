-- The lines of a text are taken apart and joined in one way.
use Rattle.std.proofs.Common.{◌≡◌, ℕ, ◌-◌, ◌<◌, ◌==◌, Bool, true, false, List, [], ◌∷◌, ◌++◌, length, get_or}
use Rattle.std.proofs.Common.{take, Bor, Option, Some, None, refl, sym, ap, subst, ◌∙◌, inl, inr, arith}
use Rattle.std.specs.Prelude.{MatchOption, ◌≢◌}
use Rattle.std.proofs.lemmas.Bool.{cases_Bool, false≢true, false_from_ne_true, eqb-true, not-false}
use Rattle.std.proofs.lemmas.Bool.Decides.{Decides-eqb}
use Rattle.std.proofs.lemmas.Slice.Eq.{ends_is}
use Rattle.std.proofs.lemmas.List.{append-nil, append_cancel_right, length-append}
use Rattle.std.proofs.Math.Seq.{get_or-append_seam, take-suc, take-length}
use Rattle.sudo_words.specs.Bytes.{backslash}
use Rattle.sudo_policy.specs.Span.{Each}
use Rattle.sudo_policy.specs.private.Cuts.{IsCut}
use Rattle.sudo_policy.specs.Lines.{is_no_hash, ends_in_backslash, last_passes, may_go_on, is_before_comment, is_comment, IsBody, IsContinued, Joined}
use Rattle.sudo_policy.proofs.Spans.{one_cut}

-- ---- the last byte

last_of : (xs : List ℕ) (x : ℕ) → get_or (xs ++ x ∷ []) (length (xs ++ x ∷ []) - 1) 0 ≡ x
last_of xs x =
    let size : length (xs ++ x ∷ []) - 1 ≡ length xs = omega (arith, length-append xs (x ∷ [])) in
    rw size (get_or-append_seam xs x [] 0)

pub last_passes_last : (p : ℕ → Bool) (xs : List ℕ) (x : ℕ) → last_passes p (xs ++ x ∷ []) ≡ p x
last_passes_last p [] x = refl
last_passes_last p (y ∷ ys) x = ap p (last_of (y ∷ ys) x)

-- a line with a last byte that passes
pub last_split : (p : ℕ → Bool) (line : List ℕ) → last_passes p line ≡ true → (front : List ℕ) × (x : ℕ) × (line ≡ front ++ x ∷ []) × (p x ≡ true)
last_split p [] h = absurd (false≢true h)
last_split p (b ∷ bs) h =
    let back : length (b ∷ bs) - 1 ≡ length bs = omega arith in
    let whole : b ∷ bs ≡ take (length bs) (b ∷ bs) ++ get_or (b ∷ bs) (length bs) 0 ∷ [] =
    sym (take-length (b ∷ bs)) ∙ take-suc (b ∷ bs) (length bs) 0 (omega arith) in
    (take (length bs) (b ∷ bs), get_or (b ∷ bs) (length bs) 0, whole, ap (λ (i : ℕ). p (get_or (b ∷ bs) i 0)) (sym back) ∙ h)

abbrev pub is_backslash : ℕ → Bool
is_backslash b = b == 92

-- a text ends in a backslash where its last byte is one
pub backslash_last : (text : List ℕ) → ends_in_backslash text ≡ last_passes is_backslash text
backslash_last text =
    let ends = ends_is Decides-eqb text (92 ∷ []) (ends_in_backslash text) refl in
    elim (cases_Bool (last_passes is_backslash text)) as (λ _. ends_in_backslash text ≡ last_passes is_backslash text) [
      | inl holds ↦
          let t = last_split is_backslash text holds in
          ends.1 t.0 (t.2 ∙ ap (λ (x : ℕ). t.0 ++ x ∷ []) (eqb-true t.1 92 t.3)) ∙ sym holds
      | inr fails ↦
          false_from_ne_true (ends_in_backslash text)
          (λ e. false≢true (sym fails ∙ ap (last_passes is_backslash) (ends.0 e) ∙ last_passes_last is_backslash (take (length text - 1) text) 92)) ∙ sym fails
    ]

-- the front that is left, when a last byte is taken off, is unique
pub one_front : (xs ys : List ℕ) (x : ℕ) → xs ++ x ∷ [] ≡ ys ++ x ∷ [] → xs ≡ ys
one_front xs ys x e = append_cancel_right xs ys (x ∷ []) e

-- taking a backslash off the end, if there is one
pub backslash_off : (line : List ℕ) (r : Option (Bor (List ℕ)))
    → MatchOption r ((front : List ℕ) → line ≢ front ++ backslash ∷ []) (λ x. line ≡ x.now ++ backslash ∷ [])
    → MatchOption r (ends_in_backslash line ≡ false) (λ front. line ≡ front.now ++ backslash ∷ [])
backslash_off line None h = backslash_last line ∙ false_from_ne_true (last_passes is_backslash line) (λ e. let t = last_split is_backslash line e in
    h t.0 (t.2 ∙ ap (λ (x : ℕ). t.0 ++ x ∷ []) (eqb-true t.1 backslash t.3)))
backslash_off line (Some x) h = h

-- ---- a line without its comment

-- a line without `#` is cut at its end
pub no_hash_cut : (line : List ℕ) → Each is_no_hash line → IsCut is_no_hash line line []
no_hash_cut line h = record { whole = sym (append-nil line); each = h; stops = tt }

pub each_append : (p : ℕ → Bool) (xs ys : List ℕ) → Each p xs → Each p ys → Each p (xs ++ ys)
each_append p [] ys h k = k
each_append p (x ∷ xs) ys h k = (h.0, each_append p xs ys h.1 k)

-- What follows the part of a line before its first `#`: a comment, or nothing, where that part does not end in a backslash.
abbrev pub IsNote : List ℕ → List ℕ → Type 0
IsNote body [] = last_passes is_backslash body ≡ false
IsNote body (b ∷ note) = (is_before_comment body ≡ true) × (is_comment note ≡ true)

-- a line that does not go on, cut at its first `#`
abbrev pub IsCutBody : List ℕ → List ℕ → Type 0
IsCutBody line body = (rest : List ℕ) × IsCut is_no_hash line body rest × IsNote body rest

pub cut_of : (line body : List ℕ) → IsBody line body → IsCutBody line body
cut_of line body (inl (plain, same)) = (
  [],
  record { whole = sym same ∙ sym (append-nil body); each = subst (Each is_no_hash) (sym same) plain.each; stops = tt },
  ap (last_passes is_backslash) same ∙ sym (backslash_last line) ∙ plain.ends,
)
cut_of line body (inr (comment, h)) = (35 ∷ comment, record { whole = h.whole; each = h.each; stops = refl }, (h.before, h.allowed))

pub body_of : (line body rest : List ℕ) → IsCut is_no_hash line body rest → IsNote body rest → IsBody line body
body_of line body [] c n =
    let same : line ≡ body = c.whole ∙ append-nil body in
    inl (record { each = subst (Each is_no_hash) (sym same) c.each; ends = ap ends_in_backslash same ∙ backslash_last body ∙ n }, sym same)
body_of line body (b ∷ note) c n = inr (
  note,
  record {
    whole = c.whole ∙ ap (λ (x : ℕ). body ++ x ∷ note) (eqb-true b 35 (not-false (b == 35) c.stops));
    each = c.each;
    before = n.0;
    allowed = n.1;
  },
)

-- a body is the front of the cut
pub body_cut : (line body rest : List ℕ) → IsCut is_no_hash line body rest → (other : List ℕ) → IsBody line other → (body ≡ other) × IsNote body rest
body_cut line body rest c other is =
    let cut = cut_of line other is in
    let d = cut.1 in
    let t = one_cut is_no_hash body rest other cut.0 c.each c.stops d.each d.stops (sym c.whole ∙ d.whole) in
    (t.0, subst (λ (b : List ℕ). IsNote b rest) (sym t.0) (subst (IsNote other) (sym t.1) cut.2))

pub body_one : (line a b : List ℕ) → IsBody line a → IsBody line b → a ≡ b
body_one line a b is h =
    let cut = cut_of line a is in
    (body_cut line a cut.0 cut.1 b h).0

-- ---- a line that goes on

pub front_one : (line a b : List ℕ) → IsContinued line a → IsContinued line b → a ≡ b
front_one line a b h k = one_front a b backslash (sym h.whole ∙ k.whole)

-- a line that goes on has no `#`
pub no_hash_in : (line front : List ℕ) → IsContinued line front → Each is_no_hash line
no_hash_in line front h = subst (Each is_no_hash) (sym h.whole) (each_append is_no_hash front (backslash ∷ []) h.each (refl, tt))

each_front : (p : ℕ → Bool) (xs ys : List ℕ) → Each p (xs ++ ys) → Each p xs
each_front p [] ys h = tt
each_front p (x ∷ xs) ys h = (h.0, each_front p xs ys h.1)

-- nor has what stands before its last byte
pub front_is : (line front : List ℕ) → Each is_no_hash line → line ≡ front ++ backslash ∷ [] → Each is_no_hash front
front_is line front each e = each_front is_no_hash front (backslash ∷ []) (subst (Each is_no_hash) e each)

-- a line that ends in a backslash has no body
pub backslash_no_body : (line front : List ℕ) → Each is_no_hash line → line ≡ front ++ backslash ∷ [] → (body : List ℕ) → IsBody line body → ⊥
backslash_no_body line front each e body h =
    let note = (body_cut line line [] (no_hash_cut line each) body h).1 in
    false≢true (sym note ∙ ap (last_passes is_backslash) e ∙ last_passes_last is_backslash front backslash)

pub body_or_front : (line body front : List ℕ) → IsBody line body → IsContinued line front → ⊥
body_or_front line body front h k = backslash_no_body line front (no_hash_in line front k) k.whole body h

-- a line with a `#` does not go on
pub hash_no_front : (line body rest : List ℕ) → IsCut is_no_hash line body rest → 0 < length rest → (front : List ℕ) → IsContinued line front → ⊥
hash_no_front line body rest c some front k =
    let t = one_cut is_no_hash body rest line [] c.each c.stops (no_hash_in line front k) tt (sym c.whole ∙ sym (append-nil line)) in
    omega (arith, some, ap length t.1)

-- a line has no body if its first `#` does not begin a comment
pub hash_bad : (line body rest : List ℕ) → IsCut is_no_hash line body rest → (x : ℕ) (note : List ℕ) → rest ≡ x ∷ note
    → ((is_before_comment body ≡ true) → (is_comment note ≡ true) → ⊥) → (other : List ℕ) → IsBody line other → ⊥
hash_bad line body rest c x note e bad other h = let t = subst (IsNote body) e (body_cut line body rest c other h).1 in bad t.0 t.1

-- a line does not go on if a line may not go on after the byte before its last backslash
pub bad_front : (line front : List ℕ) → line ≡ front ++ backslash ∷ [] → last_passes may_go_on front ≡ false → (other : List ℕ) → IsContinued line other → ⊥
bad_front line front e bad other k =
    let same = one_front front other backslash (sym e ∙ k.whole) in
    false≢true (sym bad ∙ ap (last_passes may_go_on) same ∙ k.ends)

-- ---- joined lines

pub joined_one : (lines a b : List (List ℕ)) → Joined lines a → Joined lines b → a ≡ b
joined_one [] a b h k = h ∙ sym k
joined_one (line ∷ lines) a b (inl (body, more, is, e, rest)) (inl (body_b, more_b, is_b, e_b, rest_b)) =
    let one = body_one line body body_b is is_b in
    let others = joined_one lines more more_b rest rest_b in
    cc
joined_one (line ∷ lines) a b (inl (body, more, is, e, rest)) (inr (front, body_b, more_b, is_b, e_b, rest_b)) = absurd (body_or_front line body front is is_b)
joined_one (line ∷ lines) a b (inr (front, body, more, is, e, rest)) (inl (body_b, more_b, is_b, e_b, rest_b)) =
    absurd (body_or_front line body_b front is_b is)
joined_one (line ∷ lines) a b (inr (front, body, more, is, e, rest)) (inr (front_b, body_b, more_b, is_b, e_b, rest_b)) =
    let one = front_one line front front_b is is_b in
    let others = joined_one lines (body ∷ more) (body_b ∷ more_b) rest rest_b in
    cc

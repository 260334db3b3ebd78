-- The scan ends exactly at the end of a head.
use Rattle.std.proofs.Common.{◌≡◌, ◌<◌, ◌⊎◌, ◌+◌, ℕ, suc, Bool, true, false, List, [], ◌∷◌, ◌++◌, refl, sym, ap, ◌∙◌, subst, inl, inr, arith}
use Rattle.std.proofs.Common.{append_assoc, cond, length, All, ◌==◌, ◌||◌, flat_map}
use Rattle.std.proofs.lemmas.List.{append-nil}
use Rattle.std.proofs.lemmas.Bool.{ne_eqb}
use Rattle.httparse.specs.Grammar.{AllPass, EndsInTarget, Field, IsField, IsRequestHead, IsToken}
use Rattle.httparse.specs.Grammar.{LineEnd, crlf, lf, MayBecomeRequest, ReadsRequest}
use Rattle.httparse.specs.Grammar.{RequestHead, is_token_byte, is_uri_byte, is_value_byte, print_blank, print_end, print_field, print_request, print_version}
use Rattle.relay_http.specs.Scan.{line_after, scanned}
use Rattle.relay_http.specs.declared.head_scan.HeadScan.{HeadScan}
use Rattle.relay_http.specs.declared.head_scan.HeadScan.TheVariants.{Blank, First, Begun, Within, Ended}

-- ---- scans, one after the other

pub scanned-append : (line : HeadScan) (a b : List ℕ) → scanned line (a ++ b) ≡ scanned (scanned line a) b
scanned-append line [] b = refl
scanned-append line (x ∷ a) b = scanned-append (line_after line x) a b

pub ended_stays : (bytes : List ℕ) → scanned Ended bytes ≡ Ended
ended_stays [] = refl
ended_stays (b ∷ bytes) = ended_stays bytes

-- two parts, one after the other
both : (line mid last : HeadScan) (a b : List ℕ) → scanned line a ≡ mid → scanned mid b ≡ last → scanned line (a ++ b) ≡ last
both line mid last a b f g = scanned-append line a b ∙ ap (λ (l : HeadScan). scanned l b) f ∙ g

-- ---- bytes that end no line

-- no byte is a carriage return or a line feed
abbrev NoEnd : List ℕ → Type 0
NoEnd [] = Unit {0}
NoEnd (b ∷ bytes) = ((b == 13) ≡ false) × ((b == 10) ≡ false) × NoEnd bytes

first_stays : (bytes : List ℕ) → NoEnd bytes → scanned First bytes ≡ First
first_stays [] h = refl
first_stays (b ∷ bytes) h = ap (λ (e : Bool). scanned (cond e Begun First) bytes) h.1 ∙ first_stays bytes h.2

within_stays : (bytes : List ℕ) → NoEnd bytes → scanned Within bytes ≡ Within
within_stays [] h = refl
within_stays (b ∷ bytes) h = ap (λ (e : Bool). scanned (cond e Begun Within) bytes) h.1 ∙ within_stays bytes h.2

-- a byte that passes is another one than a byte that does not
differs : (test : ℕ → Bool) (b n : ℕ) → test n ≡ false → test b ≡ true → (b == n) ≡ false
differs test b n fails passes =
    ne_eqb b n (λ e. let wrong : true ≡ false = sym passes ∙ ap test e ∙ fails in absurd cc)

no_end : (test : ℕ → Bool) → test 13 ≡ false → test 10 ≡ false → (bytes : List ℕ) → AllPass test bytes → NoEnd bytes
no_end test cr nl [] h = tt
no_end test cr nl (b ∷ bytes) h =
    let here : test b ≡ true = h 0 b (omega arith) in
    let later : AllPass test bytes = λ k d lt. h (suc k) d (omega (arith, lt)) in (
      differs test b 13 cr here,
      differs test b 10 nl here,
      no_end test cr nl bytes later,
    )

token_ends_not : (bytes : List ℕ) → AllPass is_token_byte bytes → NoEnd bytes
unfolding is_token_byte
token_ends_not bytes h = no_end is_token_byte refl refl bytes h

uri_ends_not : (bytes : List ℕ) → AllPass is_uri_byte bytes → NoEnd bytes
uri_ends_not bytes h = no_end is_uri_byte refl refl bytes h

value_ends_not : (bytes : List ℕ) → AllPass is_value_byte bytes → NoEnd bytes
value_ends_not bytes h = no_end is_value_byte refl refl bytes h

-- ---- the parts of a head

blank_stays : (ends : List LineEnd) → scanned Blank (print_blank ends) ≡ Blank
blank_stays [] = refl
blank_stays (crlf ∷ ends) = blank_stays ends
blank_stays (lf ∷ ends) = blank_stays ends

-- the first byte that ends no line begins one
begins : (line next : HeadScan) (bytes : List ℕ) → ((b : ℕ) → (b == 13) ≡ false → (b == 10) ≡ false → line_after line b ≡ next)
    → ((rest : List ℕ) → NoEnd rest → scanned next rest ≡ next) → 0 < length bytes → NoEnd bytes → scanned line bytes ≡ next
begins line next [] step stays some h = absurd (omega (arith, some))
begins line next (b ∷ bytes) step stays some h = ap (λ (l : HeadScan). scanned l bytes) (step b h.0 h.1) ∙ stays bytes h.2

blank_next : (b : ℕ) → (b == 13) ≡ false → (b == 10) ≡ false → line_after Blank b ≡ First
blank_next b cr nl = by (b == 13) (b == 10) cr nl
  where
    by : (c n : Bool) → c ≡ false → n ≡ false → cond (c || n) Blank First ≡ First
    by true n e f = absurd cc
    by false true e f = absurd cc
    by false false e f = refl

begun_next : (b : ℕ) → (b == 13) ≡ false → (b == 10) ≡ false → line_after Begun b ≡ Within
begun_next b cr nl = by (b == 13) (b == 10) cr nl
  where
    by : (c n : Bool) → c ≡ false → n ≡ false → cond c Begun (cond n Ended Within) ≡ Within
    by true n e f = absurd cc
    by false true e f = absurd cc
    by false false e f = refl

method_first : (method : List ℕ) → IsToken method → scanned Blank method ≡ First
method_first method h = begins Blank First method blank_next first_stays h.0 (token_ends_not method h.1)

name_within : (name : List ℕ) → IsToken name → scanned Begun name ≡ Within
name_within name h = begins Begun Within name begun_next within_stays h.0 (token_ends_not name h.1)

version_first : (minor : ℕ) → scanned First (print_version minor) ≡ First
version_first minor = ap (λ (e : Bool). cond e Begun First) (ne_eqb (48 + minor) 10 (λ e. omega (arith, e)))

line_begun : (end : LineEnd) → scanned First (print_end end) ≡ Begun
line_begun crlf = refl
line_begun lf = refl

field_begun : (end : LineEnd) → scanned Within (print_end end) ≡ Begun
field_begun crlf = refl
field_begun lf = refl

field_scanned : (f : Field) → IsField f → scanned Begun (print_field f) ≡ Begun
field_scanned f h =
    both Begun Within Begun (f.name ++ 58 ∷ f.raw) (print_end f.end)
    (both Begun Within Within f.name (58 ∷ f.raw) (name_within f.name h.name) (within_stays f.raw (value_ends_not f.raw h.raw))) (field_begun f.end)

fields_scanned : (fields : List Field) → All IsField fields → scanned Begun (flat_map print_field fields) ≡ Begun
fields_scanned [] h = refl
fields_scanned (f ∷ fields) h =
    both Begun Begun Begun (print_field f) (flat_map print_field fields) (field_scanned f (h 0 f (omega arith)))
    (fields_scanned fields (λ k d lt. h (suc k) d (omega (arith, lt))))

-- ---- all but the last byte of a head

pub before_feed : LineEnd → List ℕ
before_feed crlf = 13 ∷ []
before_feed lf = []

last_feed : (end : LineEnd) → print_end end ≡ before_feed end ++ 10 ∷ []
unfolding before_feed
last_feed crlf = refl
last_feed lf = refl

still_begun : (end : LineEnd) → scanned Begun (before_feed end) ≡ Begun
unfolding before_feed
still_begun crlf = refl
still_begun lf = refl

abbrev pub all_but_last : RequestHead → List ℕ
all_but_last h =
    print_blank h.blank ++ h.method ++ 32 ∷ h.target ++ 32 ∷ print_version h.minor ++ print_end h.line_end
    ++ (flat_map print_field h.fields ++ before_feed h.last)

pub last_is_feed : (h : RequestHead) → print_request h ≡ all_but_last h ++ 10 ∷ []
unfolding print_request
last_is_feed h =
    let front = print_blank h.blank ++ h.method ++ 32 ∷ h.target ++ 32 ∷ print_version h.minor ++ print_end h.line_end in
    ap (λ (z : List ℕ). front ++ (flat_map print_field h.fields ++ z)) (last_feed h.last)
    ∙ regroup front (flat_map print_field h.fields) (before_feed h.last) (10 ∷ [])
  where
    regroup : (a b c d : List ℕ) → a ++ (b ++ (c ++ d)) ≡ (a ++ (b ++ c)) ++ d
    regroup a b c d = simp append_assoc refl

begun_before_last : (h : RequestHead) → IsRequestHead h → scanned Blank (all_but_last h) ≡ Begun
begun_before_last h is =
    let s1 : scanned Blank (print_blank h.blank ++ h.method) ≡ First =
    both Blank Blank First (print_blank h.blank) h.method (blank_stays h.blank) (method_first h.method is.method) in
    let s2 : scanned Blank (print_blank h.blank ++ h.method ++ 32 ∷ h.target) ≡ First =
    both Blank First First (print_blank h.blank ++ h.method) (32 ∷ h.target) s1 (first_stays h.target (uri_ends_not h.target is.target.1)) in
    let s3 : scanned Blank (print_blank h.blank ++ h.method ++ 32 ∷ h.target ++ 32 ∷ print_version h.minor) ≡ First =
    both Blank First First (print_blank h.blank ++ h.method ++ 32 ∷ h.target) (32 ∷ print_version h.minor) s2 (version_first h.minor) in
    let s4 : scanned Blank (print_blank h.blank ++ h.method ++ 32 ∷ h.target ++ 32 ∷ print_version h.minor ++ print_end h.line_end) ≡ Begun =
    both Blank First Begun (print_blank h.blank ++ h.method ++ 32 ∷ h.target ++ 32 ∷ print_version h.minor) (print_end h.line_end)
    s3 (line_begun h.line_end) in
    both Blank Begun Begun (print_blank h.blank ++ h.method ++ 32 ∷ h.target ++ 32 ∷ print_version h.minor ++ print_end h.line_end)
    (flat_map print_field h.fields ++ before_feed h.last) s4
    (both Begun Begun Begun (flat_map print_field h.fields) (before_feed h.last) (fields_scanned h.fields is.fields) (still_begun h.last))

-- ---- where the scan ends

-- behind a head
pub ended_behind : (bytes : List ℕ) (h : RequestHead) (rest : List ℕ) → ReadsRequest bytes h rest → scanned Blank bytes ≡ Ended
ended_behind bytes h rest reads =
    ap (λ (l : List ℕ). scanned Blank l) (reads.1 ∙ ap (λ (l : List ℕ). l ++ rest) (last_is_feed h))
    ∙ both Blank Ended Ended (all_but_last h ++ 10 ∷ []) rest
    (both Blank Begun Ended (all_but_last h) (10 ∷ []) (begun_before_last h reads.0) refl) (ended_stays rest)

-- one list less the last of another
shorter : (a b front : List ℕ) (x : ℕ) → a ++ b ≡ front ++ x ∷ [] → (b ≡ []) ⊎ ((mid : List ℕ) × (a ++ mid ≡ front))
shorter [] b front x e = inr (front, refl)
shorter (y ∷ []) [] [] x e = inl refl
shorter (y ∷ (z ∷ a)) b [] x e = absurd cc
shorter (y ∷ []) (z ∷ b) [] x e = absurd cc
shorter (y ∷ a) b (z ∷ front) x e =
    let head : y ≡ z = cc in
    let tails : a ++ b ≡ front ++ x ∷ [] = cc in
    elim (shorter a b front x tails) as (λ _. (b ≡ []) ⊎ ((mid : List ℕ) × ((y ∷ a) ++ mid ≡ z ∷ front))) [
      | inl none ↦ inl none
      | inr m ↦ inr (m.0, ap (λ (i : ℕ). i ∷ (a ++ m.0)) head ∙ ap (λ (l : List ℕ). z ∷ l) m.1)
    ]

in_target : (bytes : List ℕ) → EndsInTarget bytes → scanned Blank bytes ≡ First
in_target bytes x =
    ap (λ (l : List ℕ). scanned Blank l) x.5
    ∙ both Blank First First (print_blank x.0 ++ x.1) (32 ∷ x.2) (both Blank Blank First (print_blank x.0) x.1 (blank_stays x.0) (method_first x.1 x.3))
    (first_stays x.2 (uri_ends_not x.2 x.4))

-- so bytes that may become a head, and whose scan has ended, are one
pub ended_is_head : (bytes : List ℕ) → MayBecomeRequest bytes → scanned Blank bytes ≡ Ended → (h : RequestHead) × ReadsRequest bytes h []
ended_is_head bytes (inr x) ended = let wrong : First ≡ Ended = sym (in_target bytes x) ∙ ended in absurd cc
ended_is_head bytes (inl x) ended =
    let h = x.1 in
    let is : bytes ++ x.0 ≡ all_but_last h ++ 10 ∷ [] = x.2.1 ∙ append-nil (print_request h) ∙ last_is_feed h in
    elim (shorter bytes x.0 (all_but_last h) 10 is) as (λ _. (k : RequestHead) × ReadsRequest bytes k []) [
      | inl none ↦ (
        h,
        subst (λ (l : List ℕ). ReadsRequest l h []) (ap (λ (m : List ℕ). bytes ++ m) none ∙ append-nil bytes) x.2,
      )
      | inr m ↦ let later : scanned Blank (all_but_last h) ≡ Ended =
          ap (λ (l : List ℕ). scanned Blank l) (sym m.1) ∙ both Blank Ended Ended bytes m.0 ended (ended_stays m.0) in
          let wrong : Begun ≡ Ended = sym (begun_before_last h x.2.0) ∙ later in absurd cc
    ]

-- The tokens that the reader takes from a line, one after the other, are those that the line has.
use Rattle.std.proofs.Common.{not, eqb, ◌-◌, get_or, take, drop, take_all, ◌≡◌, ℕ, ◌<◌, ◌≤◌, Bool, true, false}
use Rattle.std.proofs.Common.{List, [], ◌∷◌, ◌++◌, length, refl, sym, ap, subst, ◌∙◌, append_assoc, arith}
use Rattle.std.proofs.lemmas.Bool.{false≢true, eqb-true}
use Rattle.std.proofs.lemmas.Bool.Decides.{nat_tests}
use Rattle.std.proofs.lemmas.List.{append-nil}
use Rattle.sudo_words.specs.Bytes.{bang}
use Rattle.sudo_policy.specs.Span.{Each}
use Rattle.sudo_policy.specs.private.Cuts.{IsCut, IsFirstToken, is_bang}
use Rattle.sudo_policy.specs.Lex.{is_blank, is_mark, is_word_text, goes_on, bangs, is_some_blank, Tok, word, mark, Lexes}
use Rattle.sudo_syntax.specs.private.Tokens.{IsLast, NoLexing, IsWordCut}
use Rattle.sudo_policy.proofs.Spans.{one_cut}
use Rattle.sudo_policy.proofs.WordTexts.{text_goes_on}
use Rattle.sudo_policy.proofs.Lexing.{each_bang, stops_bangs, after, only_blanks, end_only, lex_word_at}

-- ---- what stands before a word

only_bangs : (bs : List ℕ) → Each is_bang bs → bs ≡ bangs (length bs)
only_bangs [] h = refl
only_bangs (b ∷ bs) h = let first : b ≡ bang = eqb-true b bang h.0 in rw first (ap (λ (t : List ℕ). bang ∷ t) (only_bangs bs h.1))

-- whether blanks were cut off
pub some_blank : (blanks : List ℕ) → not (eqb (length blanks) 0) ≡ is_some_blank blanks
some_blank [] = refl
some_blank (b ∷ bs) = let some : eqb (length (b ∷ bs)) 0 ≡ false = grind (arith, nat_tests) in rw some refl

-- a list with a first element, as a slice pattern names its parts
pub first_is : (s : List ℕ) → 1 ≤ length s → s ≡ get_or s 0 0 ∷ take (length s - 1) (drop 1 s)
first_is [] h = absurd (omega arith)
first_is (x ∷ xs) h =
    let back : length (x ∷ xs) - 1 ≡ length xs = omega arith in
    rw back (ap (λ (t : List ℕ). x ∷ t) (sym (take_all (length xs) xs (omega arith))))

pub mark_is_first : (s : List ℕ) (m : ℕ) → 1 ≤ length s → m ≡ get_or s 0 0 → s ≡ m ∷ take (length s - 1) (drop 1 s)
mark_is_first s m some e = first_is s some ∙ ap (λ (b : ℕ). b ∷ take (length s - 1) (drop 1 s)) (sym e)

-- ---- the end, and words

-- nothing but blanks
pub lex_end : (bytes blanks s : List ℕ) → IsCut is_blank bytes blanks s → s ≡ [] → IsLast bytes
lex_end bytes blanks s c e = record {
  empty = subst (Each is_blank) (sym (append-nil blanks) ∙ ap (λ (r : List ℕ). blanks ++ r) (sym e) ∙ sym c.whole) c.each;
  only = end_only bytes blanks s c e;
}

-- a word behind the blanks and the `!`
pub lex_word : (bytes blanks s bs behind w rest : List ℕ) → IsCut is_blank bytes blanks s → IsCut is_bang s bs behind
    → IsWordCut behind w rest → 0 < length w → (gap : Bool) → gap ≡ is_some_blank blanks → IsFirstToken bytes (word gap (length bs) w) rest
lex_word bytes blanks s bs behind w rest c d f some gap g = lex_word_at bytes blanks s c gap (length bs) w rest g (record {
  whole = d.whole ∙ ap (λ (t : List ℕ). t ++ behind) (only_bangs bs d.each)
      ∙ ap (λ (t : List ℕ). bangs (length bs) ++ t) f.whole ∙ sym (append_assoc (bangs (length bs)) w rest);
  is = (some, f.text, f.stops);
})

-- ---- no token

-- no word comes after the `!`
behind_none : (s bs behind : List ℕ) → IsCut is_bang s bs behind → goes_on behind ≡ false
    → (n : ℕ) (w rest : List ℕ) → 0 < length w → is_word_text w ≡ true → s ≡ (bangs n ++ w) ++ rest → ⊥
behind_none s bs behind d stop n [] rest some h e = omega arith
behind_none s bs behind d stop n (x ∷ w) rest some h e =
    let t = one_cut is_bang bs behind (bangs n) ((x ∷ w) ++ rest) d.each d.stops (each_bang n)
    (stops_bangs (x ∷ w) rest some h) (sym d.whole ∙ e ∙ append_assoc (bangs n) (x ∷ w) rest) in
    false≢true (sym stop ∙ ap goes_on t.1 ∙ text_goes_on x w rest h)

-- neither a blank, a mark nor a word with the `!` before it
pub lex_none : (bytes blanks s bs behind : List ℕ) → IsCut is_blank bytes blanks s → (x : ℕ) (xs : List ℕ)
    → s ≡ x ∷ xs → is_mark x ≡ false → IsCut is_bang s bs behind → goes_on behind ≡ false → NoLexing bytes
lex_none bytes blanks s bs behind c x xs e m d stop [] h = let t = only_blanks bytes blanks s c h in absurd cc
lex_none bytes blanks s bs behind c x xs e m d stop (word a n w ∷ ts) h =
    behind_none s bs behind d stop n w h.1 h.4.0 h.4.1 (after bytes blanks s c (word a n w) ts h).0
lex_none bytes blanks s bs behind c x xs e m d stop (mark a k ∷ ts) h =
    let t = sym e ∙ (after bytes blanks s c (mark a k) ts h).0 in
    let same : x ≡ k = cc in
    absurd (false≢true (sym m ∙ ap is_mark same ∙ h.4))

-- if the word cut off is empty, the bytes do not go on with one
pub no_word : (s w rest : List ℕ) → IsWordCut s w rest → length w ≡ 0 → goes_on s ≡ false
no_word s [] rest c e = ap goes_on c.whole ∙ c.stops
no_word s (y ∷ w) rest c e = absurd (omega arith)

-- ---- all tokens

-- The readings of the line are those of the rest, with these tokens before them.
pub record Leads (line : List ℕ) (out : List Tok) (rest : List ℕ) : Type 0 where
  pub adds : (ts : List Tok) → Lexes rest ts → Lexes line (out ++ ts)
  pub only : (ts : List Tok) → Lexes line ts → (more : List Tok) × (ts ≡ out ++ more) × Lexes rest more

pub leads_more : (line : List ℕ) (out : List Tok) (bytes : List ℕ) (t : Tok) (rest : List ℕ)
    → Leads line out bytes → IsFirstToken bytes t rest → Leads line (out ++ t ∷ []) rest
leads_more line out bytes t rest l f = record {
  adds = λ ts h. rw append_assoc (l.adds (t ∷ ts) (f.adds ts h));
  only = λ ts h. let a = l.only ts h in
      let b = f.only a.0 a.2 in
      (b.0, a.1 ∙ ap (λ (more : List Tok). out ++ more) b.1 ∙ sym (append_assoc out (t ∷ []) b.0), b.2);
}

pub leads_only : (line : List ℕ) (out : List Tok) (rest : List ℕ) → Leads line out rest → IsLast rest → (ts : List Tok) → Lexes line ts → out ≡ ts
leads_only line out rest l e ts h = let a = l.only ts h in sym (a.1 ∙ ap (λ (more : List Tok). out ++ more) (e.only a.0 a.2) ∙ append-nil out)

pub leads_end : (line : List ℕ) (out : List Tok) (rest : List ℕ) → Leads line out rest → IsLast rest → Lexes line out
leads_end line out rest l e = subst (Lexes line) (append-nil out) (l.adds [] e.empty)

-- The tokens of the code at the front of a slice, as the grammar sees them.
use Rattle.std.proofs.Common.{get_or, ◌-◌, take, drop, take_all, ◌≡◌, ◌≤◌, ℕ, Bool, List, [], ◌∷◌, length, sym, ap, ◌∙◌, arith}
use Rattle.sudo_syntax.specs.declared.token.Token.{Token}
use Rattle.sudo_policy.specs.Lex.{Tok, word}
use Rattle.sudo_syntax.specs.private.Tokens.{tok, toks}

pub one_token : (ts : List Token) (d : Token) (t : Tok) → 1 ≤ length ts → tok (get_or ts 0 d) ≡ t → toks ts ≡ t ∷ toks (take (length ts - 1) (drop 1 ts))
one_token [] d t some first = absurd (omega arith)
one_token (x ∷ xs) d t some first =
    let back : length (x ∷ xs) - 1 ≡ length xs = omega arith in
    rw back (ap (λ (u : Tok). u ∷ toks xs) first ∙ ap (λ (us : List Token). t ∷ toks us) (sym (take_all (length xs) xs (omega arith))))

pub two_tokens : (ts : List Token) (d : Token) (t u : Tok) → 2 ≤ length ts → tok (get_or ts 0 d) ≡ t → tok (get_or ts 1 d) ≡ u
    → toks ts ≡ t ∷ u ∷ toks (take (length ts - 2) (drop 2 ts))
two_tokens [] d t u some first second = absurd (omega arith)
two_tokens (x ∷ xs) d t u some first second =
    let back : length (x ∷ xs) - 2 ≡ length xs - 1 = omega arith in
    rw back (ap (λ (v : Tok). v ∷ toks xs) first ∙ ap (λ (vs : List Tok). t ∷ vs) (one_token xs d u (omega arith) second))

pub three_tokens : (ts : List Token) (d : Token) (t u v : Tok) → 3 ≤ length ts → tok (get_or ts 0 d) ≡ t → tok (get_or ts 1 d) ≡ u → tok (get_or ts 2 d) ≡ v
    → toks ts ≡ t ∷ u ∷ v ∷ toks (take (length ts - 3) (drop 3 ts))
three_tokens [] d t u v some first second third = absurd (omega arith)
three_tokens (x ∷ xs) d t u v some first second third =
    let back : length (x ∷ xs) - 3 ≡ length xs - 2 = omega arith in
    rw back (ap (λ (w : Tok). w ∷ toks xs) first ∙ ap (λ (vs : List Tok). t ∷ vs) (two_tokens xs d u v (omega arith) second third))

pub same_word : {a : Bool} {text other : List ℕ} (t : Tok) → t ≡ word a 0 text → text ≡ other → t ≡ word a 0 other
same_word {a} t e same = e ∙ ap (word a 0) same

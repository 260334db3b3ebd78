-- Without its spaces and line ends a line is its heading and its words.
use Rattle.std.proofs.Common.{◌≡◌, ℕ, suc, zero, ◌-◌, Bool, true, false, List, [], ◌∷◌, ◌++◌, cond, length, refl, ap, ◌∙◌}
use Rattle.std.specs.List.{flat_map}
use Rattle.std.specs.Prelude.{codes, nat_lt, replicate}
use Rattle.std.proofs.lemmas.List.{append-nil}
use Rattle.std.proofs.lemmas.List.Elements.{filter-append}
use Rattle.sudo_words.specs.Bytes.{spaces}
use Rattle.findings.specs.Terminal.{beside_heading, gap, headed, ink, is_ink, line, room_after, wrapped}

no_ink : (count : ℕ) → ink (replicate count 32) ≡ []
no_ink zero = refl
no_ink (suc n) = no_ink n

blank : (fits : Bool) → ink (cond fits (codes " ") (codes "\n              ")) ≡ []
blank true = refl
blank false = refl

gap_ink : (room : ℕ) (first : Bool) (word : List ℕ) → ink (gap room first word) ≡ []
gap_ink room true word = refl
gap_ink room false word = blank (nat_lt (length word) room)

wrapped_ink : (room : ℕ) (first : Bool) (words : List (List ℕ)) → ink (wrapped room first words) ≡ flat_map ink words
wrapped_ink room first [] = refl
wrapped_ink room first (word ∷ words) =
    let before : List ℕ = gap room first word in
    let after : List ℕ = wrapped (room_after room first word) false words in
    filter-append is_ink (before ++ word) after
    ∙ ap (λ (t : List ℕ). t ++ ink after) (filter-append is_ink before word ∙ ap (λ (t : List ℕ). t ++ ink word) (gap_ink room first word))
    ∙ ap (λ (t : List ℕ). ink word ++ t) (wrapped_ink (room_after room first word) false words)

headed_ink : (heading : List ℕ) → ink (headed heading) ≡ ink heading
headed_ink heading =
    filter-append is_ink (codes "  " ++ heading) (spaces (10 - length heading))
    ∙ ap (λ (t : List ℕ). ink heading ++ t) (no_ink (10 - length heading))
    ∙ append-nil (ink heading)

pub line_ink : (heading : List ℕ) (words : List (List ℕ)) → ink (line heading words) ≡ ink heading ++ flat_map ink words
line_ink heading words =
    let beside : List ℕ = wrapped beside_heading true words in
    filter-append is_ink (headed heading ++ beside) (codes "\n")
    ∙ append-nil (ink (headed heading ++ beside))
    ∙ filter-append is_ink (headed heading) beside
    ∙ ap (λ (t : List ℕ). t ++ ink beside) (headed_ink heading)
    ∙ ap (λ (t : List ℕ). ink heading ++ t) (wrapped_ink beside_heading true words)

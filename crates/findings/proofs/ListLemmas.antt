-- Filters and tests of lists, and the verdicts on a request.
use Rattle.std.proofs.Common.{◌≡◌, ℕ, ◌+◌, ◌<◌, Bool, true, false, ◌||◌, cond, List, [], ◌∷◌, ◌++◌, map, length, get_or, take, refl, sym, ap, ◌∙◌}
use Rattle.std.specs.List.{list_any}
use Rattle.std.specs.Prelude.{filter}
use Rattle.std.proofs.lemmas.Bool.{and_parts}
use Rattle.std.proofs.lemmas.Bool.Decides.{Decides-eqb}
use Rattle.std.proofs.lemmas.List.{append-nil, map-append, take_more}
use Rattle.std.proofs.lemmas.List.Elements.{filter-append}
use Rattle.std.proofs.lemmas.Slice.Eq.{bytes_eq-Decides}
use Rattle.messages.specs.Fields.{RequestFields, VerdictFields}
use Rattle.messages.specs.Names.{IsAbout}
use Rattle.messages.specs.declared.message.Message.{Message}
use Rattle.messages.specs.declared.message.Message.TheVariants.{Request, Verdict}
use Rattle.findings.specs.Judging.{is_verdict_on, messages_on}

-- ---- tests

pub filter_alike : {X : Type 0} (p q : X → Bool) (xs : List X) → ((x : X) → p x ≡ q x) → filter p xs ≡ filter q xs
filter_alike p q [] same = refl
filter_alike {X} p q (x ∷ xs) same =
    ap (λ (b : Bool). cond b (x ∷ filter p xs) (filter p xs)) (same x)
    ∙ ap (λ (ys : List X). cond (q x) (x ∷ ys) ys) (filter_alike p q xs same)

pub filter_whole : {X : Type 0} (p : X → Bool) (xs : List X) → ((x : X) → p x ≡ true) → filter p xs ≡ xs
filter_whole p [] all = refl
filter_whole {X} p (x ∷ xs) all =
    ap (λ (b : Bool). cond b (x ∷ filter p xs) (filter p xs)) (all x) ∙ ap (λ (ys : List X). x ∷ ys) (filter_whole p xs all)

pub map_twice : {X Y Z : Type 0} (f : X → Y) (g : Y → Z) (xs : List X) → map (λ x. g (f x)) xs ≡ map g (map f xs)
map_twice f g [] = refl
map_twice {Z = Z} f g (x ∷ xs) = ap (λ (zs : List Z). g (f x) ∷ zs) (map_twice f g xs)

pub any_mapped : {X Y : Type 0} (f : X → Y) (test : Y → Bool) (xs : List X) → list_any (λ x. test (f x)) xs ≡ list_any test (map f xs)
any_mapped f test [] = refl
any_mapped f test (x ∷ xs) = ap (λ (b : Bool). test (f x) || b) (any_mapped f test xs)

-- one more element
pub take_next : {X : Type 0} (xs : List X) (k : ℕ) (x : X) → k < length xs → x ≡ get_or xs k x → take (k + 1) xs ≡ take k xs ++ x ∷ []
take_next xs k x below is = take_more xs k x below ∙ ap (λ y. take k xs ++ y ∷ []) (sym is)

-- ---- a request's verdicts

pub is_about_it : (q : RequestFields) (v : VerdictFields) → is_verdict_on q v ≡ true → IsAbout q v
is_about_it q v e =
    let p = and_parts _ _ e in
    ((bytes_eq-Decides v.of q.by).0 p.0, (Decides-eqb v.no q.no).0 p.1)

one_more : (q : RequestFields) (vs : List VerdictFields) (v : VerdictFields) (b : Bool) → is_verdict_on q v ≡ b
    → messages_on q (vs ++ v ∷ []) ≡ messages_on q vs ++ map Verdict (cond b (v ∷ []) [])
one_more q vs v b e =
    ap (λ (xs : List VerdictFields). Request q ∷ map Verdict xs) (filter-append (is_verdict_on q) vs (v ∷ []))
    ∙ ap (λ (ms : List Message). Request q ∷ ms) (map-append Verdict (filter (is_verdict_on q) vs) (filter (is_verdict_on q) (v ∷ [])))
    ∙ ap (λ (c : Bool). messages_on q vs ++ map Verdict (cond c (v ∷ []) [])) e

pub one_about : (q : RequestFields) (vs : List VerdictFields) (v : VerdictFields) → is_verdict_on q v ≡ true
    → messages_on q (vs ++ v ∷ []) ≡ messages_on q vs ++ Verdict v ∷ []
one_about q vs v e = one_more q vs v true e

pub none_about : (q : RequestFields) (vs : List VerdictFields) (v : VerdictFields) → is_verdict_on q v ≡ false → messages_on q (vs ++ v ∷ []) ≡ messages_on q vs
none_about q vs v e = one_more q vs v false e ∙ append-nil (messages_on q vs)

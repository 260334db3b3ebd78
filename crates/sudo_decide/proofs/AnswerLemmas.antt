-- The last answer that a list gives, as the list grows at its end.
use Rattle.std.proofs.Common.{◌≡◌, ℕ, ◌+◌, ◌<◌, Bool, true, false, not, Option, Some, None, List, [], ◌∷◌, ◌++◌, length, take, get_or, map, refl, sym, ap, ◌∙◌}
use Rattle.std.proofs.lemmas.List.{map_push, take_more}
use Rattle.std.specs.Option.{option_map, option_or}
use Rattle.sudo_policy.specs.declared.entry.Signed.{Signed}
use Rattle.sudo_decide.specs.Decision.{last_given, signed_answer, list_answer}

pub option_or-None : {X : Type 0} (o : Option X) → option_or o None ≡ o
option_or-None None = refl
option_or-None (Some x) = refl

option_or_assoc : {X : Type 0} (a b c : Option X) → option_or (option_or a b) c ≡ option_or a (option_or b c)
option_or_assoc None b c = refl
option_or_assoc (Some x) b c = refl

-- what is given later counts
pub last_given-append : {X : Type 0} (xs ys : List (Option X)) → last_given (xs ++ ys) ≡ option_or (last_given ys) (last_given xs)
last_given-append [] ys = sym (option_or-None (last_given ys))
last_given-append {X} (x ∷ xs) ys =
    ap (λ (o : Option X). option_or o x) (last_given-append xs ys) ∙ option_or_assoc (last_given ys) (last_given xs) x

-- one more item answers for the list, unless it is silent
pub list_answer-push : {X : Type 0} (item_says : X → Option Bool) (list : List (Signed X)) (x : Signed X)
    → list_answer item_says (list ++ x ∷ []) ≡ option_or (signed_answer x.negated (item_says x.item)) (list_answer item_says list)
list_answer-push item_says list x =
    ap last_given (map_push (λ s. signed_answer s.negated (item_says s.item)) list x)
    ∙ last_given-append (map (λ s. signed_answer s.negated (item_says s.item)) list) (signed_answer x.negated (item_says x.item) ∷ [])

-- one more element of a list that is walked
pub take_one_more : {X : Type 0} (xs : List X) (i : ℕ) (x : X) → i < length xs → x ≡ get_or xs i x → take (i + 1) xs ≡ take i xs ++ x ∷ []
take_one_more {X} xs i x within is = take_more xs i x within ∙ ap (λ (y : X). take i xs ++ y ∷ []) (sym is)

pub list_answer-take_more : {X : Type 0} (item_says : X → Option Bool) (list : List (Signed X)) (i : ℕ) (x : Signed X)
    → i < length list → x ≡ get_or list i x
    → list_answer item_says (take (i + 1) list) ≡ option_or (signed_answer x.negated (item_says x.item)) (list_answer item_says (take i list))
list_answer-take_more item_says list i x within is =
    ap (list_answer item_says) (take_one_more list i x within is) ∙ list_answer-push item_says (take i list) x

pub signed_answer_silent : (negated : Bool) (answer : Option Bool) → answer ≡ None → signed_answer negated answer ≡ None
signed_answer_silent true answer quiet = ap (option_map not) quiet
signed_answer_silent false answer quiet = quiet

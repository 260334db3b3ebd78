-- Names looked up among the same ones in their order.
use Rattle.std.proofs.Common.{◌≡◌, ◌<◌, ℕ, suc, Bool, false, ◌&&◌, ◌||◌, List, [], ◌∷◌, length, get_or, refl, ap₂, arith}
use Rattle.std.specs.List.{list_all, list_any}
use Rattle.std.specs.Str.{bytes_eq}
use Rattle.std.proofs.lemmas.Slice.Eq.{bytes_eq-Decides}
use Rattle.sudo_words.specs.Lists.{IsEachOnce, text_order}
use Rattle.sudo_words.proofs.Lists.{any_once}
use Rattle.sudo_words.specs.declared.cmnd.Cmnd.{Cmnd}
use Rattle.roster.specs.Fields.{RosterFields}
use Rattle.roster.specs.Rules.{are_known, is_among, is_known_ceiling, is_known_entry, is_known_pair, is_known_person, names_only}

pub absent : {X : Type 0} (test : X → Bool) (xs : List X) → ((k : ℕ) (d : X) → k < length xs → test (get_or xs k d) ≡ false) → list_any test xs ≡ false
absent test [] none = refl
absent test (x ∷ xs) none = ap₂ (λ a b. a || b) (none 0 x (omega arith)) (absent test xs (λ k d l. none (suc k) d (omega arith)))

-- ---- each once, in order

all_same : {X : Type 0} (p q : X → Bool) → ((x : X) → p x ≡ q x) → (xs : List X) → list_all p xs ≡ list_all q xs
all_same p q alike [] = refl
all_same p q alike (x ∷ xs) = ap₂ (λ a b. a && b) (alike x) (all_same p q alike xs)

among_in_order : (texts ordered : List (List ℕ)) → IsEachOnce text_order texts ordered → (text : List ℕ) → is_among ordered text ≡ is_among texts text
among_in_order texts ordered once text = any_once bytes_eq bytes_eq-Decides text_order texts ordered once text

-- what a roster names is listed, where it is among what is listed in its order
pub known_in_order : (f : RosterFields Cmnd) (duties hosts : List (List ℕ)) → IsEachOnce text_order f.duties duties → IsEachOnce text_order f.hosts hosts
    → names_only duties hosts f ≡ are_known f
unfolding are_known
known_in_order f duties hosts d h =
    let duty = among_in_order f.duties duties d in
    let host = among_in_order f.hosts hosts h in
    ap₂ (λ a b. a && b)
    (ap₂ (λ a b. a && b) (all_same (is_known_pair duties) (is_known_pair f.duties) (λ p. ap₂ (λ a b. a && b) (duty p.0) (duty p.1)) f.conflicts) (all_same
    (is_known_person duties) (is_known_person f.duties) (λ p. all_same (is_known_entry duties) (is_known_entry f.duties) (λ e. duty e.0) p.1) f.people))
    (all_same (is_known_ceiling duties hosts) (is_known_ceiling f.duties f.hosts)
    (λ c. ap₂ (λ a b. a && b) (ap₂ (λ a b. a && b) (duty c.1.ask) (duty c.1.approve)) (all_same (is_among hosts) (is_among f.hosts) host c.1.hosts)) f.ceilings)

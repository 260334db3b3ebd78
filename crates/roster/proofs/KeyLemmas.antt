-- Keys that are looked up among those that a roster, a ceiling or an entry may have.
use Rattle.std.proofs.Common.{◌≡◌, ℕ, ◌∙◌, Bool, true, false, ◌&&◌, ◌||◌, List, [], ◌∷◌, refl, sym, ap, ap₂}
use Rattle.std.specs.List.{list_all}
use Rattle.std.specs.Prelude.{codes}
use Rattle.std.specs.Str.{bytes_eq}
use Rattle.std.proofs.lemmas.Bool.Decides.{same_from_decides}
use Rattle.std.proofs.lemmas.Slice.Eq.{bytes_eq-Decides}
use Rattle.toml.specs.Data.{Data, Members, no_members, member}
use Rattle.toml.specs.View.{view, items_view}
use Rattle.toml.specs.declared.value.Value.{Value}
use Rattle.roster.specs.Document.{each_key, each_one, is_ceiling_key, is_entry_key, is_roster_key}

pub each_key_same : (p q : List ℕ → Bool) → ((k : List ℕ) → p k ≡ q k) → (ms : Members) → each_key p ms ≡ each_key q ms
each_key_same p q alike no_members = refl
each_key_same p q alike (member k d ms) = ap₂ (λ a b. a && b) (alike k) (each_key_same p q alike ms)

turned : (a b : List ℕ) → bytes_eq a b ≡ bytes_eq b a
turned a b =
    let back = bytes_eq-Decides b a in
    same_from_decides (bytes_eq a b) (bytes_eq b a) (bytes_eq-Decides a b) (λ e. sym (back.0 e), λ e. back.1 (sym e))

one_of_three : (a b c : Bool) → (a || (b || (c || false))) ≡ (a || b || c)
one_of_three true b c = refl
one_of_three false true c = refl
one_of_three false false true = refl
one_of_three false false false = refl

one_of_six : (a b c d e f : Bool) → (a || (b || (c || (d || (e || (f || false)))))) ≡ (a || b || c || d || e || f)
one_of_six true b c d e f = refl
one_of_six false true c d e f = refl
one_of_six false false true d e f = refl
one_of_six false false false true e f = refl
one_of_six false false false false true f = refl
one_of_six false false false false false true = refl
one_of_six false false false false false false = refl

one_of_seven : (a b c d e f g : Bool) → (a || (b || (c || (d || (e || (f || (g || false))))))) ≡ (a || b || c || d || e || f || g)
one_of_seven true b c d e f g = refl
one_of_seven false b c d e f g = one_of_six b c d e f g

pub roster_keys : (k : List ℕ) → (bytes_eq (codes "relays") k || (bytes_eq (codes "hosts") k || (bytes_eq (codes "duties") k
    || (bytes_eq (codes "conflicts") k || (bytes_eq (codes "people") k || (bytes_eq (codes "ceilings") k || false)))))) ≡ is_roster_key k
roster_keys k = one_of_six (bytes_eq (codes "relays") k) (bytes_eq (codes "hosts") k) (bytes_eq (codes "duties") k) (bytes_eq (codes "conflicts") k)
    (bytes_eq (codes "people") k) (bytes_eq (codes "ceilings") k) ∙ (λ i. turned (codes "relays") k i || turned (codes "hosts") k i
    || turned (codes "duties") k i || turned (codes "conflicts") k i || turned (codes "people") k i || turned (codes "ceilings") k i)

pub ceiling_keys : (k : List ℕ) → (bytes_eq (codes "ask") k || (bytes_eq (codes "approve") k || (bytes_eq (codes "needs") k || (bytes_eq (codes "hosts") k
    || (bytes_eq (codes "runas") k || (bytes_eq (codes "commands") k || (bytes_eq (codes "longest") k || false))))))) ≡ is_ceiling_key k
ceiling_keys k = one_of_seven (bytes_eq (codes "ask") k) (bytes_eq (codes "approve") k) (bytes_eq (codes "needs") k) (bytes_eq (codes "hosts") k)
    (bytes_eq (codes "runas") k) (bytes_eq (codes "commands") k) (bytes_eq (codes "longest") k) ∙ (λ i. turned (codes "ask") k i || turned (codes "approve") k i
    || turned (codes "needs") k i || turned (codes "hosts") k i || turned (codes "runas") k i || turned (codes "commands") k i || turned (codes "longest") k i)

pub entry_keys : (k : List ℕ) → (bytes_eq (codes "duty") k || (bytes_eq (codes "from") k || (bytes_eq (codes "until") k || false))) ≡ is_entry_key k
entry_keys k = one_of_three (bytes_eq (codes "duty") k) (bytes_eq (codes "from") k) (bytes_eq (codes "until") k)
    ∙ (λ i. turned (codes "duty") k i || turned (codes "from") k i || turned (codes "until") k i)

-- each item of a list's data passes where each value passes
pub each_one_all : (test : Data → Bool) (vs : List Value) → list_all (λ v. test (view v)) vs ≡ each_one test (items_view vs)
each_one_all test [] = refl
each_one_all test (v ∷ vs) = ap (λ b. test (view v) && b) (each_one_all test vs)

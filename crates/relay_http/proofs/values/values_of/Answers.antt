use Rattle.std.proofs.Common.{◌≡◌, ℕ, List, [], ◌∷◌, refl, sym, map, subst}
use Rattle.httparse.specs.Spans.{header_bytes}
use Rattle.relay_http.specs.declared.values.Values.{Values}
use Rattle.relay_http.specs.declared.values.Values.TheVariants.{Nothing, One, Many}
use Rattle.relay_http.specs.Fields.{values}
use Rattle.relay_http.specs.Seen.{AreValues, Seen, nothing, one, many, seen_of, and_all}
use Rattle.relay_http.proofs.values.values_of.Goals as goal

many_stay : (vs : List (List ℕ)) → and_all many vs ≡ many
many_stay [] = refl
many_stay (v ∷ vs) = many_stay vs

-- what the seen values say of the list
abbrev Says : Seen → List (List ℕ) → Type 0
Says nothing vs = vs ≡ []
Says (one v) vs = vs ≡ v ∷ []
Says many vs = (a b : List ℕ) × (more : List (List ℕ)) × (vs ≡ a ∷ b ∷ more)

says : (vs : List (List ℕ)) → Says (and_all nothing vs) vs
says [] = refl
says (a ∷ []) = refl
says (a ∷ b ∷ more) = subst (λ (s : Seen). Says s (a ∷ b ∷ more)) (sym (many_stay more)) (a, b, more, refl)

are : (r : Values) (vs : List (List ℕ)) → Says (seen_of r) vs → AreValues r vs
are Nothing vs h = h
are (One v) vs h = h
are Many vs h = h

pub returns : goal.returns
returns c =
    let vs = values c.args.name.now (map (header_bytes c.args.buf.now) c.args.headers.now) in
    are c.count.result vs (subst (λ (s : Seen). Says s vs) (sym c.count.ensures) (says vs))

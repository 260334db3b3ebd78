-- A list is cut in one way where a test first fails.
use Rattle.std.proofs.Common.{◌≡◌, ℕ, Bool, List, [], ◌∷◌, ◌++◌, refl, sym, ap, ◌∙◌}
use Rattle.std.proofs.lemmas.Bool.{false≢true}
use Rattle.sudo_policy.specs.Span.{Each}
use Rattle.sudo_policy.specs.private.Cuts.{Stops}

pub one_cut : (p : ℕ → Bool) (a r b s : List ℕ) → Each p a → Stops p r → Each p b → Stops p s → a ++ r ≡ b ++ s → (a ≡ b) × (r ≡ s)
one_cut p [] r [] s each_a stop_r each_b stop_s e = (refl, e)
one_cut p [] [] (y ∷ b) s each_a stop_r each_b stop_s e = absurd cc
one_cut p [] (x ∷ r) (y ∷ b) s each_a stop_r each_b stop_s e = let same : x ≡ y = cc in absurd (false≢true (sym stop_r ∙ ap p same ∙ each_b.0))
one_cut p (x ∷ a) r [] [] each_a stop_r each_b stop_s e = absurd cc
one_cut p (x ∷ a) r [] (y ∷ s) each_a stop_r each_b stop_s e = let same : x ≡ y = cc in absurd (false≢true (sym stop_s ∙ ap p (sym same) ∙ each_a.0))
one_cut p (x ∷ a) r (y ∷ b) s each_a stop_r each_b stop_s e =
    let same : x ≡ y = cc in
    let rest : a ++ r ≡ b ++ s = cc in
    let t = one_cut p a r b s each_a.1 stop_r each_b.1 stop_s rest in
    (cc, t.1)

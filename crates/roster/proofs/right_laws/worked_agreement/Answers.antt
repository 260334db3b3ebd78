use Rattle.std.proofs.Common.{◌≡◌, ℕ, ◌≤◌, [], ◌∷◌, true, false, refl, arith}
use Rattle.std.specs.Prelude.{codes}
use Rattle.std.proofs.lemmas.Bool.{false≢true, le-leb}
use Rattle.roster.specs.Relations.{hold}
use Rattle.roster.specs.Worked.{longer_office, office}
use Rattle.roster.specs.declared.days.Days.TheVariants.{Always, Between}
use Rattle.roster.proofs.RightLemmas.{changed_agree}
use Rattle.roster.proofs.right_laws.worked_agreement.Goals as goal

-- up to 5 January both have the same days
same_until : (day : ℕ) → day ≤ 4 → hold (Between 3 4) day ≡ hold (Between 3 6) day
same_until day early = rw (le-leb day 4 early, le-leb day 6 (omega (arith, early))) refl

pub returns-clause-until : goal.returns-clause-until
returns-clause-until c =
    changed_agree office longer_office 431_999 (codes "eve") (codes "approve") (Between 3 4) (Between 3 6)
    ((codes "ann", (codes "approve", Always) ∷ (codes "operate", Always) ∷ []) ∷ (codes "bob", (codes "approve", Always) ∷ [])
    ∷ (codes "carol", (codes "approve", Always) ∷ (codes "audit", Always) ∷ []) ∷ [])
    ((codes "fay", (codes "approve", Always) ∷ (codes "audit", Between 0 3) ∷ []) ∷ []) [] [] refl refl refl refl same_until

pub returns-clause-no_longer : goal.returns-clause-no_longer
returns-clause-no_longer c agree =
    let same : false ≡ true = agree.duties (codes "eve") (codes "approve") 432_000 (omega arith) in
    false≢true same

-- Inclusion both ways.
use Rattle.std.proofs.Common.{◌≡◌, true, false, refl, inl, inr, ◌↔◌}
use Rattle.std.proofs.lemmas.Bool.{both_ways, cases_Bool}
use Rattle.sudo_words.specs.Command.{IsLawful}
use Rattle.sudo_words.specs.declared.cmnd.Cmnd.{Cmnd}
use Rattle.sudo_words.specs.declared.cmnd.Cmnd.TheVariants.{All, Path, Dir}
use Rattle.grants.specs.Reach.{LiesInside, ReachesBeyond, ReachesSomething}
use Rattle.grants.specs.private.Forms.{is_inside}
use Rattle.grants.proofs.Witnesses.{inside, all_reaches, file_reaches, beyond_file, beyond_dir, all_beyond_file, all_beyond_dir}
use Rattle.grants.proofs.DirWitnesses.{dir_reaches, dir_beyond_file, dir_beyond_dir}

pub beyond : (k c : Cmnd) → IsLawful k → IsLawful c → is_inside k c ≡ false → ReachesBeyond k c
beyond k All hk hc e = absurd (both_ways _ e refl)
beyond All (Path g s) hk hc e = all_beyond_file g s
beyond All (Dir d) hk hc e = all_beyond_dir d hc
beyond (Path f r) (Path g s) hk hc e = beyond_file f g r s hk hc e
beyond (Path f r) (Dir d) hk hc e = beyond_dir f d r hk e
beyond (Dir d) (Path g s) hk hc e = dir_beyond_file d g s hk
beyond (Dir d) (Dir f) hk hc e = dir_beyond_dir d f hk hc e

test_from : (k c : Cmnd) → IsLawful k → IsLawful c → LiesInside k c → is_inside k c ≡ true
test_from k c hk hc within =
    elim (cases_Bool (is_inside k c)) as (λ _. is_inside k c ≡ true) [
      | inl e ↦ e
      | inr e ↦
          let w = beyond k c hk hc e in
          let some = w.something in
          absurd (both_ways _ w.not_matched (within some.path some.args some.reached).matches_it)
    ]

pub exact : (k c : Cmnd) → IsLawful k → IsLawful c → (is_inside k c ≡ true) ↔ LiesInside k c
exact k c hk hc = (inside k c, test_from k c hk hc)

pub reaches : (c : Cmnd) → IsLawful c → ReachesSomething c
reaches All h = all_reaches
reaches (Path f r) h = file_reaches f r h
reaches (Dir d) h = dir_reaches d h

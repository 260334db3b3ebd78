-- What lies inside what, by the forms of two commands.
use Rattle.std.proofs.Common.{◌≡◌, ℕ, ◌↔◌, true, false, List, refl, lit≤}
use Rattle.std.specs.Str.{bytes_eq}
use Rattle.std.proofs.lemmas.Bool.{and_parts, both_ways}
use Rattle.std.proofs.lemmas.Slice.Eq.{bytes_eq-Decides}
use Rattle.sudo_words.specs.Command.{IsLawful, matches, is_directly_in}
use Rattle.sudo_words.specs.declared.cmnd.ArgRule.{ArgRule}
use Rattle.sudo_words.specs.declared.cmnd.Cmnd.{Cmnd}
use Rattle.sudo_words.specs.declared.cmnd.Cmnd.TheVariants.{All, Path, Dir}
use Rattle.grants.specs.private.Forms.{is_inside, rule_inside}
use Rattle.grants.specs.Reach.{LiesInside, Reaches}
use Rattle.grants.proofs.Inclusion.{exact}
use Rattle.grants.proofs.Witnesses.{inside}

-- ALL is a lawful command
lawful_all : IsLawful All
lawful_all = record { head = tt; args = tt; short = lit≤ tt }

-- what lies inside passes the test
tested : (k c : Cmnd) → IsLawful k → IsLawful c → LiesInside k c → is_inside k c ≡ true
tested k c hk hc h = (exact k c hk hc).1 h

pub everything : (k : Cmnd) → LiesInside k All
everything k = inside k All refl

pub only_all : (c : Cmnd) → IsLawful c → LiesInside All c → c ≡ All
only_all All hc h = refl
only_all (Path f r) hc h = absurd (both_ways false refl (tested All (Path f r) lawful_all hc h))
only_all (Dir d) hc h = absurd (both_ways false refl (tested All (Dir d) lawful_all hc h))

pub directories : (d e : List ℕ) → IsLawful (Dir d) → IsLawful (Dir e) → LiesInside (Dir d) (Dir e) → d ≡ e
directories d e hd he h = (bytes_eq-Decides d e).0 (tested (Dir d) (Dir e) hd he h)

pub not_in_file : (d f : List ℕ) (r : ArgRule) → IsLawful (Dir d) → IsLawful (Path f r) → ¬ LiesInside (Dir d) (Path f r)
not_in_file d f r hd hf h = both_ways false refl (tested (Dir d) (Path f r) hd hf h)

pub file : (f d : List ℕ) (r : ArgRule) → IsLawful (Path f r) → IsLawful (Dir d) → LiesInside (Path f r) (Dir d) ↔ (is_directly_in d f ≡ true)
file f d r hf hd = ((exact (Path f r) (Dir d) hf hd).1, (exact (Path f r) (Dir d) hf hd).0)

pub same_file : (f g : List ℕ) (r s : ArgRule) → IsLawful (Path f r) → IsLawful (Path g s) → LiesInside (Path f r) (Path g s) → f ≡ g
same_file f g r s hf hg h = (bytes_eq-Decides f g).0 (and_parts (bytes_eq f g) (rule_inside r s) (tested (Path f r) (Path g s) hf hg h)).0

-- what the one reaches and the other does not match shows that it lies outside
pub outside : (k c : Cmnd) (path : List ℕ) (args : List (List ℕ)) → Reaches k path args → matches c path args ≡ false → ¬ LiesInside k c
outside k c path args reached not_matched h = both_ways (matches c path args) not_matched (h path args reached).matches_it

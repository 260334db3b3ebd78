use Rattle.std.proofs.Common.{refl, lit≤}
use Rattle.sudo_words.proofs.laws.worked_paths.Goals as goal

pub returns : goal.returns
returns c = record {
  in_directory = refl;
  in_root = refl;
  longer = refl;
  ends_so = refl;
  below = refl;
  directory = record { head = (refl, lit≤ tt); args = tt; short = lit≤ tt };
}

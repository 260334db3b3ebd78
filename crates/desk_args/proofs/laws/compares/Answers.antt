use Rattle.std.proofs.Common.{refl}
use Rattle.clap.proofs.OnLiterals.{clap_on_literals}
use Rattle.sudo_words.specs.Word.{is_keyword}
use Rattle.desk_args.proofs.laws.compares.Goals as goal

pub returns : goal.returns
unfolding clap_on_literals is_keyword
returns c = record {
  faultless = refl;
  says = (refl, refl, refl, record { user = refl; host = (refl, refl); runas = refl });
}

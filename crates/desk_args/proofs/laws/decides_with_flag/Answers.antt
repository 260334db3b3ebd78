use Rattle.std.proofs.Common.{lit≤, refl}
use Rattle.clap.proofs.OnLiterals.{clap_on_literals}
use Rattle.sudo_words.specs.Word.{is_keyword}
use Rattle.desk_args.proofs.Stamps.{stamped_at_half_past_nine}
use Rattle.desk_args.proofs.laws.decides_with_flag.Goals as goal

pub returns : goal.returns
unfolding clap_on_literals is_keyword
returns c = record {
  faultless = refl;
  says = (
    refl,
    refl,
    record {
      user = (refl, refl);
      host = (refl, refl);
      runas = (refl, refl);
      at = (_, refl, stamped_at_half_past_nine);
      path = (refl, refl);
      args = (refl, refl, lit≤ tt);
    },
  );
}

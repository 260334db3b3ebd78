use Rattle.std.proofs.Common.{inl, refl}
use Rattle.clap.proofs.OnLiterals.{clap_on_literals}
use Rattle.desk_args.proofs.laws.serves_at_socket.Goals as goal

pub returns : goal.returns
unfolding clap_on_literals
returns c = record {
  faultless = refl;
  says = (
    refl,
    record { roster = refl; base = refl; store = (_, refl, (refl, λ same. cc)); sync = inl refl },
    (_, refl, (refl, refl)),
    refl,
    refl,
  );
}

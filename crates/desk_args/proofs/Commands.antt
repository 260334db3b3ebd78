-- What clap's rules say about the program's commands, for any words.
use Rattle.std.proofs.Common.{◌≡◌, true, refl}
use Rattle.clap.specs.Words.{is_simple, is_simple_and_free}
use Rattle.clap.proofs.OnLiterals.{clap_on_literals}
use Rattle.desk_args.specs.CommandLine.{desk_app}

pub desk_simple : is_simple desk_app ≡ true
unfolding clap_on_literals
desk_simple = refl

pub desk_free : is_simple_and_free desk_app ≡ true
unfolding clap_on_literals
desk_free = refl

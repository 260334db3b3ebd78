-- What the getters of matches read, as rows.
use Rattle.std.proofs.Common.{◌≡◌, List, [], ap, ◌∙◌, sym, Option, Some, None, option_map, refl, unwrap_or, Box, Global}
use Rattle.std.specs.Box.{box_value}
use Rattle.clap.specs.Words.{Row, Text, first_of, rows_of, first_value, found_of, matched_of, raw_values, subcommand_name_of, subcommand_rows_of}
use Rattle.clap.specs.declared.parser.matches.ArgMatches.TheViews.{out-ArgMatches, out-SubCommand}
use Rattle.clap.specs.declared.parser.matches.SubCommand.{SubCommand}
use Rattle.clap.specs.declared.ArgMatches.{ArgMatches}
use Rattle.clap.proofs.WalkLemmas.{first_value-rows, raw_values-rows}
use Rattle.desk_args.specs.CommandLine.{given_values}

pub first_rows : (m : ArgMatches) (id : Text) → first_of id (rows_of (found_of m)) ≡ first_value (found_of m) id
first_rows m id = sym (first_value-rows (found_of m) id)

pub some_values : (m : ArgMatches) (id : Text) (texts : List Text) → Some texts ≡ option_map raw_values (matched_of (found_of m) id)
    → texts ≡ given_values id (rows_of (found_of m))
some_values m id texts e = ap (λ (o : Option (List Text)). unwrap_or o []) (e ∙ raw_values-rows (found_of m) id)

pub no_values : (m : ArgMatches) (id : Text) → None ≡ option_map raw_values (matched_of (found_of m) id) → [] ≡ given_values id (rows_of (found_of m))
no_values m id e = ap (λ (o : Option (List Text)). unwrap_or o []) (e ∙ raw_values-rows (found_of m) id)

joined : {X : Type 0} (line : X → Text × List Row) (o : Option X) (name : Text) (rows : List Row) → Some name ≡ option_map (λ x. (line x).0) o
    → Some rows ≡ option_map (λ p. p.1) (option_map line o) → option_map line o ≡ Some (name, rows)
joined line None name rows n r = absurd cc
joined line (Some x) name rows n r =
    let same_name : name ≡ (line x).0 = cc in
    let same_rows : rows ≡ (line x).1 = cc in
    rw (same_name, same_rows) refl

-- the subcommand, from its name and its rows
pub named_rows : (m : ArgMatches) (name : Text) (rows : List Row) → Some name ≡ subcommand_name_of m
    → Some rows ≡ option_map (λ line. line.1) (subcommand_rows_of m) → subcommand_rows_of m ≡ Some (name, rows)
named_rows m name rows n r =
    joined (λ (b : Box SubCommand Global). ((out-SubCommand (box_value b)).name.now, rows_of (found_of (out-SubCommand (box_value b)).matches)))
    (out-ArgMatches m).subcommand name rows n r

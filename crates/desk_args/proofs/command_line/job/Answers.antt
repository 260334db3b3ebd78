use Rattle.std.proofs.Common.{map, subst, sym}
use Rattle.std.specs.Prelude.{string_bytes}
use Rattle.desk_args.specs.CommandLine.{HasAllValues}
use Rattle.desk_args.proofs.Complete.{complete}
use Rattle.desk_args.proofs.command_line.job.Goals as goal

pub named-requires : goal.named-requires
named-requires c = subst HasAllValues (sym c.in_ok-matches.ensures.matches) (complete (map string_bytes c.deref.result.now) c.in_ok-matches.ensures.faultless)

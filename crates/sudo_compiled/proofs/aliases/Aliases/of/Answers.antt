use Rattle.std.proofs.Common.{reverse}
use Rattle.sudo_compiled.proofs.Covering.{covers_all}
use Rattle.sudo_compiled.proofs.WrittenLists.{if_ok}
use Rattle.sudo_compiled.proofs.aliases.Aliases.of.Goals as goal

pub returns : goal.returns
returns c =
    let entries = c.args.entries.now in
    if_ok c.entered.result (λ known are. covers_all c.in_ok-used.used (reverse entries) known are entries c.in_ok-used.ensures) c.entered.ensures

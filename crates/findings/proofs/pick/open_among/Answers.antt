use Rattle.std.proofs.Common.{rules}
use Rattle.std.proofs.lemmas.Fn.{filter_same}
use Rattle.findings.specs.Picks.{is_open}
use Rattle.findings.proofs.pick.open_among.Goals as goal

pub returns : goal.returns
returns c = filter_same _ (is_open c.args.at) _ (λ x b f' h. search rules) _ _ c.retain.ensures.filtered

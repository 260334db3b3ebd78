use Rattle.std.proofs.Common.{rules}
use Rattle.std.proofs.lemmas.Fn.{filter_same}
use Rattle.desk_audit.specs.Documents.{is_named}
use Rattle.desk_audit.proofs.one_name.named_among.Goals as goal

pub returns : goal.returns
returns c = filter_same _ (is_named c.args.asker.now c.args.no) _ (λ x b f' h. search rules) _ _ c.retain.ensures.filtered

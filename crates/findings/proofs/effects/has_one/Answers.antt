use Rattle.std.proofs.Common.{◌∙◌}
use Rattle.std.specs.Str.{bytes_eq}
use Rattle.messages.specs.Fields.{VerdictFields}
use Rattle.findings.proofs.ListLemmas.{any_mapped}
use Rattle.findings.proofs.effects.has_one.Goals as goal

pub returns : goal.returns
returns c = c.is_of_one.ensures ∙ any_mapped (λ v. v.now) (λ (v : VerdictFields). bytes_eq v.by c.args.person.now) c.args.verdicts.now

use Rattle.std.proofs.Common.{List, map, ap, ◌∙◌}
use Rattle.messages.specs.Fields.{VerdictFields}
use Rattle.findings.specs.Effects.{is_of_one}
use Rattle.findings.proofs.judged.Judged.has_approved.Goals as goal

pub returns : goal.returns
returns c =
    c.has_one.ensures
    ∙ ap (λ list. is_of_one (map (λ v. v.now) list) c.args.person.now) c.as_slice.ensures.value
    ∙ ap (λ (vs : List VerdictFields). is_of_one vs c.args.person.now) c.args.self.now.approvals_are

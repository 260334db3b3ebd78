use Rattle.std.proofs.Common.{◌≡◌}
use Rattle.std.proofs.lemmas.List.Elements.{same_from_all_zip}
use Rattle.std.proofs.lemmas.Result.{MatchResult-weaker}
use Rattle.grants.specs.declared.marks.Mark.{Mark}
use Rattle.grants.proofs.marks.copied.Goals as goal

pub returns : goal.returns
returns c =
    MatchResult-weaker c.clone.result c.clone.ensures.cases
    (λ copy is. same_from_all_zip (λ (x y : Mark). y ≡ x) c.args.marks.now.keys copy.keys is (λ x y e. e)) (λ e _. tt)

use Rattle.std.specs.Prelude.{string_bytes}
use Rattle.std.proofs.lemmas.Result.{IfOk-weaker}
use Rattle.outcomes.proofs.FileLemmas.{file_after, rights_after}
use Rattle.desk.proofs.desk.Desk.host_file_after.Goals as goal

pub returns-clause-file : goal.returns-clause-file
returns-clause-file g c = λ set up lists.
    let d = c.args.self.now in
    IfOk-weaker c.file_of.result _ _ (λ s left. file_after d.roster.says d.base set c.args.host.now c.args.moment (string_bytes s) left)
    (c.file_of.ensures.file set up lists)

pub returns-clause-rights : goal.returns-clause-rights
returns-clause-rights g c = λ set up lists.
    let d = c.args.self.now in
    IfOk-weaker c.file_of.result _ _ (λ s left. rights_after d.roster.says d.base set c.args.host.now c.args.moment (string_bytes s) left)
    (c.file_of.ensures.file set up lists)

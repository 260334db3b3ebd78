use Rattle.std.proofs.Common.{◌≤◌, ◌<◌, subst, sym, ℕ}
use Rattle.std.specs.Prelude.{string_bytes}
use Rattle.std.proofs.lemmas.Result.{IfOk-weaker}
use Rattle.outcomes.proofs.FileLemmas.{whole_count, whole_file, whole_rights}
use Rattle.desk.proofs.desk.Desk.host_file.Goals as goal

pub returns-clause-file : goal.returns-clause-file
returns-clause-file g c = λ set up lists.
    let d = c.args.self.now in
    IfOk-weaker c.file_of.result _ _ (λ s left. whole_file d.roster.says d.base set c.args.host.now (string_bytes s) left) (c.file_of.ensures.file set up lists)

pub returns-clause-rights : goal.returns-clause-rights
returns-clause-rights g c = λ set up lists.
    let d = c.args.self.now in
    IfOk-weaker c.file_of.result _ _ (λ s left. whole_rights d.roster.says d.base set c.args.host.now (string_bytes s) left)
    (c.file_of.ensures.file set up lists)

pub returns-clause-few : goal.returns-clause-few
returns-clause-few g c = λ set ls up lists are few.
    c.file_of.ensures.few set ls up lists are (subst (λ (n : ℕ). n ≤ 8_192) (sym (whole_count ls)) few)

pub returns-clause-many : goal.returns-clause-many
returns-clause-many g c = λ set ls up lists are past.
    c.file_of.ensures.many set ls up lists are (subst (λ (n : ℕ). 8_192 < n) (sym (whole_count ls)) past)

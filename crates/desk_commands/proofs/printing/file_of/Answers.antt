use Rattle.std.proofs.Common.{ℕ, ◌≤◌, Option, length, subst}
use Rattle.desk_commands.specs.Printing.{lines_printed}
use Rattle.desk_commands.proofs.printing.file_of.Goals as goal

pub returns-in-Some-clause-printed : goal.returns-in-Some-clause-printed
returns-in-Some-clause-printed g c = λ set up lists. rw c.in-Some.is (c.host_file_after.ensures.file set up lists)

pub returns-in-Some-clause-rights : goal.returns-in-Some-clause-rights
returns-in-Some-clause-rights g c = λ set up lists. rw c.in-Some.is (c.host_file_after.ensures.rights set up lists)

pub returns-in-Some-clause-few : goal.returns-in-Some-clause-few
returns-in-Some-clause-few g c = λ set lines up lists are few.
    c.host_file_after.ensures.few set lines up lists are (subst (λ (after : Option ℕ). length (lines_printed after lines) ≤ 8_192) c.in-Some.is few)

pub returns-in-None-clause-printed : goal.returns-in-None-clause-printed
returns-in-None-clause-printed g c = λ set up lists. rw c.in-None.is (c.host_file.ensures.file set up lists)

pub returns-in-None-clause-rights : goal.returns-in-None-clause-rights
returns-in-None-clause-rights g c = λ set up lists. rw c.in-None.is (c.host_file.ensures.rights set up lists)

pub returns-in-None-clause-few : goal.returns-in-None-clause-few
returns-in-None-clause-few g c = λ set lines up lists are few.
    c.host_file.ensures.few set lines up lists are (subst (λ (after : Option ℕ). length (lines_printed after lines) ≤ 8_192) c.in-None.is few)

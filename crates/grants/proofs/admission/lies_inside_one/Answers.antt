use Rattle.std.proofs.Common.{◌∙◌, ap, sym}
use Rattle.std.specs.List.{list_any}
use Rattle.roster.specs.Commands.{is_dir}
use Rattle.grants.specs.private.Forms.{is_inside}
use Rattle.grants.proofs.LookUps.{all_inside_one, dir_inside_one}
use Rattle.grants.proofs.admission.lies_inside_one.Goals as goal

pub returns-in-All : goal.returns-in-All
returns-in-All c =
    let cs = c.args.ceiling.now.commands in
    sym (ap (λ k. list_any (is_inside k) cs) c.in-All.is ∙ all_inside_one cs ∙ c.requires.no_all)

pub returns-in-Dir : goal.returns-in-Dir
returns-in-Dir c =
    let cs = c.args.ceiling.now.commands in
    c.has_dir.ensures ∙ ap (λ p. list_any (is_dir p) cs) (c.as_bytes.ensures.value ∙ c.as_str.ensures.value)
    ∙ sym (ap (λ k. list_any (is_inside k) cs) c.in-Dir.is ∙ dir_inside_one _ cs c.requires.no_all)

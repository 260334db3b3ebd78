use Rattle.std.proofs.Common.{◌||◌, ◌∙◌, List, ℕ, ap, ap₂, sym, subst}
use Rattle.std.specs.List.{list_any}
use Rattle.sudo_words.specs.declared.cmnd.ArgRule.TheVariants.{Any}
use Rattle.roster.specs.Commands.{is_file}
use Rattle.grants.specs.private.Forms.{IsDirOf}
use Rattle.grants.proofs.LookUps.{file_inside_one}
use Rattle.grants.proofs.admission.holds_file.Goals as goal

pub returns-then-has_dir : goal.returns-then-has_dir
returns-then-has_dir c =
    let file = c.args.file.now in
    let rule = c.args.rule.now in
    let cs = c.args.ceiling.now.commands in
    let dir = c.dir_of-dir.result.now in
    let is : IsDirOf file dir = subst (λ (p : List ℕ). IsDirOf p dir) (c.as_bytes.ensures.value ∙ c.as_str.ensures.value) c.dir_of-dir.ensures in
    sym (file_inside_one file dir rule cs c.as_str.ensures.form is c.requires.lawful c.requires.no_all
    ∙ ap (λ b. (b || list_any (is_file file Any) cs) || list_any (is_file file rule) cs) (sym c.has_dir.ensures ∙ c.if-has_dir.true))

pub returns-then-has_file : goal.returns-then-has_file
returns-then-has_file c =
    let file = c.args.file.now in
    let rule = c.args.rule.now in
    let cs = c.args.ceiling.now.commands in
    let dir = c.dir_of-dir.result.now in
    let is : IsDirOf file dir = subst (λ (p : List ℕ). IsDirOf p dir) (c.as_bytes.ensures.value ∙ c.as_str.ensures.value) c.dir_of-dir.ensures in
    sym (file_inside_one file dir rule cs c.as_str.ensures.form is c.requires.lawful c.requires.no_all
    ∙ ap₂ (λ a b. (a || b) || list_any (is_file file rule) cs) (sym c.has_dir.ensures ∙ c.if-has_dir.false) (sym c.has_file.ensures ∙ c.if-has_file.true))

pub returns : goal.returns
returns c =
    let file = c.args.file.now in
    let rule = c.args.rule.now in
    let cs = c.args.ceiling.now.commands in
    let dir = c.dir_of-dir.result.now in
    let is : IsDirOf file dir = subst (λ (p : List ℕ). IsDirOf p dir) (c.as_bytes.ensures.value ∙ c.as_str.ensures.value) c.dir_of-dir.ensures in
    c.has_file-2.ensures ∙ sym (file_inside_one file dir rule cs c.as_str.ensures.form is c.requires.lawful c.requires.no_all
    ∙ ap₂ (λ a b. (a || b) || list_any (is_file file rule) cs) (sym c.has_dir.ensures ∙ c.if-has_dir.false) (sym c.has_file.ensures ∙ c.if-has_file.false))

use Rattle.std.proofs.Common.{◌++◌, ◌∙◌, List, ℕ, ap, map, take}
use Rattle.std.specs.Prelude.{string_bytes}
use Rattle.sudo_words.specs.declared.cmnd.Cmnd.{Cmnd}
use Rattle.sudo_policy.specs.declared.entry.Entry.TheVariants as entries
use Rattle.sudo_policy.specs.Printing.{line_text}
use Rattle.grants.specs.GrantRules.{grant_rule}
use Rattle.grants.specs.private.Lines.{lines_text}
use Rattle.grants.proofs.WrittenLines.{lines_more}
use Rattle.grants.proofs.lines.push_commands.Goals as goal

pub loop-cmnd-preserved : goal.loop-cmnd-preserved
loop-cmnd-preserved c =
    let rule = grant_rule c.args.host.now c.args.request.now c.args.window.now.start c.args.window.now.end in
    let cmnds = c.cmnds-cmnd-items.result.now in
    let before = string_bytes c.args.text.now ++ lines_text (map rule (take c.loop-cmnd.cmnd-index cmnds)) in
    c.in_ok-push_line.ensures
    ∙ ap (λ (t : List ℕ). t ++ line_text (entries.Rule (rule c.cmnd-item.result))) c.loop-cmnd.invariant
    ∙ ap (λ (x : Cmnd). before ++ line_text (entries.Rule (rule x))) c.cmnd-item.is
    ∙ lines_more rule cmnds c.loop-cmnd.cmnd-index c.cmnd-item.result (string_bytes c.args.text.now) c.loop-cmnd-test.true

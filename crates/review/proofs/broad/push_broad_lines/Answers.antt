use Rattle.std.proofs.Common.{◌++◌, List, string_bytes, ap, ◌∙◌}
use Rattle.std.specs.List.{flat_map}
use Rattle.std.proofs.lemmas.List.{take_all}
use Rattle.sudo_words.specs.declared.cmnd.Cmnd.{Cmnd}
use Rattle.review.specs.Columns.{lines_text}
use Rattle.review.specs.Report.{broad_for}
use Rattle.review.proofs.ReportLists.{flat_more}
use Rattle.review.proofs.broad.push_broad_lines.Goals as goal

pub loop-cmnd-preserved : goal.loop-cmnd-preserved
loop-cmnd-preserved c =
    flat_more (broad_for c.args.request.now) c.cmnds-cmnd-items.result.now c.loop-cmnd.cmnd-index c.cmnd-item.result
    (string_bytes c.args.out.now) (string_bytes c.loop-cmnd.out) (string_bytes c.push_broad_line.new.out)
    c.loop-cmnd-test.true c.cmnd-item.is c.loop-cmnd.invariant c.in_ok-push_broad_line.ensures

pub returns : goal.returns
returns c =
    let old = string_bytes c.args.out.now in
    c.loop-cmnd.invariant
    ∙ ap (λ (cs : List Cmnd). old ++ lines_text (flat_map (broad_for c.args.request.now) cs))
    (take_all c.loop-cmnd.cmnd-index c.cmnds-cmnd-items.result.now c.loop-cmnd-test.false ∙ c.cmnds-cmnd-items.ensures.value)

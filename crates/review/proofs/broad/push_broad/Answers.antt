use Rattle.std.proofs.Common.{string_bytes, refl}
use Rattle.std.specs.List.{flat_map}
use Rattle.review.specs.Report.{AreBroadLines, AreInForce, broad_for}
use Rattle.review.specs.private.Reporting.{AddsLines, kept_name}
use Rattle.std.proofs.lemmas.Result.{on_ok_weaker}
use Rattle.review.proofs.ReportParts.{none_in_force, one_in_force}
use Rattle.review.proofs.broad.push_broad.Goals as goal

pub returns-in_default : goal.returns-in_default
returns-in_default c = λ f set is.
    let found = c.in_default.ensures.given f set is in
    let old = string_bytes c.args.out.now in
    none_in_force f set (kept_name c.args.summary.now) old old c.args.at AreBroadLines found.0 found.1 found.2

pub returns : goal.returns
returns c = λ f set is.
    let name = kept_name c.args.summary.now in
    let found = c.in-Some.ensures.given f set is in
    let q = c.in-Some.grant.request.now in
    let old = string_bytes c.args.out.now in
    let new = string_bytes c.push_broad_lines.new.out in
    on_ok_weaker {Q = AddsLines (AreInForce f set c.args.at AreBroadLines name) old new} c.push_broad_lines.result (λ adds. one_in_force f set name old new
    c.args.at AreBroadLines found.0 c.in-Some.grant.window q (flat_map (broad_for q) q.cmnds) found.1 found.2 found.3 refl adds) c.push_broad_lines.ensures

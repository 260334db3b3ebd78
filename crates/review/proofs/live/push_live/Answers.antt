use Rattle.std.proofs.Common.{◌≡◌, ◌++◌, string_bytes, refl, [], ◌∷◌}
use Rattle.std.specs.Prelude.{codes}
use Rattle.review.specs.Report.{AreInForce, IsLiveLine, live_line}
use Rattle.review.specs.private.Reporting.{AddsLines, kept_name}
use Rattle.std.proofs.lemmas.Result.{on_ok_weaker}
use Rattle.review.proofs.ReportLists.{one_line}
use Rattle.review.proofs.ReportParts.{none_in_force, one_in_force}
use Rattle.review.proofs.live.push_live.Goals as goal

pub returns-in_default : goal.returns-in_default
returns-in_default c = λ f set is.
    let found = c.in_default.ensures.given f set is in
    let old = string_bytes c.args.out.now in
    none_in_force f set (kept_name c.args.summary.now) old old c.args.at (IsLiveLine c.args.base.now) found.0 found.1 found.2

pub returns : goal.returns
returns c = λ f set is.
    let name = kept_name c.args.summary.now in
    let found = c.in-Some.ensures.given f set is in
    let q = c.in-Some.grant.request.now in
    let w = c.in-Some.grant.window in
    let old = string_bytes c.args.out.now in
    let new = string_bytes c.push_live_line.new.out in
    let need = c.in_ok-need.need in
    let line = live_line q w need in
    on_ok_weaker {P = new ≡ old ++ line ++ codes "\n"} {Q = AddsLines (AreInForce f set c.args.at (IsLiveLine c.args.base.now) name) old new}
    c.push_live_line.result (λ adds. one_in_force f set name old new c.args.at (IsLiveLine c.args.base.now) found.0 w q
    (line ∷ []) found.1 found.2 found.3 (need, c.in_ok-need.ensures, refl) (one_line old line new adds)) c.push_live_line.ensures

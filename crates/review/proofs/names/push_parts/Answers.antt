use Rattle.std.proofs.Common.{string_bytes}
use Rattle.review.specs.declared.names.Parts.{Parts}
use Rattle.review.specs.private.Names.{AddsName, AreBroadOf}
use Rattle.review.specs.private.Reporting.{AddsLines, IsOutcome}
use Rattle.std.proofs.lemmas.Result.{on_ok_weaker}
use Rattle.review.proofs.names.push_parts.Goals as goal

pub returns : goal.returns
returns c = λ set s.
    let f = c.args.roster.now.says in
    let base = c.args.base.now in
    let at = c.args.at in
    let k = c.args.summary.now in
    let old = c.args.parts.now in
    let new : Parts = record { live = c.push_live.new.out; barred = c.push_barred.new.out; broad = c.push_broad.new.out } in
    let is : IsOutcome f set k c.status-status.result = record { stands = s; status_is = c.status-status.ensures set s } in
    on_ok_weaker {P = AddsLines (AreBroadOf f set at k) (string_bytes old.broad) (string_bytes new.broad)}
    {Q = AddsName f base set at k old new} c.push_broad.result
    (λ broad. record { live = c.in_ok-push_live.ensures f set is; barred = c.in_ok-push_barred.ensures set is; broad = broad }) (c.push_broad.ensures f set is)

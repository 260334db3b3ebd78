use Rattle.std.proofs.Common.{string_bytes, map, Option, sym, ap, subst, ◌∙◌, List, ℕ}
use Rattle.std.specs.List.{flat_map}
use Rattle.messages.specs.Fields.{RequestFields}
use Rattle.grants.specs.Summaries.{AreApprovals}
use Rattle.review.specs.declared.reason.Reason.{Reason}
use Rattle.review.specs.Barred.{barred_for, reason}
use Rattle.review.specs.Report.{AreBarred}
use Rattle.review.specs.private.Reporting.{AddsLines, kept_name}
use Rattle.review.specs.private.Whys.{whys, with_lines}
use Rattle.std.proofs.lemmas.Result.{on_ok_weaker}
use Rattle.review.proofs.Approvers.{approvers_are, barred_are}
use Rattle.review.proofs.ReportParts.{none_barred, some_barred}
use Rattle.review.proofs.barred.push_barred.Goals as goal

pub returns-in_default : goal.returns-in_default
returns-in_default c = λ set is.
    let found = c.in_default.ensures set is in
    let old = string_bytes c.args.out.now in
    none_barred c.args.roster.now.says set (kept_name c.args.summary.now) old old found.0 found.1 found.2

pub returns : goal.returns
returns c = λ set is.
    let f = c.args.roster.now.says in
    let name = kept_name c.args.summary.now in
    let q = c.in-Some.open.request.now in
    let ceiling = c.in-Some.open.ceiling.now in
    let list = c.in_ok-approvals.approvals.items in
    let old = string_bytes c.args.out.now in
    let new = string_bytes c.push_barred_people.new.out in
    let found = c.in-Some.ensures set is in
    let are : AreApprovals set q list = subst (λ (p : RequestFields). AreApprovals set p list) (sym found.4) (c.in_ok-approvals.ensures set is.stands) in
    let ws = whys (reason f ceiling q.by) list in
    on_ok_weaker {Q = AddsLines (AreBarred f set name) old new} c.push_barred_people.result
    (λ adds. some_barred f set name old new found.0 q (flat_map (λ (w : List ℕ × Option Reason). barred_for q w.0 w.1) ws) found.1 found.2 found.3
    (record {
      ceiling = ceiling;
      people = map (λ (w : List ℕ × Option Reason). w.0) ws;
      ceiling_is = found.5;
      people_are = approvers_are f set ceiling q list are;
      lines_are = barred_are f set ceiling q list are;
    })
    (adds ∙ ap (λ (xs : List (List ℕ × ℕ)). with_lines q old (whys (reason f ceiling q.by) xs)) c.deref.ensures.value))
    c.push_barred_people.ensures

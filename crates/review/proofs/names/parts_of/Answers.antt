use Rattle.std.proofs.Common.{List, subst}
use Rattle.grants.specs.Summaries.{Kept, StandsFor}
use Rattle.sudo_policy.specs.declared.entry.Entry.{Entry}
use Rattle.review.specs.private.Names.{AddsName, AreBarredOf, AreBroadOf, AreLiveOf, HaveNames}
use Rattle.review.proofs.NameParts.{empty_part, one_more_name}
use Rattle.review.proofs.ReportLists.{at_place, whole_list}
use Rattle.review.proofs.names.parts_of.Goals as goal

pub loop-summary-init : goal.loop-summary-init
loop-summary-init c = λ set all.
    let f = c.args.roster.now.says in
    let base = c.args.base.now in
    let at = c.args.at in
    record {
      live = empty_part (AreLiveOf f base set at) _ c.new-live.ensures.bytes;
      barred = empty_part (AreBarredOf f set) _ c.new-barred.ensures.bytes;
      broad = empty_part (AreBroadOf f set at) _ c.new-broad.ensures.bytes;
    }

pub loop-summary-preserved : goal.loop-summary-preserved
loop-summary-preserved c = λ set all.
    let l = c.loop-summary in
    let kept = c.args.summaries.now in
    let k = c.summary-item.result in
    one_more_name c.args.roster.now.says c.args.base.now set c.args.at kept l.summary-index k l.parts c.push_parts.new.parts c.loop-summary-test.true
    c.summary-item.is (l.invariant set all) (subst (λ (base : List Entry). AddsName c.args.roster.now.says base set c.args.at k l.parts c.push_parts.new.parts)
    c.in_ok-baseline.ensures (c.in_ok-push_parts.ensures set (at_place (StandsFor set) kept l.summary-index k c.loop-summary-test.true c.summary-item.is all)))

pub returns : goal.returns
returns c = λ set all. whole_list (λ (ks : List Kept). HaveNames c.args.roster.now.says c.args.base.now set c.args.at ks c.loop-summary.parts)
    c.args.summaries.now c.loop-summary.summary-index c.loop-summary-test.false (c.loop-summary.invariant set all)

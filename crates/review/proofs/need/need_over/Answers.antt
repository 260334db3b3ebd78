use Rattle.std.proofs.Common.{ℕ, List}
use Rattle.review.specs.Needs.{IsNeedOn, IsNeedOver}
use Rattle.review.proofs.NeedLemmas.{need_next, needed_here, no_hosts, one_need_on}
use Rattle.review.proofs.ReportLists.{whole_list}
use Rattle.review.proofs.need.need_over.Goals as goal

pub loop-host-init : goal.loop-host-init
loop-host-init c =
    no_hosts (IsNeedOn c.args.base.now c.args.request.now c.args.window.now) (one_need_on c.args.base.now c.args.request.now c.args.window.now)

pub loop-host-preserved : goal.loop-host-preserved
loop-host-preserved c =
    need_next (IsNeedOn c.args.base.now c.args.request.now c.args.window.now) (one_need_on c.args.base.now c.args.request.now c.args.window.now)
    c.args.hosts.now c.loop-host.host-index c.host-item.result c.loop-host.need c.in_ok-here.here c.and-need.result
    c.loop-host-test.true c.host-item.is c.loop-host.invariant c.in_ok-here.ensures c.and-need.ensures

pub returns-in-Needed : goal.returns-in-Needed
returns-in-Needed c =
    needed_here (IsNeedOn c.args.base.now c.args.request.now c.args.window.now) (one_need_on c.args.base.now c.args.request.now c.args.window.now)
    c.args.hosts.now c.loop-host.host-index c.host-item.result c.in_ok-here.here c.loop-host-test.true c.host-item.is c.in_ok-here.ensures c.in-Needed.is

pub returns : goal.returns
returns c =
    whole_list (λ (hosts : List (List ℕ)). IsNeedOver (IsNeedOn c.args.base.now c.args.request.now c.args.window.now) hosts c.loop-host.need)
    c.args.hosts.now c.loop-host.host-index c.loop-host-test.false c.loop-host.invariant

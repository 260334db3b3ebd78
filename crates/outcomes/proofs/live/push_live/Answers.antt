use Rattle.std.proofs.Common.{sym, ◌∙◌}
use Rattle.outcomes.proofs.LiveLemmas.{not_pushed, pushed}
use Rattle.outcomes.proofs.live.push_live.Goals as goal

pub returns-in_default : goal.returns-in_default
returns-in_default c = λ set s.
    let status = c.status.result in (
      status,
      c.status.ensures set s,
      not_pushed c.args.summary.now.request c.args.at status c.args.list.now.items (sym c.window_at.ensures ∙ c.in_default.is),
    )

pub returns-in_ok-push-in-Some-request : goal.returns-in_ok-push-in-Some-request
returns-in_ok-push-in-Some-request c = λ set s.
    let status = c.status.result in (
      status,
      c.status.ensures set s,
      pushed c.args.summary.now.request c.in-Some-request.request.now c.args.at status c.in-Some.window
          c.args.list.now.items c.push.new.self.items c.in_ok-grant-in-Some-request.field-0 (sym c.window_at.ensures
          ∙ c.in-Some.is) c.in-Some-request.ensures.value c.in_ok-grant-in-Some-request.ensures c.in_ok-push-in-Some-request.ensures.items,
    )

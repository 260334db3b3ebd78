use Rattle.std.proofs.Common.{◌++◌, string_bytes}
use Rattle.std.specs.List.{flat_map}
use Rattle.findings.specs.Terminal.{request_lines}
use Rattle.findings.proofs.JoinedLemmas.{flat_more}
use Rattle.findings.proofs.terminal.push_requests.Goals as goal

pub loop-request-preserved : goal.loop-request-preserved
loop-request-preserved c =
    let l = c.loop-request in
    flat_more request_lines c.args.requests.now l.request-index (string_bytes l.out)
    (string_bytes c.args.out.now ++ flat_map request_lines c.args.requests.now) l.invariant
    c.request-item.result (string_bytes c.push_request.new.out) c.loop-request-test.true c.request-item.is c.in_ok-push_request.ensures

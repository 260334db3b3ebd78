use Rattle.std.proofs.Common.{inl}
use Rattle.relay_http.proofs.RequestLemmas.{one_request}
use Rattle.relay_http.proofs.request.request_in.Goals as goal

pub returns-in-Found-clause-only : goal.returns-in-Found-clause-only
returns-in-Found-clause-only c =
    let x = c.in-Found.ensures in
    λ request asks. one_request c.args.offered c.args.bytes.now request _ asks (inl (x.0, x.1.has, c.request_from.ensures x.0 x.1))

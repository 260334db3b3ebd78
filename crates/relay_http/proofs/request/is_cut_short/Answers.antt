use Rattle.relay_http.specs.Request.{request_of}
use Rattle.relay_http.proofs.request.is_cut_short.Goals as goal

pub returns : goal.returns
returns c = (request_of c.so_far.result.request, c.so_far.ensures.request, c.so_far.ensures.short)

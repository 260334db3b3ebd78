use Rattle.std.proofs.Common.{Option, sym, subst}
use Rattle.desk.specs.declared.refusal.Refusal.{Refusal}
use Rattle.relay_http.specs.Request.{request_of}
use Rattle.relay_http.specs.Prepared.{response_of}
use Rattle.relay_http.specs.Responses.{ResponseTells}
use Rattle.relay_http.proofs.received.Received.answer.Goals as goal

pub returns-clause-exchange : goal.returns-clause-exchange
returns-clause-exchange g c = (
  request_of c.request-request.result,
  c.request-request.ensures,
  (
    record {
      response = response_of c.answered-answer.result;
      answered = c.answered-answer.ensures.answered;
      lasts = c.answered-answer.ensures.lasts;
      wrote = c.of.ensures.rest;
    },
    c.of.ensures.status,
    subst (λ (o : Option Refusal). ResponseTells o (response_of c.answered-answer.result)) (sym c.of.ensures.told) c.answered-answer.ensures.told,
  ),
)

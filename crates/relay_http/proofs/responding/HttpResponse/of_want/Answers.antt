use Rattle.std.proofs.Common.{Option, sym, ap, ◌∙◌, subst}
use Rattle.desk.specs.declared.refusal.Refusal.{Refusal}
use Rattle.relay_http.specs.Prepared.{response_of}
use Rattle.relay_http.specs.Response.{code_of, written}
use Rattle.relay_http.specs.Responses.{Response, ResponseTells}
use Rattle.relay_http.proofs.responding.HttpResponse.of_want.Goals as goal

pub returns : goal.returns
returns c =
    let is = c.to_refusal.ensures.response in (
      c.of.ensures.status ∙ ap (λ (r : Response). code_of r.status) is,
      subst (λ (r : Response). ResponseTells c.of.result.refusal r) is
          (subst (λ (o : Option Refusal). ResponseTells o (response_of c.to_refusal.result)) (sym c.of.ensures.told) c.to_refusal.ensures.told),
      c.of.ensures.rest ∙ ap (λ (r : Response). written r.status r.body c.args.with_body) is,
    )

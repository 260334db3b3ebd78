use Rattle.std.proofs.Common.{◌≡◌, ◌↔◌, subst, sym}
use Rattle.std.specs.Prelude.{IsOk, Err}
use Rattle.messages.specs.declared.message.Message.{Message}
use Rattle.messages.specs.declared.message.Message.TheVariants.{Request}
use Rattle.grants.specs.Admission.{Admits, IsDenial}
use Rattle.grants.proofs.Answering.{answers_admitted, answers_denied}
use Rattle.grants.proofs.admission.admit.Goals as goal

pub returns-in-Request-clause-admitted : goal.returns-in-Request-clause-admitted
returns-in-Request-clause-admitted c =
    subst (λ (m : Message). IsOk c.admit_request.result ↔ Admits c.args.roster.now.says m) (sym c.in-Request.is)
    (answers_admitted c.args.roster.now.says (Request c.in-Request.request) c.admit_request.result c.admit_request.ensures)

pub returns-in-Request-clause-denied : goal.returns-in-Request-clause-denied
returns-in-Request-clause-denied c = λ d.
    subst (λ (m : Message). (c.admit_request.result ≡ Err d) ↔ IsDenial c.args.roster.now.says m d) (sym c.in-Request.is)
    (answers_denied c.args.roster.now.says (Request c.in-Request.request) c.admit_request.result c.admit_request.ensures d)

use Rattle.messages.specs.declared.message.Message.TheVariants.{Request}
use Rattle.grants.proofs.Answering.{no_denial}
use Rattle.grants.proofs.request_status.ceiling_of.Goals as goal

pub returns-in-Err-clause-denied : goal.returns-in-Err-clause-denied
returns-in-Err-clause-denied c = λ admits.
    no_denial c.args.roster.now.says (Request c.args.request.now) c.in-Err.field-0 admits c.in-Err.ensures.applies

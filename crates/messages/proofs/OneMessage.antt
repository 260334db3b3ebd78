-- A message has one request or one verdict in it.
use Rattle.std.proofs.Common.{◌≡◌}
use Rattle.messages.specs.Fields.{RequestFields, VerdictFields}
use Rattle.messages.specs.declared.message.Message.{Message}
use Rattle.messages.specs.declared.message.Message.TheVariants.{Request, Verdict}

pub one_request : (p q : RequestFields) → ◌≡◌ {A = Message} (Request p) (Request q) → p ≡ q
one_request p q e = cc

pub one_verdict : (v w : VerdictFields) → ◌≡◌ {A = Message} (Verdict v) (Verdict w) → v ≡ w
one_verdict v w e = cc

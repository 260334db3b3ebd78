use Rattle.std.proofs.Common.{refl, inr}
use Rattle.std.proofs.Common.{arith}
use Rattle.relay_http.proofs.request.host_at.Goals as goal

pub returns-in-None : goal.returns-in-None
returns-in-None c = inr (λ t stamp. grind (arith, c.in-None.is, c.in-None.ensures.only t stamp), refl)

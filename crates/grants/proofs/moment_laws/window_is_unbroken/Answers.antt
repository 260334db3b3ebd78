use Rattle.grants.proofs.WindowLaws.{unbroken}
use Rattle.grants.proofs.moment_laws.window_is_unbroken.Goals as goal

pub returns : goal.returns
returns c = unbroken

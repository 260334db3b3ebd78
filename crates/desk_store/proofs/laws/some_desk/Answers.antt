use Rattle.desk_store.proofs.SomeDesk.{some_desk}
use Rattle.desk_store.proofs.laws.some_desk.Goals as goal

pub returns : goal.returns
returns c = some_desk

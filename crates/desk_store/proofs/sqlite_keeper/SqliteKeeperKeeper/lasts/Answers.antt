use Rattle.sqlite.specs.Held.{state}
use Rattle.desk_store.proofs.FoundLemmas.{up_left}
use Rattle.desk_store.proofs.sqlite_keeper.SqliteKeeperKeeper.lasts.Goals as goal

pub returns : goal.returns
returns g c = λ up left may. up_left (state g.S.Store c.args.self.now.conn) c.settles.ensures up left may

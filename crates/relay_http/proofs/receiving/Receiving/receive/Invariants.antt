use Rattle.std.proofs.Common.{◌≡◌, ◌≤◌, ◌-◌, length}
use Rattle.relay_http.specs.Receiving.{HasCome}
use Rattle.relay_http.proofs.receiving.Receiving.receive.Given as goal

abbrev pub invariant-loop-come : goal.invariant-loop-come
invariant-loop-come g l = record {
  come : HasCome (g.R.Read.remaining l.initial.reader.inner) (g.R.Read.remaining l.reader.inner) l.initial.come.bytes l.come.bytes;
  room : l.initial.come.room ≤ l.come.room;
  socket : l.come.offered ≡ l.initial.come.offered;
  counted : l.reader.failures ≡ l.initial.reader.failures;
  unread : length l.come.bytes ≡ 0 → l.reader ≡ l.initial.reader;
}

abbrev pub decreases-loop-come : goal.decreases-loop-come
decreases-loop-come g l = 24576 - length l.come.bytes

use Rattle.std.proofs.Common.{◌≡◌, ◌++◌, ℕ, List, length}
use Rattle.std.specs.Io.KnownBytes.{Appends}
use Rattle.relay_http.proofs.outgoing.Outgoing.send_on.Given as goal

abbrev pub invariant-loop-rest : goal.invariant-loop-rest
invariant-loop-rest g l = record {
  sent :
      (front : List ℕ) × (l.initial.rest ≡ front ++ l.rest)
      × Appends (g.W.Write.contents l.initial.writer.inner) (g.W.Write.contents l.writer.inner) front;
  counted : l.writer.failures ≡ l.initial.writer.failures;
}

abbrev pub decreases-loop-rest : goal.decreases-loop-rest
decreases-loop-rest g l = length l.rest

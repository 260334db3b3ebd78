-- When the rules of a request are rules of grants. For private clauses.
use Rattle.std.specs.Prelude.{◌≤◌}
use Rattle.messages.specs.Fields.{RequestFields}
use Rattle.grants.specs.declared.outcome.Status.{Status}
use Rattle.grants.specs.declared.outcome.Status.TheVariants.{Disputed, Lapsed, Refused}
use Rattle.grants.specs.declared.outcome.Status.TheVariants.{Waiting, Void, Granted}

-- a window that begins and ends by the last moment that the request asks for
abbrev pub EndsInTime : RequestFields → Status → Type 0
EndsInTime q Disputed = Unit {0}
EndsInTime q Lapsed = Unit {0}
EndsInTime q Refused = Unit {0}
EndsInTime q Waiting = Unit {0}
EndsInTime q Void = Unit {0}
EndsInTime q (Granted w) = (w.start ≤ q.until) × (w.end ≤ q.until)

use Rattle.std.proofs.Common.{◌≡◌, drop}
use Rattle.relay_http.specs.Scan.{scanned}
use Rattle.relay_http.proofs.head_scan.scan.Given as goal

-- the scan of what is left ends where that of all does
abbrev pub invariant-loop-byte : goal.invariant-loop-byte
invariant-loop-byte l = scanned l.line (drop l.byte-index l.bytes) ≡ scanned l.initial.line l.bytes

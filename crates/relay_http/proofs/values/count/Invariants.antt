use Rattle.std.proofs.Common.{◌≡◌, drop, map}
use Rattle.httparse.specs.Spans.{header_bytes}
use Rattle.relay_http.specs.Fields.{values}
use Rattle.relay_http.specs.Seen.{seen_of, and_all, nothing}
use Rattle.relay_http.proofs.values.count.Given as goal

-- what was found, and then what is left, are all
abbrev pub invariant-loop-header : goal.invariant-loop-header
invariant-loop-header l =
    and_all (seen_of l.found) (values l.name (map (header_bytes l.buf) (drop l.header-index l.headers)))
    ≡ and_all nothing (values l.name (map (header_bytes l.buf) l.headers))

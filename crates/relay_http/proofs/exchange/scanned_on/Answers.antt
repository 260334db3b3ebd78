use Rattle.relay_http.proofs.StageLemmas.{scan_on}
use Rattle.relay_http.proofs.exchange.scanned_on.Goals as goal

pub returns-else-is_due : goal.returns-else-is_due
returns-else-is_due c = (
  scan_on c.args.line c.scan-next.result c.args.bytes.now c.args.from c.requires.line c.scan-next.ensures,
  c.is_due.ensures c.if-is_due.false,
  c.if-bytes-ge-MOST_HEAD_BYTES.false,
)

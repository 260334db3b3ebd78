use Rattle.std.proofs.Common.{subst}
use Rattle.relay_http.specs.Stages.{IsSeen}
use Rattle.relay_http.specs.declared.head.Looked.{Looked}
use Rattle.relay_http.proofs.StageLemmas.{no_head_any_more, scan_on, still_open}
use Rattle.relay_http.proofs.exchange.looked.Goals as goal

pub returns-then-bytes-ge-MOST_HEAD_BYTES : goal.returns-then-bytes-ge-MOST_HEAD_BYTES
returns-then-bytes-ge-MOST_HEAD_BYTES c =
    let seen = subst (λ (l : Looked). IsSeen c.args.bytes.now l) c.in-Partial.is c.look.ensures in
    no_head_any_more c.args.bytes.now c.if-bytes-ge-MOST_HEAD_BYTES.true seen.0

pub returns-else-bytes-ge-MOST_HEAD_BYTES : goal.returns-else-bytes-ge-MOST_HEAD_BYTES
returns-else-bytes-ge-MOST_HEAD_BYTES c =
    let seen = subst (λ (l : Looked). IsSeen c.args.bytes.now l) c.in-Partial.is c.look.ensures in
    let is = scan_on c.args.line c.scan.result c.args.bytes.now c.args.from c.requires.line c.scan.ensures in (
      is,
      still_open c.args.bytes.now c.scan.result c.if-bytes-ge-MOST_HEAD_BYTES.false seen.0 seen.1 is,
      c.if-bytes-ge-MOST_HEAD_BYTES.false,
    )

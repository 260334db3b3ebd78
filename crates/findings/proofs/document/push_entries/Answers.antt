use Rattle.std.proofs.Common.{string_bytes}
use Rattle.findings.specs.Document.{IsEntryText}
use Rattle.findings.proofs.JoinedLemmas.{rest_all, rest_more}
use Rattle.findings.proofs.document.push_entries.Goals as goal

pub loop-entry-preserved : goal.loop-entry-preserved
loop-entry-preserved c =
    let l = c.loop-entry in
    rest_more (IsEntryText c.args.roster.now.says c.args.until.now) c.args.entries.now l.entry-index l.is_first
    (string_bytes c.args.out.now) (string_bytes l.out) l.invariant
    c.entry-item.result (string_bytes c.push_comma.new.out) (string_bytes c.push_entry.new.out) c.loop-entry-test.true c.entry-item.is
    c.in_ok-push_comma.ensures c.in_ok-push_entry.ensures

pub returns : goal.returns
returns c =
    let l = c.loop-entry in
    rest_all (IsEntryText c.args.roster.now.says c.args.until.now) c.args.entries.now l.entry-index l.is_first
    (string_bytes c.args.out.now) (string_bytes l.out) l.invariant c.loop-entry-test.false

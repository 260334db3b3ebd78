use Rattle.std.proofs.Common.{inl, inr, sym, arith}
use Rattle.sudo_policy.specs.Lex.{is_text_byte}
use Rattle.sudo_syntax.proofs.Deriving.{each_of}
use Rattle.sudo_syntax.proofs.LineLemmas.{cut_none, cut_some, front_line}
use Rattle.sudo_syntax.proofs.read.check_bytes.Goals as goal

pub returns-then-text-gt-MOST_TEXT_BYTES-clause-line : goal.returns-then-text-gt-MOST_TEXT_BYTES-clause-line
returns-then-text-gt-MOST_TEXT_BYTES-clause-line c =
    front_line c.args.text.now c.split_at.result.0.now c.split_at.result.1.now
    c.fault_after.result.line c.split_at.ensures.by_index.0 c.fault_after.ensures.line

pub returns-then-text-gt-MOST_TEXT_BYTES-clause-kind : goal.returns-then-text-gt-MOST_TEXT_BYTES-clause-kind
returns-then-text-gt-MOST_TEXT_BYTES-clause-kind c = inl (c.fault_after.ensures.kind, omega arith)

pub returns-then-is_text-clause-ok : goal.returns-then-is_text-clause-ok
returns-then-is_text-clause-ok c = (omega arith, each_of is_text_byte c.args.text.now (sym c.if-is_text.ensures))

pub returns-in-empty-clause-ok : goal.returns-in-empty-clause-ok
returns-in-empty-clause-ok c = (omega arith, cut_none is_text_byte c.args.text.now _ _ c.cut_text.ensures c.in-empty.len_below)

pub returns-in_default-clause-line : goal.returns-in_default-clause-line
returns-in_default-clause-line c =
    front_line c.args.text.now c.cut_text.result.0.now c.cut_text.result.1.now
    c.fault_after-in_default.result.line c.cut_text.ensures.whole c.fault_after-in_default.ensures.line

pub returns-in_default-clause-kind : goal.returns-in_default-clause-kind
returns-in_default-clause-kind c =
    inr (c.fault_after-in_default.ensures.kind, cut_some c.args.text.now _ _ c.cut_text.ensures c.in_default.len_at_least)

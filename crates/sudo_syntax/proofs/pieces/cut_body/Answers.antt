use Rattle.std.proofs.Common.{sym}
use Rattle.std.proofs.lemmas.List.{append-nil}
use Rattle.sudo_policy.specs.Lines.{is_no_hash}
use Rattle.sudo_syntax.proofs.CutLemmas.{cut_is}
use Rattle.sudo_syntax.proofs.Deriving.{each_of}
use Rattle.sudo_syntax.proofs.pieces.cut_body.Goals as goal

pub returns-then-lacks_hash : goal.returns-then-lacks_hash
returns-then-lacks_hash c =
    record { whole = sym (append-nil c.args.line.now); each = each_of is_no_hash c.args.line.now (sym c.if-lacks_hash.ensures); stops = tt }

pub returns : goal.returns
returns c = rw (c.split_at.ensures.front, c.split_at.ensures.back, c.body_len.ensures) (cut_is is_no_hash c.args.line.now)

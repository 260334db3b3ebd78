use Rattle.std.proofs.Common.{◌≡◌, take}
use Rattle.std.specs.List.{list_all}
use Rattle.sudo_policy.specs.Lines.{is_no_hash}
use Rattle.sudo_syntax.proofs.pieces.lacks_hash.Given as goal

abbrev pub invariant-loop-byte : goal.invariant-loop-byte
invariant-loop-byte l = l.each ≡ list_all is_no_hash (take l.byte-index l.line)

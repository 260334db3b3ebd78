use Rattle.std.proofs.Common.{◌≡◌, length, take}
use Rattle.sudo_policy.specs.private.Lengths.{stopped}
use Rattle.sudo_policy.specs.Printing.{signed_text, tail_text}
use Rattle.sudo_policy.proofs.lengths.tail_len.Given as goal

abbrev pub invariant-loop-item : goal.invariant-loop-item
invariant-loop-item g l = l.len ≡ stopped (length (tail_text (signed_text g.T.Lengthy.text) (take l.item-index l.items)))

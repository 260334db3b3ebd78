use Rattle.std.proofs.Common.{◌≡◌, ◌++◌, take}
use Rattle.std.specs.Prelude.{string_bytes}
use Rattle.sudo_policy.specs.Printing.{cmnd_item_text, signed_text, tail_text}
use Rattle.sudo_policy.proofs.printing.push_cmnd_tail.Given as goal

abbrev pub invariant-loop-item : goal.invariant-loop-item
invariant-loop-item l = string_bytes l.out ≡ string_bytes l.fn.out ++ tail_text (signed_text cmnd_item_text) (take l.item-index l.items)

use Rattle.std.proofs.Common.{◌≡◌, take}
use Rattle.std.specs.List.{list_all}
use Rattle.sudo_policy.specs.Lex.{is_text_byte}
use Rattle.sudo_syntax.proofs.token.is_text.Given as goal

abbrev pub invariant-loop-byte : goal.invariant-loop-byte
invariant-loop-byte l = l.each ≡ list_all is_text_byte (take l.byte-index l.bytes)

use Rattle.std.proofs.Common.{◌≡◌, ◌++◌, take}
use Rattle.std.specs.Prelude.{string_bytes}
use Rattle.sudo_words.specs.Command.{arg_text}
use Rattle.sudo_words.proofs.arg_text.push_bytes.Given as goal

abbrev pub invariant-loop-byte : goal.invariant-loop-byte
invariant-loop-byte l = string_bytes l.out ≡ string_bytes l.fn.out ++ arg_text (take l.byte-index l.bytes)

use Rattle.std.proofs.Common.{◌≡◌, ◌++◌, length, true}
use Rattle.std.specs.Prelude.{string_bytes}
use Rattle.std.specs.List.{list_all}
use Rattle.sudo_words.specs.Word.{is_arg_byte}
use Rattle.sudo_words.specs.Command.{arg_text}
use Rattle.sudo_words.proofs.arg_text.unescaped.Given as goal

abbrev pub invariant-loop-byte : goal.invariant-loop-byte
invariant-loop-byte l = record {
  whole : l.text ≡ arg_text (string_bytes l.out) ++ l.left;
  bytes : list_all is_arg_byte (string_bytes l.out) ≡ true;
}

abbrev pub decreases-loop-byte : goal.decreases-loop-byte
decreases-loop-byte l = length l.left

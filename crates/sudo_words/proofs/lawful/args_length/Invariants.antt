use Rattle.std.proofs.Common.{◌≡◌, ◌≤◌, ◌*◌, length, take, true}
use Rattle.std.specs.List.{AllByRecursion, flat_map}
use Rattle.sudo_words.specs.Word.{is_arg}
use Rattle.sudo_words.specs.Command.{spaced_arg}
use Rattle.sudo_words.proofs.lawful.args_length.Given as goal

abbrev pub invariant-loop-arg : goal.invariant-loop-arg
invariant-loop-arg l = record {
  total_is : l.total ≡ length (flat_map spaced_arg (take l.arg-index l.args));
  short : l.total ≤ 129 * l.arg-index;
  forms : AllByRecursion (λ arg. is_arg arg ≡ true) (take l.arg-index l.args);
}

use Rattle.std.proofs.Common.{◌≡◌, map, take, true}
use Rattle.std.specs.List.{AllByRecursion}
use Rattle.sudo_words.specs.Word.{is_arg}
use Rattle.sudo_words.specs.Command.{arg_text}
use Rattle.sudo_words.proofs.cmnd_text.args_of.Given as goal

abbrev pub invariant-loop-word : goal.invariant-loop-word
invariant-loop-word l = record {
  texts : map arg_text l.args.items ≡ map (λ w. w.now) (take l.word-index l.words);
  forms : AllByRecursion (λ a. is_arg a ≡ true) l.args.items;
}

use Rattle.std.proofs.Common.{◌≡◌, map, take, true}
use Rattle.std.specs.List.{list_all}
use Rattle.sudo_words.specs.Word.{is_arg}
use Rattle.desk_args.proofs.values.all_args.Given as goal

abbrev pub invariant-loop-text : goal.invariant-loop-text
invariant-loop-text l = record {
  read : l.args.items ≡ map (λ t. t.now) (take l.text-index l.texts);
  all : list_all is_arg l.args.items ≡ true;
}

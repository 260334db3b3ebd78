use Rattle.std.proofs.Common.{ap, ◌∙◌}
use Rattle.sudo_words.specs.Command.{is_directly_in}
use Rattle.sudo_words.proofs.PathLemmas.{in_directory, is_in_directory}
use Rattle.sudo_words.proofs.laws.directory_and_component.Goals as goal

pub returns : goal.returns
returns c = λ dir path. (in_directory dir path, λ found. ap (is_directly_in dir) found.1 ∙ is_in_directory dir found.0 found.2)

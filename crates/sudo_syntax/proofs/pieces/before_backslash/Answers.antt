use Rattle.std.proofs.Common.{[], ◌∷◌}
use Rattle.std.proofs.lemmas.Bool.Decides.{Decides-eqb}
use Rattle.std.proofs.lemmas.Slice.Eq.{strip_suffix_is}
use Rattle.sudo_words.specs.Bytes.{backslash}
use Rattle.sudo_policy.proofs.LineTexts.{backslash_off}
use Rattle.sudo_syntax.proofs.pieces.before_backslash.Goals as goal

pub returns : goal.returns
returns c = backslash_off c.args.line.now _ (strip_suffix_is Decides-eqb c.args.line.now (backslash ∷ []) _ c.strip_suffix.ensures.cases)

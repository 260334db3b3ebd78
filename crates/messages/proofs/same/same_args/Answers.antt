use Rattle.std.proofs.lemmas.Slice.Eq.{slice_eq-Decides, bytes_eq-Decides}
use Rattle.messages.proofs.same.same_args.Goals as goal

pub returns : goal.returns
returns c = slice_eq-Decides bytes_eq-Decides _ _ _ c.eq.ensures

use Rattle.sudo_syntax.proofs.RefusedTexts.{inside_none, below_none, colon_none, dir_none, blank_none}
use Rattle.sudo_syntax.proofs.worked_laws.worked_refusals.Goals as goal

pub returns : goal.returns
returns c = record { inside = inside_none; below = below_none; colon = colon_none; directory = dir_none; blank = blank_none }

use Rattle.std.proofs.Common.{take}
use Rattle.sudo_words.specs.Lists.{AreParts}
use Rattle.sudo_beyond.specs.Cases.{IsFreshFile}
use Rattle.sudo_beyond.specs.private.Gathering.{Adds}
use Rattle.sudo_beyond.proofs.runs.push_directories.Given as goal

abbrev pub invariant-loop-dir : goal.invariant-loop-dir
invariant-loop-dir l = Adds (AreParts (IsFreshFile l.files) (take l.dir-index l.directories)) l.fn.runs.items l.runs.items

use Rattle.std.proofs.Common.{List, take}
use Rattle.sudo_words.specs.declared.cmnd.Cmnd.{Cmnd}
use Rattle.sudo_words.specs.Lists.{AreParts}
use Rattle.sudo_beyond.specs.Cases.{ArePathCases}
use Rattle.sudo_beyond.specs.private.Gathering.{Adds, AreListings}
use Rattle.sudo_beyond.proofs.runs.push_paths.Given as goal

abbrev pub invariant-loop-file : goal.invariant-loop-file
invariant-loop-file l =
    (cmnds : List Cmnd) → AreListings cmnds l.listed → Adds (AreParts (ArePathCases cmnds) (take l.file-index l.files)) l.fn.runs.items l.runs.items

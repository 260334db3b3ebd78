use Rattle.std.proofs.Common.{List, ℕ, subst, arith}
use Rattle.std.proofs.lemmas.List.{take_all}
use Rattle.sudo_words.specs.Lists.{AreParts}
use Rattle.sudo_beyond.specs.Cases.{ArePathCases}
use Rattle.sudo_beyond.specs.private.Gathering.{Adds}
use Rattle.sudo_beyond.proofs.RunLemmas.{adds_more}
use Rattle.sudo_beyond.proofs.runs.push_paths.Goals as goal

pub loop-file-preserved : goal.loop-file-preserved
loop-file-preserved c =
    λ cmnds table. adds_more (ArePathCases cmnds) c.args.files.now c.loop-file.file-index c.file-item.result c.args.runs.now.items c.loop-file.runs.items
    c.push_path.new.runs.items c.loop-file-test.true c.file-item.is (c.loop-file.invariant cmnds table) (c.in_ok-push_path.ensures cmnds table)

pub returns : goal.returns
returns c = λ cmnds table.
    let files : List (List ℕ) = c.args.files.now in
    subst (λ (xs : List (List ℕ)). Adds (AreParts (ArePathCases cmnds) xs) c.args.runs.now.items c.loop-file.runs.items)
    (take_all c.loop-file.file-index files (omega arith)) (c.loop-file.invariant cmnds table)

use Rattle.sudo_beyond.specs.Cases.{IsFreshFile}
use Rattle.sudo_beyond.proofs.RunLemmas.{adds_more}
use Rattle.sudo_beyond.proofs.runs.push_directories.Goals as goal

pub loop-dir-preserved : goal.loop-dir-preserved
loop-dir-preserved c =
    adds_more (IsFreshFile c.args.files.now) c.args.directories.now c.loop-dir.dir-index c.dir-item.result c.args.runs.now.items
    c.loop-dir.runs.items c.push_directory.new.runs.items c.loop-dir-test.true c.dir-item.is c.loop-dir.invariant c.in_ok-push_directory.ensures

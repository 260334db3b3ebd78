use Rattle.std.proofs.Common.{◌≡◌, [], ◌∷◌, ◌++◌, ◌∙◌}
use Rattle.sudo_beyond.specs.Cases.{run_of, IsFreshFile}
use Rattle.sudo_beyond.specs.private.Gathering.{Adds}
use Rattle.std.proofs.lemmas.Result.{on_ok_weaker}
use Rattle.sudo_beyond.proofs.RunLemmas.{fresh_file}
use Rattle.sudo_beyond.proofs.runs.push_fresh.Goals as goal

pub returns : goal.returns
returns c =
    on_ok_weaker {P = c.push_run.new.runs.items ≡ c.args.runs.now.items ++ run_of c.in_ok-path.path c.new-2.result ∷ []}
    {Q = Adds (IsFreshFile c.args.files.now c.args.dir.now) c.args.runs.now.items c.push_run.new.runs.items} c.push_run.result
    (fresh_file c.args.files.now c.args.dir.now c.in_ok-path.path c.new-2.result c.args.runs.now.items c.push_run.new.runs.items c.in_ok-path.ensures
    (c.new-2.ensures ∙ c.new.ensures.items)) c.push_run.ensures

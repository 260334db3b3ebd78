use Rattle.std.specs.BTreeMap.{values}
use Rattle.outcomes.proofs.Existence.{lines_of_roll}
use Rattle.outcomes.proofs.GivenLists.{is_roll}
use Rattle.outcomes.proofs.HostRoll.{values_are}
use Rattle.outcomes.proofs.host_file.has_lines.Goals as goal

pub returns : goal.returns
returns c = λ set g are.
    let m = c.args.summaries.now in
    lines_of_roll c.text-text.result.now c.args.roster.now.says set c.text-text.ensures.roster c.args.host.now
    (values m) (is_roll set m g) (values_are m set g are)

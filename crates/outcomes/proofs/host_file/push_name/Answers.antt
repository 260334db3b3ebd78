use Rattle.grants.specs.Summaries.{StandsFor}
use Rattle.outcomes.proofs.host_file.push_name.Goals as goal

pub returns-in-Some : goal.returns-in-Some
returns-in-Some c = λ set stands.
    let own : StandsFor set c.in-Some.summary.now = rw c.in-Some.is at stands in
    rw c.in-Some.is (c.push_lines.ensures.ok set own)

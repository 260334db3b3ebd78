use Rattle.desk_commands.proofs.TellingLemmas.{more_taken, none_taken}
use Rattle.desk_commands.proofs.telling.write_front.Goals as goal
use Rattle.desk_commands.proofs.telling.write_front.Goals.{in-Ok, in-Err}

pub loop-preserved : goal.loop-preserved
loop-preserved g c =
    let before = g.E.Write.contents c.args.err.now in
    let between = g.E.Write.contents c.loop.err in
    let after = g.E.Write.contents c.write.new.self in
    elim c.match-write.branch [
      | in-Ok w ↦ more_taken before between after c.args.bytes.now c.loop.done w.in-Ok.n c.match-write.done
          c.loop.invariant.0 c.loop.invariant.1 w.done-is w.in-Ok.ensures.bound w.in-Ok.ensures.bytes
      | in-Err w ↦ none_taken before between after c.args.bytes.now c.loop.done 0
          c.match-write.done c.loop.invariant.0 c.loop.invariant.1 w.done-is w.in-Err.ensures.bytes
    ]

-- People whose verdicts of a kind count. For private clauses.
use Rattle.std.specs.Prelude.{Bool}
use Rattle.grants.specs.private.Firsts.{has_counting}
use Rattle.grants.specs.declared.marks.Mark.{Mark}
use Rattle.grants.specs.declared.voters.Voters.{Voters}

abbrev pub counting : Voters → Mark → Bool
counting v = has_counting v.roster.now.says v.ceiling.now v.kind v.asker.now

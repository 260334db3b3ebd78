use Rattle.sudo_beyond.proofs.NameCases.{other_arg}
use Rattle.sudo_beyond.proofs.runs.one_other.Goals as goal

pub other-requires : goal.other-requires
other-requires c = other_arg c.args.number c.requires

use Rattle.sudo_beyond.proofs.NameCases.{other_host}
use Rattle.sudo_beyond.proofs.cases.host_cases.Goals as goal

pub name_cases-requires : goal.name_cases-requires
name_cases-requires c = other_host

use Rattle.sudo_beyond.proofs.PolicyLaws.{first_allows, second_denies}
use Rattle.sudo_beyond.proofs.laws.beyond_is_decided.Goals as goal

pub returns-clause-first : goal.returns-clause-first
returns-clause-first c = first_allows

pub returns-clause-second : goal.returns-clause-second
returns-clause-second c = second_denies

use Rattle.sudo_beyond.proofs.KeywordLemmas.{no_command, no_user, no_host, no_target}
use Rattle.sudo_beyond.proofs.laws.nothing_of_sudos_own.Goals as goal

pub returns-clause-commands : goal.returns-clause-commands
returns-clause-commands c = λ text es s. no_command es s.policy.each

pub returns-clause-users : goal.returns-clause-users
returns-clause-users c = λ text es s. no_user es s.policy.each

pub returns-clause-hosts : goal.returns-clause-hosts
returns-clause-hosts c = λ text es s. no_host es s.policy.each

pub returns-clause-targets : goal.returns-clause-targets
returns-clause-targets c = λ text es s. no_target es s.policy.each

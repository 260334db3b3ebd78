use Rattle.sudo_syntax.proofs.JoiningParts.{users_apart, runas_apart, hosts_apart, cmnds_apart}
use Rattle.sudo_syntax.proofs.line_laws.joined_definitions.Goals as goal

pub returns : goal.returns
returns c = record { users = users_apart; runas = runas_apart; hosts = hosts_apart; cmnds = cmnds_apart }

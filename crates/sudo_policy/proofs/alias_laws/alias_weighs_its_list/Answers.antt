use Rattle.sudo_policy.proofs.AliasPlaces.{users_weigh, runas_weigh, hosts_weigh, cmnds_weigh}
use Rattle.sudo_policy.proofs.alias_laws.alias_weighs_its_list.Goals as goal

pub returns : goal.returns
returns c = record { users = users_weigh; runas = runas_weigh; hosts = hosts_weigh; cmnds = cmnds_weigh }

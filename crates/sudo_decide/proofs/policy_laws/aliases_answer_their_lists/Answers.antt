use Rattle.sudo_decide.proofs.ListAnswers.{users_answer, runas_answer, hosts_answer, cmnds_answer}
use Rattle.sudo_decide.proofs.policy_laws.aliases_answer_their_lists.Goals as goal

pub returns : goal.returns
returns c = record { users = users_answer; runas = runas_answer; hosts = hosts_answer; cmnds = cmnds_answer }

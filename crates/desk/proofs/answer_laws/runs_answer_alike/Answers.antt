use Rattle.desk.proofs.AnswerLemmas.{same_count, same_count_after, same_file, same_file_after, same_live, same_parked, same_status, same_summaries, same_texts}
use Rattle.desk.proofs.answer_laws.runs_answer_alike.Goals as goal

pub returns-clause-status : goal.returns-clause-status
returns-clause-status c = same_status

pub returns-clause-live : goal.returns-clause-live
returns-clause-live c = same_live

pub returns-clause-parked : goal.returns-clause-parked
returns-clause-parked c = same_parked

pub returns-clause-file : goal.returns-clause-file
returns-clause-file c = same_file

pub returns-clause-count : goal.returns-clause-count
returns-clause-count c = same_count

pub returns-clause-file_after : goal.returns-clause-file_after
returns-clause-file_after c = same_file_after

pub returns-clause-count_after : goal.returns-clause-count_after
returns-clause-count_after c = same_count_after

pub returns-clause-summaries : goal.returns-clause-summaries
returns-clause-summaries c = same_summaries

pub returns-clause-texts : goal.returns-clause-texts
returns-clause-texts c = same_texts

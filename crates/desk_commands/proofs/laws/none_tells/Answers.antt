use Rattle.desk_commands.proofs.CaseLines.{told}
use Rattle.desk_commands.proofs.laws.none_tells.Goals as goal

pub returns-clause-text : goal.returns-clause-text
returns-clause-text c = λ scope a_file b_file a b status text is of_a of_b. (told scope a_file b_file a b status text is of_a of_b).by_text

pub returns-clause-status : goal.returns-clause-status
returns-clause-status c = λ scope a_file b_file a b status text is of_a of_b. (told scope a_file b_file a b status text is of_a of_b).by_status

use Rattle.sudo_syntax.proofs.Doubles.{text_2, sixteen_spell, weight_16, seventeen_none, weight_17}
use Rattle.sudo_syntax.proofs.worked_laws.worked_weights.Goals as goal

pub returns-clause-text : goal.returns-clause-text
returns-clause-text c = text_2

pub returns-clause-sixteen : goal.returns-clause-sixteen
returns-clause-sixteen c = sixteen_spell

pub returns-clause-weight_of_sixteen : goal.returns-clause-weight_of_sixteen
returns-clause-weight_of_sixteen c = weight_16

pub returns-clause-seventeen : goal.returns-clause-seventeen
returns-clause-seventeen c = seventeen_none

pub returns-clause-weight_of_seventeen : goal.returns-clause-weight_of_seventeen
returns-clause-weight_of_seventeen c = weight_17

use Rattle.std.proofs.Common.{refl}
use Rattle.sudo_words.specs.Word.{is_keyword}
use Rattle.sudo_words.proofs.laws.worked_names.Goals as goal

pub returns-clause-sudoedit : goal.returns-clause-sudoedit
unfolding is_keyword
returns-clause-sudoedit c = (refl, refl)

pub returns-clause-sha224 : goal.returns-clause-sha224
unfolding is_keyword
returns-clause-sha224 c = (refl, refl)

pub returns-clause-sha256 : goal.returns-clause-sha256
unfolding is_keyword
returns-clause-sha256 c = (refl, refl)

pub returns-clause-sha384 : goal.returns-clause-sha384
unfolding is_keyword
returns-clause-sha384 c = (refl, refl)

pub returns-clause-sha512 : goal.returns-clause-sha512
unfolding is_keyword
returns-clause-sha512 c = (refl, refl)

pub returns-clause-longer : goal.returns-clause-longer
unfolding is_keyword
returns-clause-longer c = (refl, refl)

pub returns-clause-label : goal.returns-clause-label
returns-clause-label c = refl

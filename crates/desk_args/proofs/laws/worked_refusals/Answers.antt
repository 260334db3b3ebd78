use Rattle.std.proofs.Common.{codes, refl}
use Rattle.desk_args.proofs.Addresses.{says_none}
use Rattle.desk_args.proofs.laws.worked_refusals.Goals as goal

pub returns-clause-letters : goal.returns-clause-letters
returns-clause-letters c = says_none (codes "127.0.0.1:x") refl refl

pub returns-clause-digits : goal.returns-clause-digits
returns-clause-digits c = says_none (codes "127.0.0.1:000080") refl refl

pub returns-clause-past : goal.returns-clause-past
returns-clause-past c = says_none (codes "127.0.0.1:65536") refl refl

pub returns-clause-signed : goal.returns-clause-signed
returns-clause-signed c = says_none (codes "127.0.0.1:+80") refl refl

pub returns-clause-relative : goal.returns-clause-relative
returns-clause-relative c = says_none (codes "unix:relative") refl refl

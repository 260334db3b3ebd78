use Rattle.std.proofs.Common.{codes, refl}
use Rattle.desk_args.proofs.Addresses.{says_port}
use Rattle.desk_args.proofs.laws.worked_addresses.Goals as goal

pub returns-clause-loopback : goal.returns-clause-loopback
returns-clause-loopback c = says_port (codes "127.0.0.1") (codes "0") (codes "127.0.0.1:0") refl (λ none. cc) refl refl

pub returns-clause-colons : goal.returns-clause-colons
returns-clause-colons c = says_port (codes "[::1]") (codes "8080") (codes "[::1]:8080") refl (λ none. cc) refl refl

pub returns-clause-greatest : goal.returns-clause-greatest
returns-clause-greatest c = says_port (codes "localhost") (codes "65535") (codes "localhost:65535") refl (λ none. cc) refl refl

pub returns-clause-named : goal.returns-clause-named
returns-clause-named c = says_port (codes "unix") (codes "80") (codes "unix:80") refl (λ none. cc) refl refl

-- What the exit of a `?` returns, where the error is known.
use Rattle.std.proofs.Common.{◌≡◌, ◌∙◌, Result, Err, ap}
use Rattle.std.specs.Prelude.{IsErrAnd}
use Rattle.std.proofs.lemmas.Result.{err_from_is_err_and}

pub is_err : {T E : Type 0} {e : E} (r : Result T E) → IsErrAnd r (λ y. y ≡ e) → r ≡ Err e
is_err r exit = let p = err_from_is_err_and r exit in p.1 ∙ ap (λ y. Err y) p.2

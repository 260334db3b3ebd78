use Rattle.std.proofs.Common.{◌≡◌, ℕ, Some, sym, subst}
use Rattle.relay_http.specs.RequestBytes.{IsNumber}
use Rattle.relay_http.proofs.NumberLemmas.{read_number}
use Rattle.relay_http.proofs.request.number_of.Goals as goal

pub returns-in-Some-clause-only : goal.returns-in-Some-clause-only
returns-in-Some-clause-only c = λ n is.
    let read = read_number c.as_bytes.result.now n (subst (λ t. IsNumber t n) (sym c.as_bytes.ensures.value) is) c.decimal_of.result c.decimal_of.ensures in
    let same : c.in-Some.number ≡ n = cc in
    subst (λ (k : ℕ). c.written.result ≡ Some k) same (c.written.ensures.only (subst (IsNumber c.args.text.now) (sym same) is))

pub returns-in-None-clause-only : goal.returns-in-None-clause-only
returns-in-None-clause-only c = λ n is.
    let read = read_number c.as_bytes.result.now n (subst (λ t. IsNumber t n) (sym c.as_bytes.ensures.value) is) c.decimal_of.result c.decimal_of.ensures in
    absurd cc

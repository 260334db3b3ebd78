use Rattle.std.proofs.Common.{◌≡◌, ℕ, ◌<◌, ◌^◌, length, arith, subst, sym, List}
use Rattle.std.specs.Str.{bytes_eq}
use Rattle.std.proofs.lemmas.Slice.Eq.{bytes_eq-Decides}
use Rattle.sudo_beyond.specs.Cases.{IsFirstOther, has_word, other}
use Rattle.std.proofs.lemmas.Result.{IfOk-weaker}
use Rattle.sudo_beyond.proofs.Others.{last_free}
use Rattle.sudo_beyond.proofs.other.first_other.Goals as goal

pub returns : goal.returns
returns g c =
    let words : List (List ℕ) = c.args.standing.now in
    let short : length words < 2 ^ 64 = omega arith in
    IfOk-weaker c.other-2.result (λ w. w ≡ other (length words)) (λ w. IsFirstOther (has_word words) w)
    (λ w is. subst (λ (v : List ℕ). IsFirstOther (has_word words) v) (sym is) (last_free bytes_eq bytes_eq-Decides (λ v. v)
    (λ v u same. same) words (length words) (omega arith) short (λ k below. c.loop-number.invariant k (omega arith)))) c.other-2.ensures

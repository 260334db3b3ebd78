use Rattle.std.proofs.Common.{◌≡◌, ℕ, ◌<◌, ◌^◌, ◌++◌, List, length, arith}
use Rattle.std.specs.Str.{bytes_eq}
use Rattle.std.proofs.lemmas.List.{append_cancel_left}
use Rattle.std.proofs.lemmas.Slice.Eq.{bytes_eq-Decides}
use Rattle.sudo_beyond.specs.Cases.{other}
use Rattle.sudo_beyond.specs.private.Gathering.{IsFreeFile}
use Rattle.std.proofs.lemmas.Result.{IfOk-weaker}
use Rattle.sudo_beyond.proofs.Others.{last_free}
use Rattle.sudo_beyond.proofs.runs.free_file.Goals as goal

pub returns : goal.returns
returns c =
    let dir : List ℕ = c.args.dir.now in
    let taken : List (List ℕ) = c.args.files.now in
    let n : ℕ = length taken in
    let small : n < 2 ^ 64 = omega arith in
    IfOk-weaker c.other_file-2.result (λ p. p ≡ dir ++ other n) (λ p. IsFreeFile taken dir p)
    (λ p is. (
      other n,
      is,
      last_free bytes_eq bytes_eq-Decides (λ w. dir ++ w) (λ v w same. append_cancel_left dir v w same) taken n (omega arith) small
          (λ k below. c.loop-number.invariant k (omega arith)),
    ))
    c.other_file-2.ensures

use Rattle.std.proofs.Common.{◌≡◌, ℕ, ◌<◌, ◌^◌, ◌∷◌, [], List, length, arith, refl, sym, ap, ◌∙◌, inl, inr}
use Rattle.std.specs.Cmp.Lexicographic.{pointwise}
use Rattle.std.specs.Str.{bytes_eq}
use Rattle.std.proofs.lemmas.Bool.{cases_order}
use Rattle.sudo_beyond.specs.Cases.{other, has_args}
use Rattle.sudo_beyond.specs.private.Gathering.{IsFreeArgs}
use Rattle.sudo_beyond.proofs.CmndCases.{args_decides}
use Rattle.std.proofs.lemmas.Result.{IfOk-weaker}
use Rattle.sudo_beyond.proofs.Others.{last_free}
use Rattle.sudo_beyond.proofs.RunLemmas.{args_either_way}
use Rattle.sudo_beyond.proofs.runs.free_args.Goals as goal

pub returns-then-not-is_among : goal.returns-then-not-is_among
returns-then-not-is_among c = (
  other c.loop-number.number,
  c.in_ok-args.ensures,
  record {
    number = c.loop-number.number;
    word_is = refl;
    free =
        ap (has_args c.args.lists.now) (sym c.in_ok-args.ensures)
        ∙ sym (args_either_way c.args.lists.now c.in_ok-args.args)
        ∙ sym c.is_among.ensures
        ∙ c.if-not-is_among.true;
    first = c.loop-number.invariant;
  },
)

pub loop-number-preserved : goal.loop-number-preserved
loop-number-preserved c = λ k below.
    let lists : List (List (List ℕ)) = c.args.lists.now in
    elim (cases_order k c.loop-number.number) [
      | inl e ↦
          ap (λ (j : ℕ). has_args lists (other j ∷ [])) e
          ∙ ap (has_args lists) (sym c.in_ok-args.ensures)
          ∙ sym (args_either_way lists c.in_ok-args.args)
          ∙ sym c.is_among.ensures
          ∙ c.if-not-is_among.false
      | inr (inl lower) ↦ c.loop-number.invariant k lower
      | inr (inr higher) ↦ absurd (omega arith)
    ]

pub returns : goal.returns
returns c =
    let lists : List (List (List ℕ)) = c.args.lists.now in
    let n : ℕ = length lists in
    let small : n < 2 ^ 64 = omega arith in
    IfOk-weaker c.one_other-2.result (λ args. args ≡ other n ∷ []) (λ args. IsFreeArgs lists args)
    (λ args is. (
      other n,
      is,
      last_free (λ y x. pointwise bytes_eq x y) args_decides (λ w. w ∷ []) (λ v w same. cc) lists n (omega arith) small
          (λ k below. c.loop-number.invariant k (omega arith)),
    ))
    c.one_other-2.ensures

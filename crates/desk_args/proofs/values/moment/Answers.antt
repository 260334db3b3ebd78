use Rattle.std.proofs.Common.{◌≡◌, ℕ, List, None, Some, refl, subst}
use Rattle.sudo_words.specs.Moment.{IsStamp}
use Rattle.desk_args.proofs.values.moment.Goals as goal

pub returns-in-None-clause-only : goal.returns-in-None-clause-only
returns-in-None-clause-only c = λ m h.
    let same : h.0 ≡ c.value.result.now = cc (h.1, c.value.ensures) in
    let none : None ≡ Some m = c.in-None.ensures.only m (subst (λ (t : List ℕ). IsStamp t m) same h.2) in
    cc

pub returns-in-None-clause-word : goal.returns-in-None-clause-word
returns-in-None-clause-word c = (
  refl,
  record {
    text = c.value.result.now;
    value = c.value.ensures;
    bad = λ m h. let none : None ≡ Some m = c.in-None.ensures.only m h in cc;
  },
)

use Rattle.std.proofs.Common.{sym, ◌∙◌, not, ap, inl, inr}
use Rattle.std.proofs.lemmas.Bool.{false≢true, not-true, cases_Bool}
use Rattle.sudo_compiled.specs.Compiled.{answer}
use Rattle.sudo_beyond.proofs.CompiledGaps.{not_both_answers}
use Rattle.sudo_beyond.proofs.decided.is_gap.Goals as goal

pub returns-then-allows : goal.returns-then-allows
returns-then-allows c = (
  λ is. record { allowed = c.allows.ensures.yes c.if-allows.true; refused = c.allows-then-allows.ensures.no (not-true c.allows-then-allows.result is) },
  λ gap.
      elim (cases_Bool c.allows-then-allows.result) [
        | inl also ↦ absurd (not_both_answers (answer c.args.b.now c.args.i.now) (c.allows-then-allows.ensures.yes also) gap.refused)
        | inr refuses ↦ ap not refuses
      ],
)

pub returns-else-allows : goal.returns-else-allows
returns-else-allows c = (
  λ is. absurd (false≢true (sym c.if-allows.false ∙ is)),
  λ gap. absurd (not_both_answers (answer c.args.a.now c.args.i.now) gap.allowed (c.allows.ensures.no c.if-allows.false)),
)

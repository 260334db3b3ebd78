use Rattle.std.proofs.Common.{◌≡◌, [], ◌∷◌}
use Rattle.std.proofs.lemmas.Result.{IfOk-weaker}
use Rattle.messages.specs.declared.message.Message.TheVariants.{Request}
use Rattle.grants.specs.Summaries.{Kept, StandsFor}
use Rattle.outcomes.proofs.RowLemmas.{both_of, other, row_double, row_single}
use Rattle.outcomes.proofs.gathering.summary_of.Goals as goal

pub returns-then-row-clause-stands : goal.returns-then-row-clause-stands
returns-then-row-clause-stands c = λ set bare is.
    let row = c.args.row.now in
    let r = c.ask_disputed.result in
    let beside = other set row bare is c.if-row.true in
    let Both : Kept → Type 0 = StandsFor (Request row.request ∷ Request beside.0 ∷ []) in
    let Same : Kept → Type 0 = λ k. k.request ≡ row.request in
    IfOk-weaker r (λ k. Both k × Same k) (StandsFor set) (λ k both. row_double set row bare is c.if-row.true k both.1 both.0)
    (both_of r Both Same (c.ask_disputed.ensures.stands beside.0 beside.2 beside.3) c.ask_disputed.ensures.same_request)

pub returns-else-row-clause-stands : goal.returns-else-row-clause-stands
returns-else-row-clause-stands c = λ set bare is.
    let row = c.args.row.now in
    IfOk-weaker c.ask.result (StandsFor (Request row.request ∷ [])) (StandsFor set)
    (λ k stands. row_single set row bare is k stands c.if-row.false) c.ask.ensures.stands

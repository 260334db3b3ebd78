use Rattle.std.proofs.Common.{ap, inl, map}
use Rattle.desk.specs.Delivery.{delivery_of}
use Rattle.desk_commands.proofs.LeavingLemmas.{all_delivered, if_err}
use Rattle.desk_store.proofs.ServingLemmas.{served_as}
use Rattle.desk_commands.proofs.WantLemmas.{shown_refused, wanting_as}
use Rattle.desk_commands.specs.declared.refusal.JobRefusal.TheVariants.{Desk, NoMemory}
use Rattle.desk_commands.proofs.delivering.deliver_to.Goals as goal

pub returns-in_err-text_of-clause-left : goal.returns-in_err-text_of-clause-left
returns-in_err-text_of-clause-left g c = λ up.
    let K = g.K.Keeper in
    if_err c.from_residual-in_err-text_of.result (all_delivered c.args.desk.now.roster.says (g.R.Read.remaining c.args.input.now) c.args.relay.now
    (map delivery_of c.in_ok-lines.lines.items) _ c.in_ok-answers.answers.items (K.holds c.args.desk.now.keeper) (K.holds c.deliver_all.new.self.keeper)
    c.in_ok-lines.ensures.read (ap (map delivery_of) c.as_slice.ensures.value) c.in_ok-answers.ensures.answers (c.in_ok-answers.ensures.held up))

-- memory was wanting before anything was delivered, or for the text of the answers
pub returns-in_err-answers-clause-served : goal.returns-in_err-answers-clause-served
returns-in_err-answers-clause-served g c =
    let told = c.from_residual-in_err-answers in
    served_as ⊥ _ (λ none. absurd none) (λ _. shown_refused told.result
    (wanting_as (Desk c.in_err-answers.field-0.0) told.result told.ensures.1 (inl c.in_err-answers.ensures.err))) c.deliver_all.ensures.served

pub returns-in_err-text_of-clause-served : goal.returns-in_err-text_of-clause-served
returns-in_err-text_of-clause-served g c =
    let told = c.from_residual-in_err-text_of in
    served_as ⊥ _ (λ none. absurd none) (λ _. shown_refused told.result (wanting_as NoMemory told.result told.ensures.1 tt)) c.deliver_all.ensures.served

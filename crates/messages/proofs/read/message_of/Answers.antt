use Rattle.std.proofs.Common.{◌∙◌, sym, ap}
use Rattle.std.proofs.lemmas.Result.{err_from_is_err_and}
use Rattle.json.specs.Value.{value_view}
use Rattle.messages.specs.declared.message.Message.TheVariants.{Request, Verdict}
use Rattle.messages.proofs.KindLemmas.{kind_of, kind_found, asked_from, answered_from}
use Rattle.messages.proofs.read.message_of.Goals as goal

pub returns-in_err-name-clause-only : goal.returns-in_err-name-clause-only
returns-in_err-name-clause-only c = λ m h e. absurd (c.in_err-name.ensures.only (kind_of m) (kind_found m (value_view c.args.value.now) e))

pub returns-in_err-request_of-clause-only : goal.returns-in_err-request_of-clause-only
returns-in_err-request_of-clause-only c = λ m h e.
    let name = c.in_ok-name.ensures.only (kind_of m) (kind_found m (value_view c.args.value.now) e) in
    let asked = asked_from m c.in_ok-name.name.now h name (sym c.eq.ensures ∙ c.if-eq.true) in
    let p = err_from_is_err_and c.from_residual-in_err-request_of.result c.from_residual-in_err-request_of.ensures.1 in
    rw (p.1, p.2) (c.in_err-request_of.ensures.only asked.fields asked.valid (e ∙ asked.tree))

pub returns-then-eq-clause-only : goal.returns-then-eq-clause-only
returns-then-eq-clause-only c = λ m h e.
    let name = c.in_ok-name.ensures.only (kind_of m) (kind_found m (value_view c.args.value.now) e) in
    let asked = asked_from m c.in_ok-name.name.now h name (sym c.eq.ensures ∙ c.if-eq.true) in
    ap Request (c.in_ok-request_of.ensures.only asked.fields asked.valid (e ∙ asked.tree)) ∙ sym asked.message

pub returns-in_err-kind-clause-only : goal.returns-in_err-kind-clause-only
returns-in_err-kind-clause-only c = λ m h e.
    let name = c.in_ok-name.ensures.only (kind_of m) (kind_found m (value_view c.args.value.now) e) in
    let answered = answered_from m c.in_ok-name.name.now h name (sym c.eq.ensures ∙ c.if-eq.false) in
    absurd (c.in_err-kind.ensures.only answered.fields.kind (name ∙ answered.kind))

pub returns-in_err-verdict_of-clause-only : goal.returns-in_err-verdict_of-clause-only
returns-in_err-verdict_of-clause-only c = λ m h e.
    let name = c.in_ok-name.ensures.only (kind_of m) (kind_found m (value_view c.args.value.now) e) in
    let answered = answered_from m c.in_ok-name.name.now h name (sym c.eq.ensures ∙ c.if-eq.false) in
    let kind = c.in_ok-kind.ensures.only answered.fields.kind (name ∙ answered.kind) in
    let p = err_from_is_err_and c.from_residual-in_err-verdict_of.result c.from_residual-in_err-verdict_of.ensures.1 in
    rw (p.1, p.2) (c.in_err-verdict_of.ensures.only answered.fields answered.valid (sym kind) (e ∙ answered.tree))

pub returns-clause-only : goal.returns-clause-only
returns-clause-only c = λ m h e.
    let name = c.in_ok-name.ensures.only (kind_of m) (kind_found m (value_view c.args.value.now) e) in
    let answered = answered_from m c.in_ok-name.name.now h name (sym c.eq.ensures ∙ c.if-eq.false) in
    let kind = c.in_ok-kind.ensures.only answered.fields.kind (name ∙ answered.kind) in
    ap Verdict (c.in_ok-verdict_of.ensures.only answered.fields answered.valid (sym kind) (e ∙ answered.tree)) ∙ sym answered.message

use Rattle.std.proofs.Common.{ℕ, ◌∙◌, subst, sym}
use Rattle.desk_store.specs.Keeping.{HasFailed}
use Rattle.relay_http.proofs.ExchangeLemmas.{all_ask, all_changes, all_queries, exchange_served, failure_seen, holds_of_all}
use Rattle.relay_http.proofs.serving.serve_one.Goals as goal

pub returns-in_default-receive_whole-clause-read_failed : goal.returns-in_default-receive_whole-clause-read_failed
returns-in_default-receive_whole-clause-read_failed g c = λ _.
    subst (λ (n : ℕ). HasFailed c.args.reader.now.failures n) (sym c.in_default-receive_whole.ensures.counted) (failure_seen c.args.reader.now.failures)

pub returns-in-Ok-respond_to-clause-exchange : goal.returns-in-Ok-respond_to-clause-exchange
returns-in-Ok-respond_to-clause-exchange g c =
    let x = c.in-Ok-respond_to.ensures.exchange in
    let asks = all_ask c.args.offered _ (g.R.Read.remaining c.args.reader.now.inner) _ x.0
    (c.in-Ok-receive_whole.ensures.socket ∙ c.in-Ok-with_room.ensures.socket) x.1 c.in-Ok-receive_whole.ensures.asks in
    λ _. holds_of_all c.args.offered _ (g.R.Read.remaining c.args.reader.now.inner) x.0 asks x.2

pub returns-in-Ok-respond_to-clause-served : goal.returns-in-Ok-respond_to-clause-served
returns-in-Ok-respond_to-clause-served g c = let x = c.in-Ok-respond_to.ensures.exchange in exchange_served _ _ _ _ _ _ _ x.0 x.2

pub returns-in-Ok-respond_to-clause-queries : goal.returns-in-Ok-respond_to-clause-queries
returns-in-Ok-respond_to-clause-queries g c =
    let x = c.in-Ok-respond_to.ensures.exchange in
    let asks = all_ask c.args.offered _ (g.R.Read.remaining c.args.reader.now.inner) _ x.0
    (c.in-Ok-receive_whole.ensures.socket ∙ c.in-Ok-with_room.ensures.socket) x.1 c.in-Ok-receive_whole.ensures.asks in
    λ _ up. all_queries _ _ _ _ _ _ _ c.args.offered (g.R.Read.remaining c.args.reader.now.inner) x.0 asks x.2 up

pub returns-in-Ok-respond_to-clause-changes : goal.returns-in-Ok-respond_to-clause-changes
returns-in-Ok-respond_to-clause-changes g c =
    let x = c.in-Ok-respond_to.ensures.exchange in
    let asks = all_ask c.args.offered _ (g.R.Read.remaining c.args.reader.now.inner) _ x.0
    (c.in-Ok-receive_whole.ensures.socket ∙ c.in-Ok-with_room.ensures.socket) x.1 c.in-Ok-receive_whole.ensures.asks in
    λ _ up. all_changes _ _ _ _ _ _ _ c.args.offered (g.R.Read.remaining c.args.reader.now.inner) x.0 asks x.2 up

pub returns-clause-exchange : goal.returns-clause-exchange
returns-clause-exchange g c =
    let x = c.in-Err.ensures.exchange in
    let asks = all_ask c.args.offered _ (g.R.Read.remaining c.args.reader.now.inner) _ x.0
    (c.in-Ok-receive_whole.ensures.socket ∙ c.in-Ok-with_room.ensures.socket) x.1 c.in-Ok-receive_whole.ensures.asks in
    λ _. holds_of_all c.args.offered _ (g.R.Read.remaining c.args.reader.now.inner) x.0 asks x.2

pub returns-clause-served : goal.returns-clause-served
returns-clause-served g c = let x = c.in-Err.ensures.exchange in exchange_served _ _ _ _ _ _ _ x.0 x.2

pub returns-clause-queries : goal.returns-clause-queries
returns-clause-queries g c =
    let x = c.in-Err.ensures.exchange in
    let asks = all_ask c.args.offered _ (g.R.Read.remaining c.args.reader.now.inner) _ x.0
    (c.in-Ok-receive_whole.ensures.socket ∙ c.in-Ok-with_room.ensures.socket) x.1 c.in-Ok-receive_whole.ensures.asks in
    λ _ up. all_queries _ _ _ _ _ _ _ c.args.offered (g.R.Read.remaining c.args.reader.now.inner) x.0 asks x.2 up

pub returns-clause-changes : goal.returns-clause-changes
returns-clause-changes g c =
    let x = c.in-Err.ensures.exchange in
    let asks = all_ask c.args.offered _ (g.R.Read.remaining c.args.reader.now.inner) _ x.0
    (c.in-Ok-receive_whole.ensures.socket ∙ c.in-Ok-with_room.ensures.socket) x.1 c.in-Ok-receive_whole.ensures.asks in
    λ _ up. all_changes _ _ _ _ _ _ _ c.args.offered (g.R.Read.remaining c.args.reader.now.inner) x.0 asks x.2 up

pub returns-in-Ok-respond_to-clause-unfailing : goal.returns-in-Ok-respond_to-clause-unfailing
returns-in-Ok-respond_to-clause-unfailing g c = (c.in-Ok-receive_whole.ensures.counted, c.in-Ok-respond_to.ensures.counted)

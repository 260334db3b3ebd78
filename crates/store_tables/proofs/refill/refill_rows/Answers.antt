use Rattle.std.proofs.Common.{◌∙◌, ◌++◌, ◌∷◌, [], ap, sym, take}
use Rattle.std.proofs.lemmas.List.{take_more}
use Rattle.sqlite.specs.Held.{state}
use Rattle.store_tables.proofs.RefillLemmas.{before_differs, known_at, known_before, refilling_more}
use Rattle.store_tables.proofs.refill.refill_rows.Goals as goal

pub loop-message-preserved : goal.loop-message-preserved
loop-message-preserved g c =
    let a = state g.S.Store c.args.tx.now.conn.now in
    let b = state g.S.Store c.loop-message.tx.conn.now in
    let d = state g.S.Store c.refill_one.new.tx.conn.now in
    let ms = c.args.messages.now in
    let i = c.loop-message.message-index in
    let m = c.message-item.result in
    let within = c.loop-message-test.true in
    let at = c.message-item.is in
    let more = take_more ms i m within ∙ ap (λ x. take i ms ++ x ∷ []) (sym at) in (
      c.refill_one.ensures.step.same_reference ∙ c.loop-message.invariant.0,
      refilling_more _ _ m a b d more (known_at ms i m c.requires.messages within at)
          (λ n there. (known_before ms i n c.requires.messages there, before_differs ms i m c.requires.once within at n there))
          c.loop-message.invariant.1 c.refill_one.ensures.step.states (λ clean inside. c.in_ok-refill_one.ensures.settled clean inside),
    )

use Rattle.std.proofs.Common.{◌≤◌, ◌∙◌, ◌++◌, ap, arith, take, ◌≡◌, ℕ, List}
use Rattle.relay_http.proofs.OutgoingLemmas.{left_of_body, left_in_buffer, took}
use Rattle.relay_http.proofs.outgoing.write_on.Goals as goal

pub returns-then-sent-head-clause-taken : goal.returns-then-sent-head-clause-taken
returns-then-sent-head-clause-taken g c =
    took _ _ c.write.result _ _ (left_of_body c.args.head.now c.args.body.now c.args.sent c.if-sent-head.true) c.write.ensures.bytes

pub returns-clause-taken : goal.returns-clause-taken
returns-clause-taken g c =
    let both : take c.put-end-2.result c.put-end-2.new.buffer ≡ c.args.head.now ++ c.args.body.now =
    c.put-end-2.ensures.put ∙ ap (λ (l : List ℕ). l ++ c.args.body.now) c.put-end.ensures.put in
    let within : c.args.sent ≤ c.put-end-2.result = omega (arith, c.put-end-2.ensures.end, c.put-end.ensures.end, c.if-sent-head.false) in
    took _ _ c.write-2.result _ _ (left_in_buffer c.put-end-2.new.buffer (c.args.head.now ++ c.args.body.now) c.args.sent c.put-end-2.result within both)
    c.write-2.ensures.bytes

use Rattle.std.proofs.Common.{rules, ◌≡◌, ◌++◌, ◌∷◌, [], List}
use Rattle.sqlite.specs.Order.{column}
use Rattle.messages.specs.declared.message.Message.{Message}
use Rattle.store_opening.specs.private.Reading.{AreBodies, IsKeepable, body}
use Rattle.store_opening.proofs.ReadingLemmas.{bodies_more}
use Rattle.store_opening.proofs.reading.all_stored.Goals as goal

pub loop-row-preserved : goal.loop-row-preserved
loop-row-preserved c =
    let both : (column c.in-Some.row 0 ≡ body c.in-Some-2.one) × IsKeepable c.in-Some-2.one = search rules in
    let more = bodies_more c.loop-row.yielded c.loop-row.all.items c.in-Some.row c.in-Some-2.one c.loop-row.invariant both in
    let P : List Message → Type 0 = λ ms. AreBodies (c.loop-row.yielded ++ c.in-Some.row ∷ []) ms in
    rw c.in_ok-push.ensures.items more

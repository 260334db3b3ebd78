use Rattle.std.proofs.Common.{List, [], ◌∷◌, ◌++◌, reverse, sym, subst}
use Rattle.messages.specs.declared.message.Message.{Message}
use Rattle.outcomes.specs.Gathered.{AreGathered}
use Rattle.desk_store.proofs.TakenIn.{TakenIn, one_taken}
use Rattle.desk_store.proofs.gathering.known_of.Goals as goal

pub loop-stored-preserved : goal.loop-stored-preserved
loop-stored-preserved c =
    let all = reverse c.reverse.new.self.items in
    let more = c.take-taken.new.self in
    subst (λ (left : List Message). TakenIn all left more) (sym c.give_back.ensures)
    (one_taken all c.loop-stored.left.items c.pop.new.self.items c.in-Some.stored c.loop-stored.gathered more c.in-Some.ensures.items
    (λ set are. subst (λ (m : Message). AreGathered (set ++ m ∷ []) more) c.message.ensures.value (c.in_ok-taken.ensures.ok set are))
    c.loop-stored.invariant)

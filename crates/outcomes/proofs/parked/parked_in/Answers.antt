use Rattle.std.proofs.Common.{ap, ◌∙◌, map}
use Rattle.messages.specs.Wire.{verdict_text}
use Rattle.outcomes.specs.Gathered.{Known}
use Rattle.outcomes.proofs.ParkedLemmas.{are_parked}
use Rattle.outcomes.proofs.parked.parked_in.Goals as goal

pub returns : goal.returns
returns c = λ set are.
    let waiting = c.in_ok-texts.ensures ∙ ap (λ (k : Known). map verdict_text k.waiting) c.gathered.view_is in
    are_parked set c.args.gathered.now are c.in_ok-texts.texts.items c.sort_unstable.new.self.items c.dedup.new.self.items
    waiting c.sort_unstable.ensures.permutation c.sort_unstable.ensures.sorted c.dedup.ensures.filtered

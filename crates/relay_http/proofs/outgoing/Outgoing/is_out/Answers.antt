use Rattle.std.proofs.Common.{◌+◌, ◌∙◌, List, ℕ, ap, leb, length, take}
use Rattle.relay_http.specs.Outgoing.{part_of}
use Rattle.relay_http.proofs.OutgoingLemmas.{none_left}
use Rattle.relay_http.proofs.outgoing.Outgoing.is_out.Goals as goal

pub returns : goal.returns
returns c =
    let o = c.self.inside in
    ap (λ (l : List ℕ). leb (length (take o.end o.head) + length l) o.sent) c.part.ensures
    ∙ none_left (take o.end o.head) (part_of o.body o.with_body) c.args.self.now o.sent c.self.view_is c.self.invariant.1

use Rattle.std.proofs.lemmas.Bool.Decides.{Decides-eqb}
use Rattle.std.proofs.lemmas.Slice.Eq.{strip_prefix_is}
use Rattle.messages.proofs.Passing.{past_front}
use Rattle.messages.proofs.same_text.past.Goals as goal

pub returns : goal.returns
returns c =
    let rest = c.in_ok-rest.field-0 in
    let cut = strip_prefix_is Decides-eqb rest.now c.as_bytes.result.now c.strip_prefix.result c.strip_prefix.ensures.cases in
    rw (c.in_ok-rest.was, ← c.as_bytes.ensures.value) (past_front rest c.strip_prefix.result cut)

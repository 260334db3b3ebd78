use Rattle.std.proofs.Common.{Option, subst, sym}
use Rattle.std.specs.Option.{IfSome}
use Rattle.std.specs.BTreeSet.{BTreeSet}
use Rattle.messages.specs.declared.request_name.RequestName.{RequestName}
use Rattle.suspects.specs.LookedAt.{AreKnownSuspects}
use Rattle.desk.specs.declared.loading.Known.{Known}
use Rattle.desk.specs.private.Known.{IsKnownIn}
use Rattle.desk.proofs.loading.with_message.Goals as goal

pub returns-in-Ok-clause-more : goal.returns-in-Ok-clause-more
returns-in-Ok-clause-more c = λ f set lacks of.
    let k = subst (λ (o : Option Known). IfSome o (IsKnownIn f set)) c.in-Some.is of in
    let before = subst (λ (o : Option (BTreeSet RequestName)). AreKnownSuspects f set o) (sym c.take.ensures.value) k.2 in
    (c.in-Ok.ensures.ok set k.0, c.one_more-known.ensures set c.args.message.now lacks k.1, c.with_suspect.ensures f set before)

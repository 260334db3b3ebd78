use Rattle.std.proofs.Common.{Option, subst}
use Rattle.std.specs.BTreeSet.{BTreeSet}
use Rattle.messages.specs.declared.request_name.RequestName.{RequestName}
use Rattle.suspects.specs.LookedAt.{AreKnownSuspects, AreSuspects}
use Rattle.suspects.proofs.SuspectLemmas.{suspects_more}
use Rattle.suspects.proofs.suspects.with_suspect.Goals as goal

pub returns-in-Ok : goal.returns-in-Ok
returns-in-Ok c = λ f set of.
    let old = c.in-Some.names in
    let before : AreSuspects f set old.keys = subst (λ (o : Option (BTreeSet RequestName)). AreKnownSuspects f set o) c.in-Some.is of in
    suspects_more f set c.args.message.now old.keys c.add_name.new.names.keys before c.in-Ok.ensures.here c.in-Ok.ensures.stays

use Rattle.std.proofs.Common.{◌≢◌, sym, subst}
use Rattle.messages.specs.Names.{SameName}
use Rattle.grants.specs.Summaries.{Kept, StandsFor}
use Rattle.grants.proofs.StandLemmas.{disputed}
use Rattle.grants.proofs.summary.dispute.Goals as goal

pub returns-clause-stands : goal.returns-clause-stands
returns-clause-stands c = λ set p named other s.
    let k : Kept = record {
      request = c.s.inside.request;
      is_disputed = c.s.inside.is_disputed;
      approvals = c.s.inside.approvals.keys;
      refusals = c.s.inside.refusals.keys;
      revocations = c.s.inside.revocations.keys;
    } in
    let same = subst (λ (x : Kept). SameName p x.request) (sym c.s.view_is) named in
    let differ = subst (λ (x : Kept). p ≢ x.request) (sym c.s.view_is) other in
    let stands = subst (λ (x : Kept). StandsFor set x) (sym c.s.view_is) s in
    disputed set k p same (λ e. differ (sym e)) stands

use Rattle.std.proofs.Common.{sym, ap, subst, ◌∙◌}
use Rattle.std.proofs.lemmas.Bool.{iff_false}
use Rattle.messages.specs.Names.{SameName}
use Rattle.grants.specs.Summaries.{Kept, StandsFor}
use Rattle.grants.proofs.StandLemmas.{disputed, repeated}
use Rattle.grants.proofs.summary.ask_again.Goals as goal

pub returns-then-not-is_same-clause-stands : goal.returns-then-not-is_same-clause-stands
returns-then-not-is_same-clause-stands c = λ set s.
    let k : Kept = record {
      request = c.s.inside.request;
      is_disputed = c.s.inside.is_disputed;
      approvals = c.s.inside.approvals.keys;
      refusals = c.s.inside.refusals.keys;
      revocations = c.s.inside.revocations.keys;
    } in
    let q = c.args.request.now in
    let named = subst (λ (x : Kept). SameName q x.request) (sym c.s.view_is) c.requires in
    let stands = subst (λ (x : Kept). StandsFor set x) (sym c.s.view_is) s in
    disputed set k q named (iff_false c.is_same.ensures c.if-not-is_same.true) stands

pub returns-else-not-is_same-clause-stands : goal.returns-else-not-is_same-clause-stands
returns-else-not-is_same-clause-stands c = λ set s.
    repeated set c.args.s.now c.args.request.now (ap (λ (x : Kept). x.request) (sym c.s.view_is) ∙ c.is_same.ensures.0 c.if-not-is_same.false) s

use Rattle.std.proofs.Common.{sym, subst, ◌∙◌}
use Rattle.std.proofs.lemmas.Result.{on_ok_weaker}
use Rattle.messages.specs.Names.{IsAbout}
use Rattle.grants.specs.Summaries.{Kept, StandsFor}
use Rattle.grants.proofs.StandLemmas.{approved, refused, revoked}
use Rattle.grants.proofs.summary.apply.Goals as goal

pub returns-in-Approve-clause-ok : goal.returns-in-Approve-clause-ok
returns-in-Approve-clause-ok c = λ set s.
    let k : Kept = record {
      request = c.s.inside.request;
      is_disputed = c.s.inside.is_disputed;
      approvals = c.s.inside.approvals.keys;
      refusals = c.s.inside.refusals.keys;
      revocations = c.s.inside.revocations.keys;
    } in
    let v = c.args.verdict.now in
    let about = subst (λ (x : Kept). IsAbout x.request v) (sym c.s.view_is) c.requires in
    let stands = subst (λ (x : Kept). StandsFor set x) (sym c.s.view_is) s in
    on_ok_weaker c.note.result (λ d. approved set k v c.by.result.now c.at.result c.note.new.marks.keys about
    (sym c.kind.ensures.value ∙ c.in-Approve.is) c.by.ensures.value c.at.ensures.value d stands) c.note.ensures.ok

pub returns-in-Refuse-clause-ok : goal.returns-in-Refuse-clause-ok
returns-in-Refuse-clause-ok c = λ set s.
    let k : Kept = record {
      request = c.s.inside.request;
      is_disputed = c.s.inside.is_disputed;
      approvals = c.s.inside.approvals.keys;
      refusals = c.s.inside.refusals.keys;
      revocations = c.s.inside.revocations.keys;
    } in
    let v = c.args.verdict.now in
    let about = subst (λ (x : Kept). IsAbout x.request v) (sym c.s.view_is) c.requires in
    let stands = subst (λ (x : Kept). StandsFor set x) (sym c.s.view_is) s in
    on_ok_weaker c.note-in-Refuse.result (λ d. refused set k v c.by-in-Refuse.result.now c.at-in-Refuse.result c.note-in-Refuse.new.marks.keys about
    (sym c.kind.ensures.value ∙ c.in-Refuse.is) c.by-in-Refuse.ensures.value c.at-in-Refuse.ensures.value d stands) c.note-in-Refuse.ensures.ok

pub returns-in-Revoke-clause-ok : goal.returns-in-Revoke-clause-ok
returns-in-Revoke-clause-ok c = λ set s.
    let k : Kept = record {
      request = c.s.inside.request;
      is_disputed = c.s.inside.is_disputed;
      approvals = c.s.inside.approvals.keys;
      refusals = c.s.inside.refusals.keys;
      revocations = c.s.inside.revocations.keys;
    } in
    let v = c.args.verdict.now in
    let about = subst (λ (x : Kept). IsAbout x.request v) (sym c.s.view_is) c.requires in
    let stands = subst (λ (x : Kept). StandsFor set x) (sym c.s.view_is) s in
    on_ok_weaker c.note-in-Revoke.result (λ d. revoked set k v c.by-in-Revoke.result.now c.at-in-Revoke.result c.note-in-Revoke.new.marks.keys about
    (sym c.kind.ensures.value ∙ c.in-Revoke.is) c.by-in-Revoke.ensures.value c.at-in-Revoke.ensures.value d stands) c.note-in-Revoke.ensures.ok

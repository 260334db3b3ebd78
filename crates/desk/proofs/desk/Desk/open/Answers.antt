use Rattle.std.proofs.Common.{rules, ◌≡◌, ◌∙◌, Err, ap, inl, subst, sym}
use Rattle.grants.specs.Bases.{FitsBase}
use Rattle.desk_store.proofs.ServingLemmas.{no_want, served_as}
use Rattle.desk_store.specs.Left.{AddsOnly}
use Rattle.desk.specs.Crash.{IsMadeByOpening}
use Rattle.desk.specs.declared.refusal.Refusal.TheVariants.{Storage}
use Rattle.desk.specs.Refusals.{IsWant}
use Rattle.desk.specs.Opening.{Opens}
use Rattle.desk.proofs.CrashLemmas.{of_roster}
use Rattle.desk.proofs.KnownLemmas.{at_first}
use Rattle.desk.proofs.LeftLemmas.{known_of_up}
use Rattle.desk.proofs.OpeningLemmas.{refused_over}
use Rattle.desk.proofs.desk.Desk.open.Goals as goal

-- ---- the desk that is opened

pub invariant_of-result : goal.invariant_of-result
invariant_of-result g c =
    let K = g.K.Keeper in
    let new = c.find_or_make.new.keeper in
    let fits : FitsBase c.args.base = search rules in
    let text : c.text.result.now ≡ c.args.roster.text = search rules in
    let known =
    at_first c.args.roster.says (K.is_up new) (K.holds new) c.in-Ok.origin c.known_at_first.result c.known_at_first.ensures
    c.in-Ok.ensures.first in (
      subst FitsBase (sym c.new.ensures) fits,
      c.in-Ok.ensures.desk,
      λ up. c.in-Ok.ensures.roster up ∙ text,
      c.in-Ok.ensures.durable,
      known,
      known_of_up (K.is_clean new) (K.is_up new) c.known_at_first.result c.in-Ok.ensures.live,
      tt,
      inl c.new-in-Ok.ensures.bytes,
    )

pub returns-in-Ok-clause-opens : goal.returns-in-Ok-clause-opens
returns-in-Ok-clause-opens g c up =
    let K = g.K.Keeper in
    let old = c.args.keeper in
    let text : c.text.result.now ≡ c.args.roster.text = search rules in
    subst (λ t. Opens (K.is_empty old) (K.is_desk old) (K.is_old old) (K.roster old) t (K.holds old) (K.holds c.find_or_make.new.keeper)) text
    (c.in-Ok.ensures.opens up)

pub returns-in-Ok-clause-lasting : goal.returns-in-Ok-clause-lasting
returns-in-Ok-clause-lasting g c up clean =
    let K = g.K.Keeper in
    let new = c.find_or_make.new.keeper in
    let still = no_want (c.in-Ok.ensures.served.up up clean) in
    let text : c.text.result.now ≡ c.args.roster.text = search rules in
    of_roster (K.may_leave new) c.args.roster.text (K.roster new) (K.holds new) (c.in-Ok.ensures.roster still ∙ text) (c.in-Ok.ensures.durable still)

pub returns-in-Ok-clause-served : goal.returns-in-Ok-clause-served
returns-in-Ok-clause-served g c = served_as ⊥ ⊥ (λ none. absurd none) (λ none. none) c.in-Ok.ensures.served

-- ---- and why there is none

pub returns-in-Err-clause-served : goal.returns-in-Err-clause-served
returns-in-Err-clause-served g c = served_as (c.in-Err.refusal ≡ Storage) (IsWant c.in-Err.refusal) (λ is. ap Err is) (λ want. want) c.in-Err.ensures.served

pub returns-in-Err-clause-refused : goal.returns-in-Err-clause-refused
returns-in-Err-clause-refused g c up =
    let K = g.K.Keeper in
    let old = c.args.keeper in
    let fits : FitsBase c.args.base = search rules in
    let text : c.text.result.now ≡ c.args.roster.text = search rules in
    refused_over (FitsBase c.args.base) (K.is_empty old) (K.is_desk old) (K.is_old old)
    (K.roster old) c.text.result.now c.args.roster.text c.in-Err.refusal fits text c.in-Err.ensures.fits (c.in-Err.ensures.refused up)

-- ---- what was committed

pub returns-in-Ok-clause-leaves : goal.returns-in-Ok-clause-leaves
returns-in-Ok-clause-leaves g c clean =
    let K = g.K.Keeper in
    let old = c.args.keeper in
    let new = c.find_or_make.new.keeper in
    let text : c.text.result.now ≡ c.args.roster.text = search rules in
    subst (λ t. AddsOnly (K.may_leave old) (K.may_leave new) (IsMadeByOpening (K.is_up old) (K.is_empty old) t)) text (c.in-Ok.ensures.leaves clean)

pub returns-in-Err-clause-leaves : goal.returns-in-Err-clause-leaves
returns-in-Err-clause-leaves g c clean =
    let K = g.K.Keeper in
    let old = c.args.keeper in
    let new = c.find_or_make.new.keeper in
    let text : c.text.result.now ≡ c.args.roster.text = search rules in
    subst (λ t. AddsOnly (K.may_leave old) (K.may_leave new) (IsMadeByOpening (K.is_up old) (K.is_empty old) t)) text (c.in-Err.ensures.leaves clean)

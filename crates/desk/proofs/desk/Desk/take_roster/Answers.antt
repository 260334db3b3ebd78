use Rattle.std.proofs.Common.{rules, ◌≡◌, ◌∙◌, Err, inl, subst, sym}
use Rattle.desk_store.specs.Left.{AddsOnly, IsCommitted, IsDeskOf, LeavesOnly}
use Rattle.desk_store.proofs.OutcomeLemmas.{ok_no_err}
use Rattle.desk_store.proofs.ServingLemmas.{served_at_ok}
use Rattle.desk.specs.Crash.{IsLeftByTaking}
use Rattle.desk.specs.private.Known.{IsKnown, IsKnownOfUp}
use Rattle.desk.proofs.CrashLemmas.{of_roster, taken_or_not}
use Rattle.desk.proofs.KnownLemmas.{known_under}
use Rattle.desk.proofs.LeftLemmas.{known_of_up}
use Rattle.desk.proofs.RefusalLemmas.{handed_on, is_want}
use Rattle.desk.proofs.desk.Desk.take_roster.Goals as goal

pub replace-requires : goal.replace-requires
replace-requires g c up = inl (c.self.invariant.1 up)

-- ---- the desk with the new roster

pub invariant_of-self : goal.invariant_of-self
invariant_of-self g c =
    let K = g.K.Keeper in
    let old = c.self.inside.keeper in
    let new = c.replace.new.self in
    let f = c.self.inside.roster.says in
    let text : c.text.result.now ≡ c.args.roster.text = search rules in
    let known = subst (IsKnown f (K.is_up old) (K.holds old)) (sym c.take-known.ensures.value) c.self.invariant.4 in (
      c.self.invariant.0,
      λ up. c.in-Ok.ensures.desk up,
      λ up. c.in-Ok.ensures.recorded up ∙ text,
      λ up left may. (c.replace.ensures.durable up left may).desk (c.in-Ok.ensures.desk up),
      known_under f c.args.roster.says (K.is_up old) (K.is_up new) (K.holds old) (K.holds new) c.take-known.result c.under_another.result known
          c.replace.ensures.served.was_up (λ up. c.in-Ok.ensures.held up) (λ set. c.under_another.ensures.still f c.args.roster.says set)
          c.under_another.ensures.nothing,
      known_of_up (K.is_clean new) (K.is_up new) c.under_another.result (λ clean. c.in-Ok.ensures.live clean),
      tt,
      inl c.new.ensures.bytes,
    )

pub returns-in-Ok-clause-served : goal.returns-in-Ok-clause-served
returns-in-Ok-clause-served g c = rw (← c.self.view_is) (served_at_ok _ _ (λ is. ok_no_err _ _ is) c.in-Ok.ensures.served)

pub returns-in-Ok-clause-lasting : goal.returns-in-Ok-clause-lasting
returns-in-Ok-clause-lasting g c =
    let K = g.K.Keeper in
    let old = c.self.inside.keeper in
    let new = c.replace.new.self in
    let text : c.text.result.now ≡ c.args.roster.text = search rules in
    let answer : K.is_up old → K.is_clean new → LeavesOnly (K.may_leave new) (IsDeskOf c.args.roster.text (K.holds old)) = λ up clean.
    subst (λ t. LeavesOnly (K.may_leave new) (IsDeskOf t (K.holds old))) text (c.in-Ok.ensures.lasting up clean) in
    rw (← c.self.view_is) answer

pub returns-in-Ok-clause-durable : goal.returns-in-Ok-clause-durable
returns-in-Ok-clause-durable g c up =
    let K = g.K.Keeper in
    let new = c.replace.new.self in
    let text : c.text.result.now ≡ c.args.roster.text = search rules in
    of_roster (K.may_leave new) c.args.roster.text (K.roster new) (K.holds new) (c.in-Ok.ensures.recorded up ∙ text)
    (λ left may. (c.replace.ensures.durable up left may).desk (c.in-Ok.ensures.desk up))

-- ---- and why it stays

pub invariant_of-self-in-Err : goal.invariant_of-self-in-Err
invariant_of-self-in-Err g c =
    let K = g.K.Keeper in
    let laws = g.met.K.Keeper in
    let old = c.self.inside.keeper in
    let new = c.replace.new.self in
    let f = c.self.inside.roster.says in
    let was = c.replace.ensures.served.was_up in
    let none = sym c.take-known.ensures.after in (
      c.self.invariant.0,
      λ up. laws.stays_desk old new (c.in-Err.ensures.unchanged up) (c.self.invariant.1 (was up)),
      λ up. laws.stays_roster old new (c.in-Err.ensures.unchanged up) (c.self.invariant.1 (was up)) ∙ c.self.invariant.2 (was up),
      λ up left may. (c.replace.ensures.durable up left may).desk (laws.stays_desk old new (c.in-Err.ensures.unchanged up) (c.self.invariant.1 (was up))),
      subst (IsKnown f (K.is_up new) (K.holds new)) none tt,
      subst (IsKnownOfUp (K.is_clean new) (K.is_up new)) none tt,
      c.self.invariant.6,
      c.self.invariant.7,
    )

pub returns-in-Err-clause-err : goal.returns-in-Err-clause-err
returns-in-Err-clause-err g c = is_want c.in-Err.error c.from.result c.from.ensures

pub returns-in-Err-clause-served : goal.returns-in-Err-clause-served
returns-in-Err-clause-served g c =
    rw (← c.self.view_is) (handed_on c.in-Err.error c.replace.result (Err c.from.result) c.in-Err.is c.from.ensures c.replace.ensures.served)

pub returns-in-Err-clause-durable : goal.returns-in-Err-clause-durable
returns-in-Err-clause-durable g c up =
    let K = g.K.Keeper in
    let laws = g.met.K.Keeper in
    let old = c.self.inside.keeper in
    let new = c.replace.new.self in
    let was = c.replace.ensures.served.was_up up in
    let desk = c.self.invariant.1 was in
    let same = c.in-Err.ensures.unchanged up in
    of_roster (K.may_leave new) c.self.inside.roster.text (K.roster new) (K.holds new) (laws.stays_roster old new same desk ∙ c.self.invariant.2 was)
    (λ left may. (c.replace.ensures.durable up left may).desk (laws.stays_desk old new same desk))

-- ---- what was committed

pub returns-in-Ok-clause-crash : goal.returns-in-Ok-clause-crash
returns-in-Ok-clause-crash g c =
    let K = g.K.Keeper in
    let old = c.self.inside.keeper in
    let new = c.replace.new.self in
    let was = c.self.inside.roster.text in
    let text : c.text.result.now ≡ c.args.roster.text = search rules in
    let answer : K.is_up old → K.is_clean new → LeavesOnly (K.may_leave new) (IsLeftByTaking was c.args.roster.text (K.holds old)) = λ up clean left may.
    taken_or_not (K.roster old) was c.text.result.now c.args.roster.text (K.holds old) left (c.self.invariant.2 up) text
    ((c.replace.ensures.crash up clean left may).desk (c.self.invariant.1 up)) in
    rw (← c.self.view_is) answer

pub returns-in-Err-clause-crash : goal.returns-in-Err-clause-crash
returns-in-Err-clause-crash g c =
    let K = g.K.Keeper in
    let old = c.self.inside.keeper in
    let new = c.replace.new.self in
    let was = c.self.inside.roster.text in
    let text : c.text.result.now ≡ c.args.roster.text = search rules in
    let answer : K.is_up old → K.is_clean new → LeavesOnly (K.may_leave new) (IsLeftByTaking was c.args.roster.text (K.holds old)) = λ up clean left may.
    taken_or_not (K.roster old) was c.text.result.now c.args.roster.text (K.holds old) left (c.self.invariant.2 up) text
    ((c.replace.ensures.crash up clean left may).desk (c.self.invariant.1 up)) in
    rw (← c.self.view_is) answer

pub returns-in-Ok-clause-leaves : goal.returns-in-Ok-clause-leaves
returns-in-Ok-clause-leaves g c =
    let K = g.K.Keeper in
    let old = c.self.inside.keeper in
    let new = c.replace.new.self in
    let text : c.text.result.now ≡ c.args.roster.text = search rules in
    let answer : K.is_clean new → AddsOnly (K.may_leave old) (K.may_leave new) (IsCommitted (K.is_up old) c.args.roster.text (K.holds old)) = λ clean.
    subst (λ t. AddsOnly (K.may_leave old) (K.may_leave new) (IsCommitted (K.is_up old) t (K.holds old))) text (c.replace.ensures.leaves clean) in
    rw (← c.self.view_is) answer

pub returns-in-Err-clause-leaves : goal.returns-in-Err-clause-leaves
returns-in-Err-clause-leaves g c =
    let K = g.K.Keeper in
    let old = c.self.inside.keeper in
    let new = c.replace.new.self in
    let text : c.text.result.now ≡ c.args.roster.text = search rules in
    let answer : K.is_clean new → AddsOnly (K.may_leave old) (K.may_leave new) (IsCommitted (K.is_up old) c.args.roster.text (K.holds old)) = λ clean.
    subst (λ t. AddsOnly (K.may_leave old) (K.may_leave new) (IsCommitted (K.is_up old) t (K.holds old))) text (c.replace.ensures.leaves clean) in
    rw (← c.self.view_is) answer

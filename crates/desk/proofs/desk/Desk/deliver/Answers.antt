use Rattle.std.proofs.Common.{◌≡◌, ◌∙◌, ◌⊎◌, Ok, Err, true, rules, subst, sym}
use Rattle.std.proofs.lemmas.Result.{err_from_is_err_and}
use Rattle.messages.specs.declared.message.Message.{Message}
use Rattle.roster.specs.Rules.{is_among}
use Rattle.store_tables.specs.Sets.{With}
use Rattle.desk_store.specs.Keeping.{HasFailed}
use Rattle.desk_store.specs.Left.{AddsOnly}
use Rattle.desk_store.proofs.SameLeft.{same_left}
use Rattle.desk.specs.Crash.{IsAddedByDelivery}
use Rattle.desk.specs.Delivery.{Delivery, IsBodyOf, IsDeliveryAnswer}
use Rattle.desk.specs.private.Known.{IsKnown}
use Rattle.desk.specs.declared.refusal.Refusal.TheVariants.{Storage}
use Rattle.desk.proofs.DeliveryLemmas.{acknowledged, at_ok, held_at_ok, of_ok, refused, same_body}
use Rattle.desk.proofs.KnownLemmas.{known_then}
use Rattle.desk.proofs.LeftLemmas.{adds_as, known_of_up}
use Rattle.desk.proofs.RefusalLemmas.{told_storage}
use Rattle.desk.proofs.desk.Desk.deliver.Goals as goal

pub returns-in_err-message-clause-answer : goal.returns-in_err-message-clause-answer
returns-in_err-message-clause-answer g c =
    let p = err_from_is_err_and c.from_residual.result c.from_residual.ensures.1 in
    let d : Delivery = record { relay = c.args.relay.now; body = c.args.body.now } in
    let f = c.self.inside.roster.says in
    let known : is_among f.relays d.relay ≡ true = search rules in
    let answer : IsDeliveryAnswer f d c.from_residual.result = rw (p.1, p.2) (refused f d c.in_err-message.field-0.0 known c.in_err-message.ensures.err) in
    rw (← c.self.view_is) answer

pub returns-clause-answer : goal.returns-clause-answer
returns-clause-answer g c =
    let d : Delivery = record { relay = c.args.relay.now; body = c.args.body.now } in
    let f = c.self.inside.roster.says in
    let known : is_among f.relays d.relay ≡ true = search rules in
    let found = c.in_ok-message.ensures.found in
    let answer : IsDeliveryAnswer f d (Ok (record {})) = acknowledged f d (record {}) c.in_ok-message.message known found.0 found.1 in
    rw (← c.self.view_is) answer

pub returns-clause-held : goal.returns-clause-held
returns-clause-held g c = λ up.
    let d : Delivery = record { relay = c.args.relay.now; body = c.args.body.now } in
    let K = g.K.Keeper in
    let held = held_at_ok (K.holds c.self.inside.keeper) (K.holds c.add-added.new.self) d
    (record {}) c.in_ok-message.message c.in_ok-message.ensures.found.0 (at_ok c.in_ok-added.was (c.add-added.ensures.added up)) in
    rw (← c.self.view_is) held

pub returns-clause-repeated : goal.returns-clause-repeated
returns-clause-repeated g c = λ up.
    let K = g.K.Keeper in
    let old = c.self.inside.keeper in
    let n = c.in_ok-message.message in
    let again : (m : Message) → IsBodyOf c.args.body.now m → K.holds old m → K.is_same old c.add-added.new.self = λ m body held.
    at_ok c.in_ok-added.was (c.add-added.ensures.repeated up (subst (K.holds old) (same_body c.args.body.now m n body c.in_ok-message.ensures.found.0) held)) in
    rw (← c.self.view_is) again

pub invariant_of-self-2 : goal.invariant_of-self-2
invariant_of-self-2 g c =
    let K = g.K.Keeper in
    let old = c.self.inside.keeper in
    let new = c.add-added.new.self in
    let f = c.self.inside.roster.says in
    let known = subst (IsKnown f (K.is_up old) (K.holds old)) (sym c.take-known.ensures.value) c.self.invariant.4 in (
      c.self.invariant.0,
      λ up. c.add-added.ensures.desk up,
      λ up. c.add-added.ensures.roster up ∙ c.self.invariant.2 (c.add-added.ensures.served.was_up up),
      λ up. c.add-added.ensures.durable up,
      known_then f (K.is_up old) (K.is_up new) (K.holds old) (K.holds new) c.in_ok-message.message c.in_ok-added.field-0 c.take-known.result
          c.known_after-known.result known c.add-added.ensures.served.was_up
          (λ up. at_ok c.in_ok-added.was (c.add-added.ensures.added up)) (λ up. of_ok _ c.in_ok-added.was (c.add-added.ensures.told up))
          (λ set. c.known_after-known.ensures.more f set c.in_ok-added.field-0 c.in_ok-added.was) c.known_after-known.ensures.nothing,
      known_of_up (K.is_clean new) (K.is_up new) c.known_after-known.result (λ clean. at_ok c.in_ok-added.was (c.add-added.ensures.live clean)),
      c.self.invariant.6,
      c.self.invariant.7,
    )

pub returns-in_err-added-clause-leaves : goal.returns-in_err-added-clause-leaves
returns-in_err-added-clause-leaves g c = λ clean.
    let K = g.K.Keeper in
    let old = c.self.inside.keeper in
    let f = c.self.inside.roster.says in
    let text = c.self.inside.roster.text in
    let d : Delivery = record { relay = c.args.relay.now; body = c.args.body.now } in
    let known : is_among f.relays d.relay ≡ true = search rules in
    let found = c.in_ok-message.ensures.found in
    let m = c.in_ok-message.message in
    let with' = With (K.holds old) m in
    let adds : AddsOnly (K.may_leave old) (K.may_leave c.add-added.new.self) (IsAddedByDelivery (K.is_up old) f text (K.holds old) d) =
    adds_as _ _ _ _ (λ left it. (
      m,
      record { relay = known; body = found.0; admitted = found.1 },
      (
        it.0,
        same_left text (K.roster old) with' with' left (c.self.invariant.2 it.0) (λ n. (λ h. h, λ h. h)) it.1,
      ),
    )) (c.add-added.ensures.leaves clean) in
    rw (← c.self.view_is) adds

pub returns-clause-leaves : goal.returns-clause-leaves
returns-clause-leaves g c = λ clean.
    let K = g.K.Keeper in
    let old = c.self.inside.keeper in
    let f = c.self.inside.roster.says in
    let text = c.self.inside.roster.text in
    let d : Delivery = record { relay = c.args.relay.now; body = c.args.body.now } in
    let known : is_among f.relays d.relay ≡ true = search rules in
    let found = c.in_ok-message.ensures.found in
    let m = c.in_ok-message.message in
    let with' = With (K.holds old) m in
    let adds : AddsOnly (K.may_leave old) (K.may_leave c.add-added.new.self) (IsAddedByDelivery (K.is_up old) f text (K.holds old) d) =
    adds_as _ _ _ _ (λ left it. (
      m,
      record { relay = known; body = found.0; admitted = found.1 },
      (
        it.0,
        same_left text (K.roster old) with' with' left (c.self.invariant.2 it.0) (λ n. (λ h. h, λ h. h)) it.1,
      ),
    )) (c.add-added.ensures.leaves clean) in
    rw (← c.self.view_is) adds

pub returns-in_err-added-clause-cause : goal.returns-in_err-added-clause-cause
returns-in_err-added-clause-cause g c =
    let K = g.K.Keeper in
    let old = c.self.inside.keeper in
    let new = c.add-added.new.self in
    let n = c.in_ok-message.message in
    let caused : K.is_up old → K.is_clean new → (m : Message) → IsBodyOf c.args.body.now m → K.holds old m → c.from_residual-in_err-added.result ≡ Err Storage
    → HasFailed (K.faults old) (K.faults new) ⊎ K.is_limited old = λ up clean m body held told.
    c.add-added.ensures.cause up clean (subst (K.holds old) (same_body c.args.body.now m n body c.in_ok-message.ensures.found.0) held)
    (told_storage c.in_err-added.field-0.0 c.add-added.result c.from_residual-in_err-added.result c.in_err-added.was
    c.from_residual-in_err-added.ensures.1 told) in
    rw (← c.self.view_is) caused

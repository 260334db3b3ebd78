-- The first and the last moment of a window.
use Rattle.std.proofs.Common.{◌≡◌, ℕ, ◌+◌, ◌≤◌, ◌<◌, max, nat_le, List, inl, inr, arith}
use Rattle.std.proofs.lemmas.Bool.{cases_Bool, leb-true, leb-false}
use Rattle.sudo_words.specs.declared.cmnd.Cmnd.{Cmnd}
use Rattle.messages.specs.Fields.{RequestFields}
use Rattle.messages.specs.declared.message.Message.{Message}
use Rattle.roster.specs.Fields.{RosterFields}
use Rattle.grants.specs.Verdicts.{IsComplete, RevokedBy}
use Rattle.grants.specs.Statuses.{InWindow, IsFirstMoment, IsLastMoment}
use Rattle.grants.specs.Completion.{IsFirstRevocation}
use Rattle.grants.proofs.StatusLemmas.{later_too}

-- from one moment of the window to another at which the rest holds
moved : (f : RosterFields Cmnd) (set : List Message) (q : RequestFields) (old new : ℕ) → InWindow f set q old → q.from ≤ new
    → ((m : ℕ) → IsComplete f set q m → m ≤ new) → new ≤ q.until → ¬ RevokedBy f set q new → InWindow f set q new
moved f set q old new w from behind until bare = record {
  alone = w.alone;
  admissible = w.admissible;
  unrefused = w.unrefused;
  complete = w.complete;
  complete_is = w.complete_is;
  from = from;
  behind = behind w.complete w.complete_is;
  until = until;
  unrevoked = bare;
}

one_completion : (f : RosterFields Cmnd) (set : List Message) (q : RequestFields) (m n : ℕ) → IsComplete f set q m → IsComplete f set q n → m ≤ n
one_completion f set q m n a b = a.least n b.approved

pub begins : (f : RosterFields Cmnd) (set : List Message) (q : RequestFields) (start complete : ℕ)
    → IsFirstMoment f set q start → IsComplete f set q complete → start ≡ max q.from complete
begins f set q start complete first is =
    let w = first.inside in
    let behind : complete ≤ start = omega (arith, one_completion f set q complete w.complete is w.complete_is, w.behind) in
    let low : max q.from complete ≤ start = omega (arith, behind, w.from) in
    let there = moved f set q start (max q.from complete) w (omega arith) (λ m other. omega (arith, one_completion f set q m complete other is))
    (omega (arith, low, w.until)) (λ r. w.unrevoked (later_too f set q (max q.from complete) start low r)) in
    omega (arith, low, first.least (max q.from complete) there)

pub ends_as_asked : (f : RosterFields Cmnd) (set : List Message) (q : RequestFields) (end : ℕ)
    → IsLastMoment f set q end → ¬ RevokedBy f set q q.until → end ≡ q.until
ends_as_asked f set q end last bare =
    let w = last.inside in
    let there = moved f set q end q.until w (omega (arith, w.from, w.until))
    (λ m is. omega (arith, one_completion f set q m w.complete is w.complete_is, w.behind, w.until)) (omega arith) bare in
    omega (arith, w.until, last.greatest q.until there)

pub ends_revoked : (f : RosterFields Cmnd) (set : List Message) (q : RequestFields) (end revoked : ℕ)
    → IsLastMoment f set q end → IsFirstRevocation f set q revoked → revoked ≤ q.until → end + 1 ≡ revoked
ends_revoked f set q end revoked last first le =
    let w = last.inside in
    let sooner : end < revoked = elim (cases_Bool (nat_le revoked end)) as (λ _. end < revoked) [
      | inl e ↦ absurd (w.unrevoked (later_too f set q revoked end (leb-true revoked end e) first.revoked))
      | inr e ↦ leb-false revoked end e
    ] in
    elim (cases_Bool (nat_le revoked (end + 1))) as (λ _. end + 1 ≡ revoked) [
      | inl e ↦ omega (arith, sooner, leb-true revoked (end + 1) e)
      | inr e ↦
          let gap : end + 1 < revoked = leb-false revoked (end + 1) e in
          let there =
          moved f set q end (end + 1) w (omega (arith, w.from)) (λ m is. omega (arith, one_completion f set q m w.complete is w.complete_is, w.behind))
          (omega (arith, gap, le)) (λ r. absurd (omega (arith, gap, first.least (end + 1) r))) in
          absurd (omega (arith, last.greatest (end + 1) there))
    ]

pub unbroken : (f : RosterFields Cmnd) (set : List Message) (q : RequestFields) (early moment late : ℕ)
    → InWindow f set q early → InWindow f set q late → early ≤ moment → moment ≤ late → InWindow f set q moment
unbroken f set q early moment late a b low high =
    moved f set q late moment b (omega (arith, a.from, low))
    (λ m is. omega (arith, one_completion f set q m a.complete is a.complete_is, a.behind, low)) (omega (arith, b.until, high))
    (λ r. b.unrevoked (later_too f set q moment late high r))

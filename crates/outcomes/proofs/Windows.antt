-- Windows: an unbroken run of moments.
use Rattle.std.proofs.Common.{◌≡◌, ℕ, zero, suc, ◌+◌, ◌-◌, ◌≤◌, ◌<◌, max, nat_le, List, arith, inl, inr}
use Rattle.std.proofs.lemmas.Bool.{cases_Bool, leb-true, leb-false}
use Rattle.sudo_words.specs.declared.cmnd.Cmnd.{Cmnd}
use Rattle.messages.specs.Fields.{RequestFields}
use Rattle.messages.specs.declared.message.Message.{Message}
use Rattle.roster.specs.Fields.{RosterFields}
use Rattle.grants.specs.Verdicts.{IsComplete}
use Rattle.grants.specs.Statuses.{InWindow, IsFirstMoment, IsLastMoment}
use Rattle.grants.proofs.StatusLemmas.{later_too}

module _ (f : RosterFields Cmnd) (set : List Message) (q : RequestFields) where
  -- an earlier moment, where it is asked for and not before the completion
  pub sooner : (early late : ℕ) → InWindow f set q late → q.from ≤ early → ((m : ℕ) → IsComplete f set q m → m ≤ early) → early ≤ late → InWindow f set q early
  sooner early late w from behind le = record {
    alone = w.alone;
    admissible = w.admissible;
    unrefused = w.unrefused;
    complete = w.complete;
    complete_is = w.complete_is;
    from = from;
    behind = behind w.complete w.complete_is;
    until = omega (arith, le, w.until);
    unrevoked = λ r. w.unrevoked (later_too f set q early late le r);
  }

  one_completion : (m n : ℕ) → IsComplete f set q m → IsComplete f set q n → m ≤ n
  one_completion m n a b = a.least n b.approved

  -- between two moments each one is inside
  pub between : (low moment high : ℕ) → InWindow f set q low → InWindow f set q high → low ≤ moment → moment ≤ high → InWindow f set q moment
  between low moment high a b le ge =
      sooner moment high b (omega (arith, a.from, le)) (λ m is. omega (arith, one_completion m a.complete is a.complete_is, a.behind, le)) ge

  -- a window with a moment in it has a first one
  pub first_of : (moment : ℕ) → (w : InWindow f set q moment) → IsFirstMoment f set q (max q.from w.complete)
  first_of moment w = record {
    inside = sooner (max q.from w.complete) moment w (omega arith)
        (λ m is. omega (arith, one_completion m w.complete is w.complete_is)) (omega (arith, w.from, w.behind));
    least = λ other v. omega (arith, v.from, v.behind, one_completion w.complete v.complete w.complete_is v.complete_is);
  }

  -- and it is not the case that it has no last one
  last_within : (count moment : ℕ) → InWindow f set q moment → moment + count ≡ q.until → ((last : ℕ) → IsLastMoment f set q last → ⊥) → ⊥
  last_within zero moment w e none =
      none moment (record { inside = w; greatest = λ other v. omega (arith, v.until, e) })
  last_within (suc count) moment w e none =
      let ended : InWindow f set q (suc moment) → ⊥ = λ v. last_within count (suc moment) v (omega (arith, e)) none in
      none moment (record {
        inside = w;
        greatest = λ other v. elim (cases_Bool (nat_le other moment)) as (λ _. other ≤ moment) [
          | inl le ↦ leb-true other moment le
          | inr gt ↦
              let past : moment < other = leb-false other moment gt in
              absurd (ended (between moment (suc moment) other w v (omega arith) (omega (arith, past))))
        ];
      })

  pub not_endless : (moment : ℕ) → InWindow f set q moment → ((last : ℕ) → IsLastMoment f set q last → ⊥) → ⊥
  not_endless moment w none =
      last_within (q.until - moment) moment w (omega (arith, w.until)) none

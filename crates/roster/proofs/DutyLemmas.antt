-- Who holds which duty, which duties conflict, and who is eligible.
use Rattle.std.proofs.Common.{◌≡◌, ◌≤◌, ◌<◌, ◌+◌, ◌*◌, ℕ, ◌∙◌, Bool, true, false, not, ◌&&◌, ◌||◌, List, [], ◌∷◌, nat_le, refl, sym, ap, ap₂, arith, ⊎_elim}
use Rattle.std.specs.Prelude.{◌↔◌}
use Rattle.std.specs.List.{list_any}
use Rattle.std.specs.Str.{bytes_eq}
use Rattle.std.proofs.lemmas.Bool.{or_cases, and_parts, false_from_ne_true, true≢false, not-true, leb-true, le-leb}
use Rattle.std.proofs.lemmas.Slice.Eq.{bytes_eq-Decides}
use Rattle.sudo_words.specs.declared.cmnd.Cmnd.{Cmnd}
use Rattle.roster.specs.Faults.{IsRosterText}
use Rattle.sudo_words.specs.Moment.{day_of}
use Rattle.roster.specs.Fields.{CeilingFields, Entry, RosterFields}
use Rattle.roster.specs.Rules.{has_self_conflict}
use Rattle.roster.specs.declared.days.Days.TheVariants.{Between}
use Rattle.roster.specs.Relations.{entries_for, or_none, entry_of, hold, gives, holds, joins, conflicting, is_against, holds_against, eligible}

same : (v w : List ℕ) → bytes_eq v w ≡ true → v ≡ w
same v w = (bytes_eq-Decides v w).0

itself : (w : List ℕ) → bytes_eq w w ≡ true
itself w = (bytes_eq-Decides w w).1 refl

-- ---- tests of lists

either : (a b : Bool) → a ≡ true → (a || b) ≡ true
either true b e = refl
either false b e = absurd (true≢false (sym e))

other : (a b : Bool) → b ≡ true → (a || b) ≡ true
other true b e = refl
other false b e = e

any_weaker : {X : Type 0} (p q : X → Bool) → ((x : X) → p x ≡ true → q x ≡ true) → (xs : List X) → list_any p xs ≡ true → list_any q xs ≡ true
any_weaker p q weaker [] e = absurd (true≢false (sym e))
any_weaker p q weaker (x ∷ xs) e = ⊎_elim
    (λ a. either (q x) (list_any q xs) (weaker x a))
    (λ a. other (q x) (list_any q xs) (any_weaker p q weaker xs a))
    (or_cases (p x) (list_any p xs) e)

pub any_same : {X : Type 0} (p q : X → Bool) → ((x : X) → p x ≡ q x) → (xs : List X) → list_any p xs ≡ list_any q xs
any_same p q alike [] = refl
any_same p q alike (x ∷ xs) = ap₂ (λ a b. a || b) (alike x) (any_same p q alike xs)

-- ---- conflicts

turned : (a b : Bool) → (a || b) ≡ (b || a)
turned true true = refl
turned true false = refl
turned false true = refl
turned false false = refl

pub either_way : (f : RosterFields Cmnd) (d e : List ℕ) → conflicting f d e ≡ conflicting f e d
either_way f d e =
    any_same (joins d e) (joins e d) (λ p. turned (bytes_eq p.0 d && bytes_eq p.1 e) (bytes_eq p.0 e && bytes_eq p.1 d)) f.conflicts

both_ends : (d : List ℕ) (p : List ℕ × List ℕ) → (bytes_eq p.0 d && bytes_eq p.1 d) ≡ true → bytes_eq p.0 p.1 ≡ true
both_ends d p e =
    let ends = and_parts (bytes_eq p.0 d) (bytes_eq p.1 d) e in
    (bytes_eq-Decides p.0 p.1).1 (same p.0 d ends.0 ∙ sym (same p.1 d ends.1))

joins_itself : (d : List ℕ) (p : List ℕ × List ℕ) → joins d d p ≡ true → bytes_eq p.0 p.1 ≡ true
joins_itself d p e = ⊎_elim (both_ends d p) (both_ends d p) (or_cases (bytes_eq p.0 d && bytes_eq p.1 d) (bytes_eq p.0 d && bytes_eq p.1 d) e)

pub between_two : (text : List ℕ) (f : RosterFields Cmnd) (duty : List ℕ) → IsRosterText text f → conflicting f duty duty ≡ false
unfolding has_self_conflict
between_two text f duty r =
    false_from_ne_true (conflicting f duty duty)
    (λ e. true≢false (sym (any_weaker (joins duty duty) (λ p. bytes_eq p.0 p.1) (joins_itself duty) f.conflicts e) ∙ r.apart))

-- ---- who is eligible

both : (a b : Bool) → a ≡ true → b ≡ true → (a && b) ≡ true
both a b x y = ap₂ (λ p q. p && q) x y

-- what is asked of an approver
record Approves (f : RosterFields Cmnd) (person asker : List ℕ) (c : CeilingFields Cmnd) (at : ℕ) : Type 0 where
  someone_else : bytes_eq person asker ≡ false
  holds_it : holds f person c.approve at ≡ true
  none_against : holds_against f person c.approve at ≡ false

approver : (f : RosterFields Cmnd) (person asker : List ℕ) (c : CeilingFields Cmnd) (at : ℕ)
    → eligible f person asker c at ≡ true → Approves f person asker c at
approver f person asker c at e =
    let is_asker = bytes_eq person asker in
    let has_it = holds f person c.approve at in
    let against = holds_against f person c.approve at in
    let last = and_parts (not is_asker && has_it) (not against) e in
    let front = and_parts (not is_asker) has_it last.0 in
    record {
      someone_else = not-true is_asker front.0;
      holds_it = front.1;
      none_against = not-true against last.1;
    }

may_approve : (f : RosterFields Cmnd) (person asker : List ℕ) (c : CeilingFields Cmnd) (at : ℕ)
    → Approves f person asker c at → eligible f person asker c at ≡ true
may_approve f person asker c at a = rw (a.someone_else, a.holds_it, a.none_against) refl

pub not_who_asks : (f : RosterFields Cmnd) (asker : List ℕ) (c : CeilingFields Cmnd) (at : ℕ) → eligible f asker asker c at ≡ false
not_who_asks f asker c at =
    false_from_ne_true (eligible f asker asker c at) (λ e. true≢false (sym (itself asker) ∙ (approver f asker asker c at e).someone_else))

pub holds_duty : (f : RosterFields Cmnd) (person asker : List ℕ) (c : CeilingFields Cmnd) (at : ℕ)
    → eligible f person asker c at ≡ true → holds f person c.approve at ≡ true
holds_duty f person asker c at e = (approver f person asker c at e).holds_it

-- one of the duties held then conflicts with this one
against_one : (f : RosterFields Cmnd) (person duty approve : List ℕ) (at : ℕ) → holds f person duty at ≡ true → conflicting f duty approve ≡ true
    → holds_against f person approve at ≡ true
against_one f person duty approve at held against =
    any_weaker (gives duty (day_of at)) (is_against f approve (day_of at))
    (λ e t.
    let p = and_parts (bytes_eq e.0 duty) (hold e.1 (day_of at)) t in
    both _ _ p.1 (ap (λ d. conflicting f d approve) (same e.0 duty p.0) ∙ against))
    (entries_for f person) held

pub not_against : (f : RosterFields Cmnd) (person asker duty : List ℕ) (c : CeilingFields Cmnd) (at : ℕ) → holds f person duty at ≡ true
    → conflicting f duty c.approve ≡ true → eligible f person asker c at ≡ false
not_against f person asker duty c at held against =
    false_from_ne_true (eligible f person asker c at)
    (λ e. true≢false (sym (against_one f person duty c.approve at held against) ∙ (approver f person asker c at e).none_against))

pub more_conflicts : (f g : RosterFields Cmnd) (person asker : List ℕ) (c : CeilingFields Cmnd) (at : ℕ) → g.people ≡ f.people
    → ((d e : List ℕ) → conflicting f d e ≡ true → conflicting g d e ≡ true) → eligible g person asker c at ≡ true → eligible f person asker c at ≡ true
more_conflicts f g person asker c at people more e =
    let a = approver g person asker c at e in
    let entries : entries_for g person ≡ entries_for f person = ap (λ ps. or_none (entry_of ps person)) people in
    let day = day_of at in
    may_approve f person asker c at (record {
      someone_else = a.someone_else;
      holds_it = ap (list_any (gives c.approve day)) (sym entries) ∙ a.holds_it;
      none_against = false_from_ne_true (holds_against f person c.approve at) (λ t.
          let same_in_g : list_any (is_against f c.approve day) (entries_for g person) ≡ true = ap (list_any (is_against f c.approve day)) entries ∙ t in
          let weaker : (x : Entry) → is_against f c.approve day x ≡ true → is_against g c.approve day x ≡ true =
          λ x u. let p = and_parts (hold x.1 day) (conflicting f x.0 c.approve) u in both _ _ p.0 (more x.0 c.approve p.1) in
          true≢false (sym (any_weaker (is_against f c.approve day) (is_against g c.approve day) weaker (entries_for g person) same_in_g)
          ∙ a.none_against));
    })

-- if a list gives every duty that another gives on a day, a test passed by a duty of the other then is passed by one of its own
pub any_held : (day : ℕ) (p : List ℕ → Bool) (ds es : List Entry)
    → ((d : List ℕ) → list_any (gives d day) ds ≡ true → list_any (gives d day) es ≡ true)
    → list_any (λ x. hold x.1 day && p x.0) ds ≡ true → list_any (λ x. hold x.1 day && p x.0) es ≡ true
any_held day p [] es more e = absurd (true≢false (sym e))
any_held day p (d ∷ ds) es more e = ⊎_elim
    (λ a.
    let parts = and_parts (hold d.1 day) (p d.0) a in
    any_weaker (gives d.0 day) (λ x. hold x.1 day && p x.0)
    (λ x t. let q = and_parts (bytes_eq x.0 d.0) (hold x.1 day) t in both _ _ q.1 (ap p (same x.0 d.0 q.0) ∙ parts.1)) es
    (more d.0 (either (gives d.0 day d) (list_any (gives d.0 day) ds) (both _ _ (itself d.0) parts.0))))
    (λ a. any_held day p ds es (λ x t. more x (other (gives x day d) (list_any (gives x day) ds) t)) a)
    (or_cases (hold d.1 day && p d.0) (list_any (λ x. hold x.1 day && p x.0) ds) e)

pub more_duties : (f g : RosterFields Cmnd) (person asker : List ℕ) (c : CeilingFields Cmnd) (at : ℕ) → g.conflicts ≡ f.conflicts
    → ((d : List ℕ) → holds f person d at ≡ true → holds g person d at ≡ true) → holds f person c.approve at ≡ true
    → eligible g person asker c at ≡ true → eligible f person asker c at ≡ true
more_duties f g person asker c at conflicts more held e =
    let a = approver g person asker c at e in
    let day = day_of at in
    may_approve f person asker c at (record {
      someone_else = a.someone_else;
      holds_it = held;
      none_against = false_from_ne_true (holds_against f person c.approve at) (λ t.
          let in_g : list_any (is_against f c.approve day) (entries_for g person) ≡ true =
          any_held day (λ d. conflicting f d c.approve) (entries_for f person) (entries_for g person) more t in
          let of_g : holds_against g person c.approve at ≡ true =
          ap (λ ps. list_any (λ (x : Entry). hold x.1 day && list_any (joins x.0 c.approve) ps) (entries_for g person)) conflicts ∙ in_g in
          true≢false (sym of_g ∙ a.none_against));
    })

-- ---- days in seconds

pub in_seconds : (from until at : ℕ) → (hold (Between from until) (day_of at) ≡ true) ↔ ((from * 86_400 ≤ at) × (at < (until + 1) * 86_400))
in_seconds from until at = (
  λ h.
      let p = and_parts (nat_le from (day_of at)) (nat_le (day_of at) until) h in
      (omega (arith, leb-true from (day_of at) p.0), omega (arith, leb-true (day_of at) until p.1)),
  λ h. both _ _ (le-leb from (day_of at) (omega (arith, h.0))) (le-leb (day_of at) until (omega (arith, h.1))),
)

-- The rights at a moment depend on the duties that are held then, and duties on the set of days and entries.
use Rattle.std.proofs.Common.{◌≡◌, ◌≤◌, ◌<◌, ◌+◌, ℕ, ◌∙◌, Bool, true, false, not, ◌&&◌, ◌||◌, if◌then◌else◌, List, []}
use Rattle.std.proofs.Common.{◌∷◌, ◌++◌, Option, Some, is_some, nat_le, refl, sym, ap, ap₂, arith, inl, inr, ⊎_elim}
use Rattle.std.specs.Prelude.{Contains, ◌↔◌}
use Rattle.std.specs.List.{list_any}
use Rattle.std.specs.Map.{keys_of}
use Rattle.std.specs.Str.{bytes_eq}
use Rattle.std.proofs.lemmas.Bool.{or_cases, or_left, or_right, and_parts, and_from, and_left, cases_Bool, leb-true, leb-false, le-leb, lt-leb}
use Rattle.std.proofs.lemmas.List.Folds.{Any-from_list_any, list_any-append, list_any-from_Any}
use Rattle.std.proofs.lemmas.Slice.Eq.{bytes_eq-Decides}
use Rattle.sudo_words.specs.declared.cmnd.Cmnd.{Cmnd}
use Rattle.sudo_words.specs.Moment.{day_of, IsMoment}
use Rattle.roster.specs.Agreement.{AgreeUntil}
use Rattle.roster.specs.Fields.{CeilingFields, Entry, RosterFields}
use Rattle.roster.specs.declared.days.Days.{Days}
use Rattle.roster.specs.declared.days.Days.TheVariants.{Always, Between}
use Rattle.roster.specs.Relations.{ceiling_at, conflicting, eligible, entries_for, entry_of, gives}
use Rattle.roster.specs.Relations.{has_person, hold, holds, holds_against, joins, may_revoke, or_none}
use Rattle.roster.proofs.DutyLemmas.{any_held}

same_bool : (a b : Bool) → (a ≡ true → b ≡ true) → (b ≡ true → a ≡ true) → a ≡ b
same_bool true true to back = refl
same_bool true false to back = sym (to refl)
same_bool false true to back = back refl
same_bool false false to back = refl

-- ---- rights by duties

against_too : (f g : RosterFields Cmnd) (person approve : List ℕ) (at : ℕ) → f.conflicts ≡ g.conflicts
    → ((duty : List ℕ) → holds f person duty at ≡ holds g person duty at) → holds_against f person approve at ≡ true → holds_against g person approve at ≡ true
against_too f g person approve at conflicts held e =
    let day = day_of at in
    ap (λ ps. list_any (λ (x : Entry). hold x.1 day && list_any (joins x.0 approve) ps) (entries_for g person)) (sym conflicts)
    ∙ any_held day (λ d. conflicting f d approve) (entries_for f person) (entries_for g person) (λ d h. sym (held d) ∙ h) e

pub against_alike : (f g : RosterFields Cmnd) (person approve : List ℕ) (at : ℕ) → f.conflicts ≡ g.conflicts
    → ((duty : List ℕ) → holds f person duty at ≡ holds g person duty at) → holds_against f person approve at ≡ holds_against g person approve at
against_alike f g person approve at conflicts held =
    same_bool _ _ (against_too f g person approve at conflicts held) (against_too g f person approve at (sym conflicts) (λ d. sym (held d)))

pub eligible_alike : (f g : RosterFields Cmnd) (person asker : List ℕ) (c : CeilingFields Cmnd) (at : ℕ) → f.conflicts ≡ g.conflicts
    → ((duty : List ℕ) → holds f person duty at ≡ holds g person duty at) → eligible f person asker c at ≡ eligible g person asker c at
eligible_alike f g person asker c at conflicts held =
    ap₂ (λ h a. not (bytes_eq person asker) && h && not a) (held c.approve) (against_alike f g person c.approve at conflicts held)

pub may_revoke_alike : (f g : RosterFields Cmnd) (person asker : List ℕ) (c : CeilingFields Cmnd) (at : ℕ)
    → ((duty : List ℕ) → holds f person duty at ≡ holds g person duty at) → may_revoke f person asker c at ≡ may_revoke g person asker c at
may_revoke_alike f g person asker c at held = ap (λ h. bytes_eq person asker || h) (held c.approve)

-- ---- rights until a moment

some_where : {X : Type 0} (b : Bool) (x : X) (o : Option X) → is_some (if b then Some x else o) ≡ (b || is_some o)
some_where true x o = refl
some_where false x o = refl

listed : {X : Type 0} (es : List (List ℕ × X)) (name : List ℕ) → is_some (entry_of es name) ≡ list_any (λ k. bytes_eq k name) (keys_of es)
listed [] name = refl
listed (e ∷ es) name = some_where (bytes_eq e.0 name) e.1 (entry_of es name) ∙ ap (λ b. bytes_eq e.0 name || b) (listed es name)

module _ (f g : RosterFields Cmnd) (moment : ℕ) (agree : AgreeUntil moment f g) where
  pub same_person : (person : List ℕ) → has_person f person ≡ has_person g person
  same_person person =
      listed f.people person ∙ ap (list_any (λ k. bytes_eq k person)) agree.people ∙ sym (listed g.people person)

  pub same_ceiling : (label : List ℕ) → ceiling_at f label ≡ ceiling_at g label
  same_ceiling label = ap (λ cs. entry_of cs label) agree.ceilings

  pub eligible_until : (person asker : List ℕ) (c : CeilingFields Cmnd) (at : ℕ) → at ≤ moment → eligible f person asker c at ≡ eligible g person asker c at
  eligible_until person asker c at by_then =
      eligible_alike f g person asker c at agree.conflicts (λ duty. agree.duties person duty at by_then)

  pub may_revoke_until : (person asker : List ℕ) (c : CeilingFields Cmnd) (at : ℕ)
      → at ≤ moment → may_revoke f person asker c at ≡ may_revoke g person asker c at
  may_revoke_until person asker c at by_then = may_revoke_alike f g person asker c at (λ duty. agree.duties person duty at by_then)

  pub agree_turned : AgreeUntil moment g f
  agree_turned = record {
    people = sym agree.people;
    conflicts = sym agree.conflicts;
    ceilings = sym agree.ceilings;
    duties = λ person duty at by_then. sym (agree.duties person duty at by_then);
  }

pub agree_chained : (f g h : RosterFields Cmnd) (moment : ℕ) → AgreeUntil moment f g → AgreeUntil moment g h → AgreeUntil moment f h
agree_chained f g h moment a b = record {
  people = a.people ∙ b.people;
  conflicts = a.conflicts ∙ b.conflicts;
  ceilings = a.ceilings ∙ b.ceilings;
  duties = λ person duty at by_then. a.duties person duty at by_then ∙ b.duties person duty at by_then;
}

-- ---- days

every_day : (day : ℕ) → day ≤ 47_481 → hold Always day ≡ hold (Between 0 47_481) day
every_day day le = sym (and_from (nat_le 0 day) (nat_le day 47_481) (le-leb 0 day (omega arith)) (le-leb day 47_481 le))

cut_day : (from middle until day : ℕ) → from ≤ middle → middle < until
    → hold (Between from until) day ≡ (hold (Between from middle) day || hold (Between (middle + 1) until) day)
cut_day from middle until day low high = same_bool _ _ to back
  where
    to : hold (Between from until) day ≡ true → (hold (Between from middle) day || hold (Between (middle + 1) until) day) ≡ true
    to e =
        let p = and_parts (nat_le from day) (nat_le day until) e in
        elim (cases_Bool (nat_le day middle)) as (λ _. (hold (Between from middle) day || hold (Between (middle + 1) until) day) ≡ true) [
          | inl early ↦ or_left _ _ (and_from (nat_le from day) (nat_le day middle) p.0 early)
          | inr late ↦
              or_right _ _ (and_from (nat_le (middle + 1) day) (nat_le day until) (le-leb (middle + 1) day (omega (arith, leb-false day middle late))) p.1)
        ]

    back : (hold (Between from middle) day || hold (Between (middle + 1) until) day) ≡ true → hold (Between from until) day ≡ true
    back e = ⊎_elim
        (λ early.
        let p = and_parts (nat_le from day) (nat_le day middle) early in
        and_from (nat_le from day) (nat_le day until) p.0 (le-leb day until (omega (arith, leb-true day middle p.1, high))))
        (λ late.
        let p = and_parts (nat_le (middle + 1) day) (nat_le day until) late in
        and_from (nat_le from day) (nat_le day until) (le-leb from day (omega (arith, leb-true (middle + 1) day p.0, low))) p.1)
        (or_cases (hold (Between from middle) day) (hold (Between (middle + 1) until) day) e)

-- ---- entries

-- the end of a list may be replaced by one for which a test has the same answer
exchanged : {X : Type 0} (p : X → Bool) (before xs ys : List X) → list_any p xs ≡ list_any p ys → list_any p (before ++ xs) ≡ list_any p (before ++ ys)
exchanged p before xs ys same =
    list_any-append p before xs ∙ ap (λ b. list_any p before || b) same ∙ sym (list_any-append p before ys)

one_passes : {X : Type 0} (p : X → Bool) (xs : List X) → list_any p xs ≡ true → (x : X) × Contains xs x × (p x ≡ true)
one_passes p xs e = let one = Any-from_list_any p xs e in (one.1, (one.0, one.2, one.3), one.4)

passes : {X : Type 0} (p : X → Bool) (xs : List X) (x : X) → Contains xs x → p x ≡ true → list_any p xs ≡ true
passes p xs x m e = list_any-from_Any p xs (m.0, x, m.1, m.2, e)

module _ (f : RosterFields Cmnd) (person duty : List ℕ) (at : ℕ) where
  pub held_always : Contains (entries_for f person) (duty, Always) → holds f person duty at ≡ true
  held_always m =
      passes (gives duty (day_of at)) (entries_for f person) (duty, Always) m (and_from (bytes_eq duty duty) true ((bytes_eq-Decides duty duty).1 refl) refl)

  module _ (g : RosterFields Cmnd) where
    by_entries : (xs ys : List Entry) → entries_for f person ≡ xs → entries_for g person ≡ ys
        → list_any (gives duty (day_of at)) xs ≡ list_any (gives duty (day_of at)) ys → holds f person duty at ≡ holds g person duty at
    by_entries xs ys of_f of_g same =
        ap (list_any (gives duty (day_of at))) of_f ∙ same ∙ sym (ap (list_any (gives duty (day_of at))) of_g)

    pub always_alike : (other : List ℕ) (before after : List Entry) → IsMoment at → entries_for f person ≡ before ++ (other, Always) ∷ after
        → entries_for g person ≡ before ++ (other, Between 0 47_481) ∷ after → holds f person duty at ≡ holds g person duty at
    always_alike other before after moment of_f of_g =
        let day = day_of at in
        let there : day ≤ 47_481 = omega (arith, moment) in
        by_entries (before ++ (other, Always) ∷ after) (before ++ (other, Between 0 47_481) ∷ after) of_f of_g
        (exchanged (gives duty day) before ((other, Always) ∷ after) ((other, Between 0 47_481) ∷ after)
        (ap (λ b. (bytes_eq other duty && b) || list_any (gives duty day) after) (every_day day there)))

    pub cut_alike : (other : List ℕ) (before after : List Entry) (from middle until : ℕ) → from ≤ middle
        → middle < until → entries_for f person ≡ before ++ (other, Between from until) ∷ after
        → entries_for g person ≡ before ++ (other, Between from middle) ∷ (other, Between (middle + 1) until) ∷ after
        → holds f person duty at ≡ holds g person duty at
    cut_alike other before after from middle until low high of_f of_g =
        let day = day_of at in
        by_entries (before ++ (other, Between from until) ∷ after) (before ++ (other, Between from middle) ∷ (other, Between (middle + 1) until) ∷ after) of_f
        of_g (exchanged (gives duty day) before ((other, Between from until) ∷ after) ((other, Between from middle) ∷ (other, Between (middle + 1) until)
        ∷ after) (ap (λ b. (bytes_eq other duty && b) || list_any (gives duty day) after) (cut_day from middle until day low high)
        ∙ shared (bytes_eq other duty) (hold (Between from middle) day) (hold (Between (middle + 1) until) day) (list_any (gives duty day) after)))
      where
        shared : (d x y r : Bool) → ((d && (x || y)) || r) ≡ ((d && x) || ((d && y) || r))
        shared true true y r = refl
        shared true false y r = refl
        shared false x y r = refl

    pub set_alike : ((e : Entry) → Contains (entries_for f person) e ↔ Contains (entries_for g person) e)
        → holds f person duty at ≡ holds g person duty at
    set_alike same = same_bool _ _ (λ e. let one = one_passes (gives duty (day_of at)) (entries_for f person) e in
        passes (gives duty (day_of at)) (entries_for g person) one.0 ((same one.0).0 one.1) one.2)
        (λ e. let one = one_passes (gives duty (day_of at)) (entries_for g person) e in
        passes (gives duty (day_of at)) (entries_for f person) one.0 ((same one.0).1 one.1) one.2)

-- ---- rosters that differ in later days

chosen : (p : Entry → Bool) (b : Bool) (x y u v : Option (List Entry)) → list_any p (or_none x) ≡ list_any p (or_none y)
    → list_any p (or_none u) ≡ list_any p (or_none v) → list_any p (or_none (if b then x else u)) ≡ list_any p (or_none (if b then y else v))
chosen p true x y u v here there = here
chosen p false x y u v here there = there

-- one person's entries are replaced by others for which a test has the same answer
entries_exchanged : (p : Entry → Bool) (people more : List (List ℕ × List Entry)) (name : List ℕ) (es fs : List Entry) (person : List ℕ)
    → list_any p es ≡ list_any p fs
    → list_any p (or_none (entry_of (people ++ (name, es) ∷ more) person)) ≡ list_any p (or_none (entry_of (people ++ (name, fs) ∷ more) person))
entries_exchanged p [] more name es fs person same =
    chosen p (bytes_eq name person) (Some es) (Some fs) (entry_of more person) (entry_of more person) same refl
entries_exchanged p (q ∷ people) more name es fs person same =
    chosen p (bytes_eq q.0 person) (Some q.1) (Some q.1) (entry_of (people ++ (name, es) ∷ more) person) (entry_of (people ++ (name, fs) ∷ more) person) refl
    (entries_exchanged p people more name es fs person same)

names_exchanged : (people more : List (List ℕ × List Entry)) (name : List ℕ) (es fs : List Entry)
    → keys_of (people ++ (name, es) ∷ more) ≡ keys_of (people ++ (name, fs) ∷ more)
names_exchanged [] more name es fs = refl
names_exchanged (q ∷ people) more name es fs = ap (λ ks. q.0 ∷ ks) (names_exchanged people more name es fs)

exchanged_agree : (f g : RosterFields Cmnd) (moment : ℕ) (name : List ℕ) (people more : List (List ℕ × List Entry)) (es fs : List Entry)
    → f.conflicts ≡ g.conflicts → f.ceilings ≡ g.ceilings → f.people ≡ people ++ (name, es) ∷ more → g.people ≡ people ++ (name, fs) ∷ more
    → ((duty : List ℕ) (day : ℕ) → day ≤ day_of moment → list_any (gives duty day) es ≡ list_any (gives duty day) fs) → AgreeUntil moment f g
exchanged_agree f g moment name people more es fs conflicts ceilings of_f of_g same = record {
  people = ap keys_of of_f ∙ names_exchanged people more name es fs ∙ sym (ap keys_of of_g);
  conflicts = conflicts;
  ceilings = ceilings;
  duties = λ person duty at by_then.
      let early : day_of at ≤ day_of moment = omega (arith, by_then) in
      ap (λ ps. list_any (gives duty (day_of at)) (or_none (entry_of ps person))) of_f
      ∙ entries_exchanged (gives duty (day_of at)) people more name es fs person (same duty (day_of at) early)
      ∙ sym (ap (λ ps. list_any (gives duty (day_of at)) (or_none (entry_of ps person))) of_g);
}

pub changed_agree : (f g : RosterFields Cmnd) (moment : ℕ) (name duty : List ℕ) (old new : Days) (people more : List (List ℕ × List Entry))
    (before after : List Entry) → f.conflicts ≡ g.conflicts → f.ceilings ≡ g.ceilings
    → f.people ≡ people ++ (name, before ++ (duty, old) ∷ after) ∷ more → g.people ≡ people ++ (name, before ++ (duty, new) ∷ after) ∷ more
    → ((day : ℕ) → day ≤ day_of moment → hold old day ≡ hold new day) → AgreeUntil moment f g
changed_agree f g moment name duty old new people more before after conflicts ceilings of_f of_g same =
    exchanged_agree f g moment name people more (before ++ (duty, old) ∷ after) (before ++ (duty, new) ∷ after) conflicts ceilings of_f of_g
    (λ other day early. exchanged (gives other day) before ((duty, old) ∷ after) ((duty, new) ∷ after)
    (ap (λ b. (bytes_eq duty other && b) || list_any (gives other day) after) (same day early)))

pub begun_agree : (f g : RosterFields Cmnd) (moment : ℕ) (name duty : List ℕ) (from until : ℕ) (people more : List (List ℕ × List Entry))
    (before after : List Entry) → f.conflicts ≡ g.conflicts → f.ceilings ≡ g.ceilings → f.people ≡ people ++ (name, before ++ after) ∷ more
    → g.people ≡ people ++ (name, before ++ (duty, Between from until) ∷ after) ∷ more → day_of moment < from → AgreeUntil moment f g
begun_agree f g moment name duty from until people more before after conflicts ceilings of_f of_g ahead =
    exchanged_agree f g moment name people more (before ++ after) (before ++ (duty, Between from until) ∷ after) conflicts ceilings of_f of_g
    (λ other day early. exchanged (gives other day) before after ((duty, Between from until) ∷ after)
    (nothing (bytes_eq duty other) (hold (Between from until) day) (list_any (gives other day) after)
    (and_left (nat_le from day) (nat_le day until) (lt-leb from day (omega (arith, early, ahead))))))
  where
    nothing : (d h r : Bool) → h ≡ false → r ≡ ((d && h) || r)
    nothing true h r e = ap (λ b. b || r) (sym e)
    nothing false h r e = refl

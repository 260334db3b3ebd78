-- Names that have ended, and what a cut leaves of a set, with whatever comes later.
use Rattle.std.proofs.Common.{◌≡◌, ℕ, ◌<◌, ◌≤◌, nat_le, List, [], ◌∷◌, ◌++◌, ◌⊎◌, inl, inr, ap, ◌∙◌, refl, subst, arith}
use Rattle.std.specs.Prelude.{◌↔◌}
use Rattle.std.specs.List.{Contains}
use Rattle.std.proofs.lemmas.Bool.{cases_Bool, leb-true, leb-false}
use Rattle.std.proofs.lemmas.List.Elements.{Contains-append_left, Contains-append_right, Contains-append_cases}
use Rattle.sudo_words.specs.declared.cmnd.Cmnd.{Cmnd}
use Rattle.messages.specs.Fields.{RequestFields, VerdictFields}
use Rattle.messages.specs.Names.{IsAbout, IsNamed, NobodyAsks, SameMessages, name_meant, name_of}
use Rattle.messages.specs.declared.kind.VerdictKind.{VerdictKind}
use Rattle.messages.specs.declared.message.Message.{Message}
use Rattle.messages.specs.declared.message.Message.TheVariants.{Request, Verdict}
use Rattle.messages.specs.declared.request_name.RequestName.{RequestName}
use Rattle.roster.specs.Fields.{RosterFields}
use Rattle.grants.specs.Statuses.{InWindow}
use Rattle.grants.specs.Verdicts.{IsDisputed, IsGiven}
use Rattle.grants.proofs.StatusLaws as statuses
use Rattle.outcomes.specs.About.{name_in}
use Rattle.outcomes.specs.Parked.{AreParked, IsParked}
use Rattle.outcomes.proofs.Existence.{who_asks}
use Rattle.outcomes.proofs.Membership.{no_member, Contains-head, Contains-behind, Contains-cases}
use Rattle.outcomes.proofs.NameMaps.{same_cases}
use Rattle.outcomes.proofs.Standing.{name_from_named, named_from_name}
use Rattle.archive.specs.Archive.{HasEnded, IsArchive, IsCut, IsOver}

-- ---- names that have ended

one_asked : (p q : RequestFields) → ◌≡◌ {A = Message} (Request p) (Request q) → p ≡ q
one_asked p q e = cc

-- a request of the name lasts until the moment
abbrev pub Lasts : List Message → ℕ → RequestName → Type 0
Lasts set moment name = (q : RequestFields) × Contains set (Request q) × IsNamed q name × (moment ≤ q.until)

-- none does
abbrev pub NoneLasts : List Message → ℕ → RequestName → Type 0
NoneLasts set moment name = (q : RequestFields) → Contains set (Request q) → IsNamed q name → q.until < moment

lasts_behind : (m : Message) (more : List Message) (moment : ℕ) (name : RequestName) → Lasts more moment name → Lasts (m ∷ more) moment name
lasts_behind m more moment name l = (l.0, Contains-behind m more (Request l.0) l.1, l.2, l.3)

pub lasts_or_not : (set : List Message) (moment : ℕ) (name : RequestName) → Lasts set moment name ⊎ NoneLasts set moment name
lasts_or_not [] moment name = inr (λ q h named. absurd (no_member (Request q) h))
lasts_or_not (Verdict v ∷ more) moment name =
    elim (lasts_or_not more moment name) as (λ _. Lasts (Verdict v ∷ more) moment name ⊎ NoneLasts (Verdict v ∷ more) moment name) [
      | inl found ↦ inl (lasts_behind (Verdict v) more moment name found)
      | inr none ↦ inr (λ q h named. elim (Contains-cases (Verdict v) more (Request q) h) as (λ _. q.until < moment)
          [ inl wrong ↦ absurd cc | inr later ↦ none q later named ])
    ]
lasts_or_not (Request p ∷ more) moment name =
    let Found : Type 0 = Lasts (Request p ∷ more) moment name ⊎ NoneLasts (Request p ∷ more) moment name in
    elim (lasts_or_not more moment name) as (λ _. Found) [
      | inl found ↦ inl (lasts_behind (Request p) more moment name found)
      | inr none ↦ elim (same_cases (name_of p) name) as (λ _. Found) [
        | inr other ↦ inr (λ q h named. elim (Contains-cases (Request p) more (Request q) h) as (λ _. q.until < moment) [
          | inl same ↦ absurd (other (ap name_of (one_asked p q same) ∙ name_from_named q name named))
          | inr later ↦ none q later named
        ])
        | inl same ↦ elim (cases_Bool (nat_le moment p.until)) as (λ _. Found) [
          | inl late ↦ inl (p, Contains-head (Request p) more, named_from_name p name same, leb-true moment p.until late)
          | inr early ↦ inr (λ q h named. elim (Contains-cases (Request p) more (Request q) h) as (λ _. q.until < moment) [
            | inl one ↦ subst (λ (r : RequestFields). r.until < moment) (one_asked p q one) (leb-false moment p.until early)
            | inr later ↦ none q later named
          ])
        ]
      ]
    ]

pub ended_or_not : (set : List Message) (moment : ℕ) (name : RequestName) → HasEnded set moment name ⊎ (HasEnded set moment name → ⊥)
ended_or_not set moment name =
    let Either : Type 0 = HasEnded set moment name ⊎ (HasEnded set moment name → ⊥) in
    elim (who_asks set name) as (λ _. Either) [
      | inr nobody ↦ inr (λ ended. nobody ended.request ended.asked ended.named)
      | inl found ↦ elim (lasts_or_not set moment name) as (λ _. Either) [
        | inl lasts ↦ inr (λ ended. let early = ended.each lasts.0 lasts.1 lasts.2 in let late = lasts.3 in omega (arith, early, late))
        | inr none ↦ inl (record { request = found.0; asked = found.1; named = found.2; each = none })
      ]
    ]

pub over_or_not : (set : List Message) (moment : ℕ) (m : Message) → IsOver set moment m ⊎ (IsOver set moment m → ⊥)
over_or_not set moment (Request q) = inr (λ over. over)
over_or_not set moment (Verdict v) = ended_or_not set moment (name_meant v)

-- where the same requests are asked, the same names have ended
pub ended_same : (s t : List Message) (moment : ℕ) (name : RequestName) → ((q : RequestFields) → Contains s (Request q) → Contains t (Request q))
    → ((q : RequestFields) → Contains t (Request q) → Contains s (Request q)) → HasEnded s moment name → HasEnded t moment name
ended_same s t moment name to back ended =
    record { request = ended.request; asked = to ended.request ended.asked; named = ended.named; each = λ q h named. ended.each q (back q h) named }

pub over_same : (s t : List Message) (moment : ℕ) (m : Message) → ((q : RequestFields) → Contains s (Request q) → Contains t (Request q))
    → ((q : RequestFields) → Contains t (Request q) → Contains s (Request q)) → IsOver s moment m → IsOver t moment m
over_same s t moment (Request q) to back over = over
over_same s t moment (Verdict v) to back over = ended_same s t moment (name_meant v) to back over

-- and what has ended has ended later too
pub over_later : (set : List Message) (early late : ℕ) (m : Message) → early ≤ late → IsOver set early m → IsOver set late m
over_later set early late (Request q) before over = over
over_later set early late (Verdict v) before over = record {
  request = over.request;
  asked = over.asked;
  named = over.named;
  each = λ q h named. let ends = over.each q h named in omega (arith, ends, before);
}

-- no request of a name that has ended is in force at the moment or later
pub ended_before : (f : RosterFields Cmnd) (set more : List Message) (moment at : ℕ) (q : RequestFields)
    → ((p : RequestFields) → Contains set (Request p) → Contains more (Request p)) → HasEnded set moment (name_of q) → moment ≤ at → InWindow f more q at → ⊥
ended_before f set more moment at q to ended from w =
    let same : ended.request ≡ q = w.alone.alone ended.request (to ended.request ended.asked) ended.named in
    let last : q.until < moment = subst (λ (r : RequestFields). r.until < moment) same (ended.each ended.request ended.asked ended.named) in
    let until : at ≤ q.until = w.until in
    omega (arith, last, until, from)

-- where the same requests are asked, the same names are disputed
pub disputed_same : (s t : List Message) (name : RequestName) → ((q : RequestFields) → Contains s (Request q) → Contains t (Request q))
    → IsDisputed s name → IsDisputed t name
disputed_same s t name to d = record {
  first = d.first;
  second = d.second;
  first_asked = to d.first d.first_asked;
  second_asked = to d.second d.second_asked;
  first_named = d.first_named;
  second_named = d.second_named;
  differ = d.differ;
}

-- ---- what a cut leaves

module _ (set kept : List Message) (moment : ℕ) (cut : IsCut set moment kept) where
  pub asked_to : (q : RequestFields) → Contains set (Request q) → Contains kept (Request q)
  asked_to q h = (cut (Request q)).1 (h, λ over. over)

  pub asked_back : (q : RequestFields) → Contains kept (Request q) → Contains set (Request q)
  asked_back q h = ((cut (Request q)).0 h).0

  module _ (later : List Message) where
    pub into : (m : Message) → (IsOver set moment m → ⊥) → Contains (set ++ later) m → Contains (kept ++ later) m
    into m stays h =
        elim (Contains-append_cases set later m h) as (λ _. Contains (kept ++ later) m) [
          | inl old ↦ Contains-append_left kept later m ((cut m).1 (old, stays))
          | inr new ↦ Contains-append_right kept later m new
        ]

    pub back : (m : Message) → Contains (kept ++ later) m → Contains (set ++ later) m
    back m h =
        elim (Contains-append_cases kept later m h) as (λ _. Contains (set ++ later) m) [
          | inl old ↦ Contains-append_left set later m ((cut m).0 old).0
          | inr new ↦ Contains-append_right set later m new
        ]

    pub requests : (q : RequestFields) → Contains (set ++ later) (Request q) ↔ Contains (kept ++ later) (Request q)
    requests q = (into (Request q) (λ over. over), back (Request q))

    not_over : (m : Message) → (HasEnded set moment (name_in m) → ⊥) → IsOver set moment m → ⊥
    not_over (Request q) still over = over
    not_over (Verdict v) still over = still over

    pub about_still : (m : Message) → (HasEnded set moment (name_in m) → ⊥) → Contains (set ++ later) m ↔ Contains (kept ++ later) m
    about_still m still = (into m (not_over m still), back m)

    name_about : (q : RequestFields) (v : VerdictFields) → IsAbout q v → name_meant v ≡ name_of q
    name_about q v about = rw (about.0, about.1) refl

    -- the verdicts on a request whose name has not ended
    pub given : (f : RosterFields Cmnd) (q : RequestFields) → (HasEnded set moment (name_of q) → ⊥) → (kind : VerdictKind) (v : VerdictFields)
        → (IsGiven f (set ++ later) q kind v → IsGiven f (kept ++ later) q kind v) × (IsGiven f (kept ++ later) q kind v → IsGiven f (set ++ later) q kind v)
    given f q still kind v = (
      λ g. statuses.kept_given f (set ++ later) (kept ++ later) q kind v
          (into (Verdict v) (λ over. still (subst (HasEnded set moment) (name_about q v g.about) over))) g,
      λ g. statuses.kept_given f (kept ++ later) (set ++ later) q kind v (back (Verdict v)) g,
    )

    pub same_disputes : (name : RequestName) → IsDisputed (set ++ later) name ↔ IsDisputed (kept ++ later) name
    same_disputes name = (
      disputed_same (set ++ later) (kept ++ later) name (λ q. (requests q).0),
      disputed_same (kept ++ later) (set ++ later) name (λ q. (requests q).1),
    )

    pub same_nobody : (name : RequestName) → NobodyAsks (set ++ later) name ↔ NobodyAsks (kept ++ later) name
    same_nobody name = (λ nobody q h named. nobody q ((requests q).1 h) named, λ nobody q h named. nobody q ((requests q).0 h) named)

    -- ---- verdicts that wait

    parked_to : (v : VerdictFields) → IsParked (set ++ later) v → IsParked (kept ++ later) v
    parked_to v is = record {
      given = into (Verdict v) (λ over. is.waits over.request (Contains-append_left set later (Request over.request) over.asked) over.named) is.given;
      waits = (same_nobody (name_meant v)).0 is.waits;
    }

    parked_back : (v : VerdictFields) → IsParked (kept ++ later) v → IsParked (set ++ later) v
    parked_back v is = record { given = back (Verdict v) is.given; waits = (same_nobody (name_meant v)).1 is.waits }

    pub same_parked : (texts : List (List ℕ)) → AreParked (set ++ later) texts ↔ AreParked (kept ++ later) texts
    same_parked texts = (
      λ are. record {
        in_order = are.in_order;
        each = λ text m. let found = are.each text m in (found.0, parked_to found.0 found.1, found.2);
        all = λ v is. are.all v (parked_back v is);
      },
      λ are. record {
        in_order = are.in_order;
        each = λ text m. let found = are.each text m in (found.0, parked_back found.0 found.1, found.2);
        all = λ v is. are.all v (parked_to v is);
      },
    )

-- ---- cuts beside each other

pub one_cut : (s t kept other : List Message) (moment : ℕ) → SameMessages s t → IsCut s moment kept → IsCut t moment other → SameMessages kept other
one_cut s t kept other moment same cut also m =
    let to : (q : RequestFields) → Contains s (Request q) → Contains t (Request q) = λ q. (same (Request q)).0 in
    let back : (q : RequestFields) → Contains t (Request q) → Contains s (Request q) = λ q. (same (Request q)).1 in (
      λ h. let found = (cut m).0 h in (also m).1 ((same m).0 found.0, λ over. found.1 (over_same t s moment m back to over)),
      λ h. let found = (also m).0 h in (cut m).1 ((same m).1 found.0, λ over. found.1 (over_same s t moment m to back over)),
    )

pub cut_of_same : (s t kept : List Message) (moment : ℕ) → SameMessages s t → IsCut s moment kept → IsCut t moment kept
cut_of_same s t kept moment same cut m =
    let to : (q : RequestFields) → Contains s (Request q) → Contains t (Request q) = λ q. (same (Request q)).0 in
    let back : (q : RequestFields) → Contains t (Request q) → Contains s (Request q) = λ q. (same (Request q)).1 in (
      λ h. let found = (cut m).0 h in ((same m).0 found.0, λ over. found.1 (over_same t s moment m back to over)),
      λ both. (cut m).1 ((same m).1 both.0, λ over. both.1 (over_same s t moment m to back over)),
    )

pub archive_of_same : (s t archived : List Message) (moment : ℕ) → SameMessages s t → IsArchive s moment archived → IsArchive t moment archived
archive_of_same s t archived moment same archive m =
    let to : (q : RequestFields) → Contains s (Request q) → Contains t (Request q) = λ q. (same (Request q)).0 in
    let back : (q : RequestFields) → Contains t (Request q) → Contains s (Request q) = λ q. (same (Request q)).1 in (
      λ h. let found = (archive m).0 h in ((same m).0 found.0, over_same s t moment m to back found.1),
      λ both. (archive m).1 ((same m).1 both.0, over_same t s moment m back to both.1),
    )

pub whole_again : (set kept archived later : List Message) (moment : ℕ) → IsCut set moment kept → IsArchive set moment archived
    → SameMessages (set ++ later) ((kept ++ later) ++ archived)
whole_again set kept archived later moment cut archive m = (to, from)
  where
    to : Contains (set ++ later) m → Contains ((kept ++ later) ++ archived) m
    to h =
        elim (Contains-append_cases set later m h) as (λ _. Contains ((kept ++ later) ++ archived) m) [
          | inr new ↦ Contains-append_left (kept ++ later) archived m (Contains-append_right kept later m new)
          | inl old ↦ elim (over_or_not set moment m) as (λ _. Contains ((kept ++ later) ++ archived) m) [
            | inl over ↦ Contains-append_right (kept ++ later) archived m ((archive m).1 (old, over))
            | inr stays ↦ Contains-append_left (kept ++ later) archived m (Contains-append_left kept later m ((cut m).1 (old, stays)))
          ]
        ]

    from : Contains ((kept ++ later) ++ archived) m → Contains (set ++ later) m
    from h =
        elim (Contains-append_cases (kept ++ later) archived m h) as (λ _. Contains (set ++ later) m) [
          | inl there ↦ back set kept moment cut later m there
          | inr gone ↦ Contains-append_left set later m ((archive m).0 gone).0
        ]

pub cut_again : (set kept left : List Message) (early late : ℕ) → early ≤ late → IsCut set early kept → IsCut kept late left → IsCut set late left
cut_again set kept left early late before cut more m =
    let to = asked_to set kept early cut in
    let back = asked_back set kept early cut in (
      λ h. let found = (more m).0 h in (((cut m).0 found.0).0, λ over. found.1 (over_same set kept late m to back over)),
      λ h. (more m).1
          ((cut m).1 (h.0, λ over. h.1 (over_later set early late m before over)), λ over. h.1 (over_same kept set late m back to over)),
    )

pub cut_between : (set kept other : List Message) (early late : ℕ) → early ≤ late → IsCut set early kept → IsCut set late other → IsCut kept late other
cut_between set kept other early late before cut also m =
    let to = asked_to set kept early cut in
    let back = asked_back set kept early cut in (
      λ h.
          let found = (also m).0 h in
          ((cut m).1 (found.0, λ over. found.1 (over_later set early late m before over)), λ over. found.1 (over_same kept set late m back to over)),
      λ h. (also m).1 (((cut m).0 h.0).0, λ over. h.1 (over_same set kept late m to back over)),
    )

never_over : (set : List Message) (m : Message) → IsOver set 0 m → ⊥
never_over set (Request q) over = over
never_over set (Verdict v) over =
    let ends = over.each over.request over.asked over.named in omega (arith, ends)

pub cut_at_first : (set kept : List Message) → IsCut set 0 kept → SameMessages set kept
cut_at_first set kept cut m = (λ h. (cut m).1 (h, never_over set m), λ h. ((cut m).0 h).0)

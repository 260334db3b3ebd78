-- The worked cases: cuts of two small histories, and what is granted where messages come again.
use Rattle.std.proofs.Common.{◌≡◌, ℕ, ◌<◌, ◌≤◌, List, [], ◌∷◌, ◌++◌, ◌⊎◌, inl, inr, refl, sym, ap, subst, arith}
use Rattle.std.specs.List.{Contains}
use Rattle.messages.specs.Fields.{RequestFields, VerdictFields}
use Rattle.messages.specs.Names.{name_meant, name_of}
use Rattle.messages.specs.WorkedTexts.{bob_approves}
use Rattle.messages.specs.declared.message.Message.{Message}
use Rattle.messages.specs.declared.message.Message.TheVariants.{Request, Verdict}
use Rattle.grants.specs.Statuses.{InWindow}
use Rattle.grants.specs.Verdicts.{RevokedBy}
use Rattle.grants.specs.WorkedAdmission.{db_root, site}
use Rattle.outcomes.specs.Outcomes.{AreLive, IsLive, LiveGrant}
use Rattle.outcomes.specs.WorkedSet.{ann_asks_ls, early, worked}
use Rattle.outcomes.proofs.LawLemmas.{disputed_windows}
use Rattle.outcomes.proofs.Membership.{no_member, Contains-head, Contains-behind, Contains-cases}
use Rattle.archive.specs.Archive.{HasEnded, IsCut, IsOver}
use Rattle.archive.specs.WorkedCut.{ann_asked_before, ann_revokes, history, revoked}

-- ---- the messages of a written list

asked_first : (p : RequestFields) (more : List Message) (q : RequestFields) → Contains (Request p ∷ more) (Request q) → (p ≡ q) ⊎ Contains more (Request q)
asked_first p more q m =
    elim (Contains-cases (Request p) more (Request q) m) as (λ _. (p ≡ q) ⊎ Contains more (Request q)) [ inl same ↦ inl cc | inr later ↦ inr later ]

asked_behind : (v : VerdictFields) (more : List Message) (q : RequestFields) → Contains (Verdict v ∷ more) (Request q) → Contains more (Request q)
asked_behind v more q m =
    elim (Contains-cases (Verdict v) more (Request q) m) as (λ _. Contains more (Request q)) [ inl wrong ↦ absurd cc | inr later ↦ later ]

said_behind : (q : RequestFields) (more : List Message) (v : VerdictFields) → Contains (Request q ∷ more) (Verdict v) → Contains more (Verdict v)
said_behind q more v m =
    elim (Contains-cases (Request q) more (Verdict v) m) as (λ _. Contains more (Verdict v)) [ inl wrong ↦ absurd cc | inr later ↦ later ]

said_first : (w : VerdictFields) (more : List Message) (v : VerdictFields) → Contains (Verdict w ∷ more) (Verdict v) → (w ≡ v) ⊎ Contains more (Verdict v)
said_first w more v m =
    elim (Contains-cases (Verdict w) more (Verdict v) m) as (λ _. (w ≡ v) ⊎ Contains more (Verdict v)) [ inl same ↦ inl cc | inr later ↦ inr later ]

one_asked : (p q : RequestFields) → (p ≡ q) ⊎ Contains [] (Request q) → p ≡ q
one_asked p q (inl same) = same
one_asked p q (inr none) = absurd (no_member (Request q) none)

-- ---- a cut that leaves one request

module _ (q : RequestFields) (set : List Message) (moment : ℕ) (there : Contains set (Request q))
    (alone : (p : RequestFields) → Contains set (Request p) → q ≡ p)
    (about : (v : VerdictFields) → Contains set (Verdict v) → name_meant v ≡ name_of q) where
  abbrev left : List Message
  left = Request q ∷ []

  only_left : (m : Message) → Contains left m → Request q ≡ m
  only_left m h = elim (Contains-cases (Request q) [] m h) as (λ _. Request q ≡ m) [ inl same ↦ same | inr none ↦ absurd (no_member m none) ]

  stays_left : HasEnded set moment (name_of q) → (m : Message) → Contains set m → (IsOver set moment m → ⊥) → Contains left m
  stays_left ended (Request p) h stays = subst (λ (r : RequestFields). Contains left (Request r)) (alone p h) (Contains-head (Request q) [])
  stays_left ended (Verdict v) h stays = absurd (stays (subst (HasEnded set moment) (sym (about v h)) ended))

  was_there : (m : Message) → Request q ≡ m → Contains set m × (IsOver set moment m → ⊥)
  was_there m same = subst (λ (n : Message). Contains set n × (IsOver set moment n → ⊥)) same (there, λ over. over)

  pub one_left : HasEnded set moment (name_of q) → IsCut set moment left
  one_left ended = λ m. (λ h. was_there m (only_left m h), λ both. stays_left ended m both.0 both.1)

-- ---- a request that ends, and its approval

only_asked : (q : RequestFields) → Contains history (Request q) → ann_asked_before ≡ q
only_asked q m =
    elim (asked_first ann_asked_before (Verdict bob_approves ∷ []) q m) as (λ _. ann_asked_before ≡ q) [
      | inl same ↦ same
      | inr later ↦ absurd (no_member (Request q) (asked_behind bob_approves [] q later))
    ]

only_said : (v : VerdictFields) → Contains history (Verdict v) → name_meant v ≡ name_of ann_asked_before
only_said v m =
    elim (said_first bob_approves [] v (said_behind ann_asked_before (Verdict bob_approves ∷ []) v m)) as (λ _. name_meant v ≡ name_of ann_asked_before) [
      | inl same ↦ ap name_meant (sym same)
      | inr none ↦ absurd (no_member (Verdict v) none)
    ]

-- at its last moment the request has not ended
not_yet : (m : Message) → IsOver history 1_767_602_700 m → ⊥
not_yet (Request q) over = over
not_yet (Verdict v) over =
    let same : ann_asked_before ≡ over.request = only_asked over.request over.asked in
    let ends : over.request.until < 1_767_602_700 = over.each over.request over.asked over.named in
    let wrong : 1_767_602_700 < 1_767_602_700 = subst (λ (q : RequestFields). q.until < 1_767_602_700) (sym same) ends in
    omega (arith, wrong)

pub cut_at_last : IsCut history 1_767_602_700 history
cut_at_last = λ m. (λ h. (h, not_yet m), λ both. both.0)

-- a second later it has
has_ended : HasEnded history 1_767_602_701 (name_of ann_asked_before)
has_ended = record {
  request = ann_asked_before;
  asked = Contains-head (Request ann_asked_before) (Verdict bob_approves ∷ []);
  named = (refl, refl);
  each = λ q h named.
      let ends : 1_767_602_700 < 1_767_602_701 = omega arith in
      subst (λ (p : RequestFields). p.until < 1_767_602_701) (only_asked q h) ends;
}

pub cut_over : IsCut history 1_767_602_701 (Request ann_asked_before ∷ [])
cut_over =
    one_left ann_asked_before history 1_767_602_701 (Contains-head (Request ann_asked_before) (Verdict bob_approves ∷ [])) only_asked only_said has_ended

-- ---- its number is used again

abbrev again : List Message
again = Request ann_asked_before ∷ worked

differ : ann_asked_before ≡ ann_asks_ls → ⊥
differ same =
    let until : ◌≡◌ {A = ℕ} 1_767_602_700 1_767_610_800 = ap (λ (q : RequestFields). q.until) same in
    omega (arith, until)

asked_again : Contains again (Request ann_asks_ls)
asked_again =
    Contains-behind (Request ann_asked_before) worked (Request ann_asks_ls)
    (Contains-head (Request ann_asks_ls) (Verdict bob_approves ∷ Verdict early ∷ []))

only_worked : (q : RequestFields) → Contains worked (Request q) → ann_asks_ls ≡ q
only_worked q m =
    elim (asked_first ann_asks_ls (Verdict bob_approves ∷ Verdict early ∷ []) q m) as (λ _. ann_asks_ls ≡ q) [
      | inl same ↦ same
      | inr later ↦ absurd (no_member (Request q) (asked_behind early [] q (asked_behind bob_approves (Verdict early ∷ []) q later)))
    ]

none_live : (at : ℕ) (l : LiveGrant) → IsLive site again at l → ⊥
none_live at l is =
    let apart = disputed_windows site again ann_asked_before ann_asks_ls at
    (Contains-head (Request ann_asked_before) worked) asked_again (refl, refl) differ in
    elim (asked_first ann_asked_before worked is.request is.inside.alone.asked) as (λ _. ⊥) [
      | inl same ↦ apart.0 (subst (λ (q : RequestFields). InWindow site again q at) (sym same) is.inside)
      | inr more ↦ apart.1 (subst (λ (q : RequestFields). InWindow site again q at) (sym (only_worked is.request more)) is.inside)
    ]

pub nothing_live : (at : ℕ) → AreLive site again at []
nothing_live at = record { in_order = tt; each = λ l m. absurd (no_member l m); all = λ l is. absurd (none_live at l is) }

-- ---- a request that was revoked, cut at a moment that has not come

abbrev said : List Message
said = Verdict bob_approves ∷ Verdict ann_revokes ∷ []

revoked_asked : (q : RequestFields) → Contains revoked (Request q) → ann_asks_ls ≡ q
revoked_asked q m =
    elim (asked_first ann_asks_ls said q m) as (λ _. ann_asks_ls ≡ q) [
      | inl same ↦ same
      | inr later ↦ absurd (no_member (Request q) (asked_behind ann_revokes [] q (asked_behind bob_approves (Verdict ann_revokes ∷ []) q later)))
    ]

revoked_said : (v : VerdictFields) → Contains revoked (Verdict v) → name_meant v ≡ name_of ann_asks_ls
revoked_said v m =
    elim (said_first bob_approves (Verdict ann_revokes ∷ []) v (said_behind ann_asks_ls said v m)) as (λ _. name_meant v ≡ name_of ann_asks_ls) [
      | inl same ↦ ap name_meant (sym same)
      | inr later ↦ elim (said_first ann_revokes [] v later) as (λ _. name_meant v ≡ name_of ann_asks_ls) [
        | inl same ↦ ap name_meant (sym same)
        | inr none ↦ absurd (no_member (Verdict v) none)
      ]
    ]

pub cut_early : IsCut revoked 1_767_610_801 (Request ann_asks_ls ∷ [])
cut_early =
    one_left ann_asks_ls revoked 1_767_610_801 (Contains-head (Request ann_asks_ls) said) revoked_asked revoked_said (record {
      request = ann_asks_ls;
      asked = Contains-head (Request ann_asks_ls) said;
      named = (refl, refl);
      each = λ q h named.
          let ends : 1_767_610_800 < 1_767_610_801 = omega arith in
          subst (λ (p : RequestFields). p.until < 1_767_610_801) (revoked_asked q h) ends;
    })

abbrev come : List Message
come = Verdict bob_approves ∷ Verdict early ∷ []

come_asked : (q : RequestFields) → Contains (revoked ++ come) (Request q) → ann_asks_ls ≡ q
come_asked q m =
    elim (asked_first ann_asks_ls (said ++ come) q m) as (λ _. ann_asks_ls ≡ q) [
      | inl same ↦ same
      | inr later ↦ absurd (no_member (Request q) (asked_behind early [] q (asked_behind bob_approves (Verdict early ∷ []) q
          (asked_behind ann_revokes come q (asked_behind bob_approves (Verdict ann_revokes ∷ come) q later)))))
    ]

is_revoked : RevokedBy site (revoked ++ come) ann_asks_ls 1_767_603_600
is_revoked = record {
  verdict = ann_revokes;
  given = record {
    given = Contains-behind (Request ann_asks_ls) (said ++ come) (Verdict ann_revokes)
        (Contains-behind (Verdict bob_approves) (Verdict ann_revokes ∷ come) (Verdict ann_revokes) (Contains-head (Verdict ann_revokes) come));
    about = (refl, refl);
    kind_is = refl;
    ceiling = db_root;
    ceiling_is = refl;
    counts_is = refl;
  };
  by_then = before;
}
  where
    before : 1_767_602_400 ≤ 1_767_603_600
    before = omega arith

revoked_live : (l : LiveGrant) → IsLive site (revoked ++ come) 1_767_603_600 l → ⊥
revoked_live l is =
    let inside = subst (λ (q : RequestFields). InWindow site (revoked ++ come) q 1_767_603_600)
    (sym (come_asked is.request is.inside.alone.asked)) is.inside in
    inside.unrevoked is_revoked

pub nothing_again : AreLive site (revoked ++ come) 1_767_603_600 []
nothing_again = record { in_order = tt; each = λ l m. absurd (no_member l m); all = λ l is. absurd (revoked_live l is) }

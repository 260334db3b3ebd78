-- The worked set: the summary that stands for it, and what that gives.
use Rattle.std.proofs.Common.{◌≡◌, ℕ, false, List, [], ◌∷◌, ◌++◌, refl, sym, ap, ◌∙◌, subst, arith, inl, inr, lit≤}
use Rattle.std.specs.Prelude.{codes}
use Rattle.std.specs.Fmt.{digits}
use Rattle.std.specs.List.{Contains}
use Rattle.sudo_words.specs.Moment.{date_from_month, date_from_year, date_of}
use Rattle.sudo_policy.specs.Printing.{canon}
use Rattle.messages.specs.Fields.{RequestFields, VerdictFields}
use Rattle.messages.specs.Names.{NobodyAsks, name_meant, name_of}
use Rattle.messages.specs.Wire.{escaped, moment_text, quoted, wire}
use Rattle.messages.specs.WorkedTexts.{bob_approves}
use Rattle.messages.specs.declared.request_name.RequestName.{RequestName}
use Rattle.messages.specs.declared.message.Message.{Message}
use Rattle.messages.specs.declared.message.Message.TheVariants.{Request, Verdict}
use Rattle.grants.specs.Admission.{AdmitsRequest}
use Rattle.grants.specs.Statuses.{IsStatus}
use Rattle.grants.specs.Summaries.{Kept, StandsFor}
use Rattle.grants.specs.WorkedAdmission.{db_root, site}
use Rattle.grants.specs.private.Status.{admitted_status}
use Rattle.grants.specs.declared.outcome.Status.{Status}
use Rattle.grants.specs.declared.outcome.Status.TheVariants.{Granted}
use Rattle.grants.proofs.AdmissionLemmas.{within}
use Rattle.grants.proofs.StandLemmas as standing
use Rattle.grants.proofs.StatusLemmas.{admitted_is}
use Rattle.outcomes.specs.HostFile.{AreLines, Line, lines_after, with_lines}
use Rattle.outcomes.specs.Outcomes.{AreLive, LiveGrant}
use Rattle.outcomes.specs.Parked.{AreParked, IsParked}
use Rattle.outcomes.specs.WorkedSet.{ann_asks_ls, base, early, grant, worked}
use Rattle.outcomes.specs.private.InTurn.{live_for}
use Rattle.outcomes.proofs.Existence.{asked_alone}
use Rattle.outcomes.proofs.GivenLists.{AsksPast, IsRoll, roll_of_some}
use Rattle.outcomes.proofs.HostLines.{are_lines, lines_for}
use Rattle.outcomes.proofs.LiveLemmas.{are_live}
use Rattle.outcomes.proofs.Membership.{no_member, Contains-head, Contains-behind, Contains-cases}
use Rattle.outcomes.proofs.Standing.{stands_still}

one_request : (p q : RequestFields) → ◌≡◌ {A = Message} (Request p) (Request q) → p ≡ q
one_request p q e = cc

one_verdict : (v w : VerdictFields) → ◌≡◌ {A = Message} (Verdict v) (Verdict w) → v ≡ w
one_verdict v w e = cc

-- ---- its messages

only_request : (q : RequestFields) → Contains worked (Request q) → ann_asks_ls ≡ q
only_request q m =
    elim (Contains-cases (Request ann_asks_ls) (Verdict bob_approves ∷ Verdict early ∷ []) (Request q) m) as (λ _. ann_asks_ls ≡ q) [
      | inl same ↦ one_request ann_asks_ls q same
      | inr later ↦ elim (Contains-cases (Verdict bob_approves) (Verdict early ∷ []) (Request q) later) as (λ _. ann_asks_ls ≡ q) [
        | inl wrong ↦ absurd cc
        | inr last ↦ elim (Contains-cases (Verdict early) [] (Request q) last)
            as (λ _. ann_asks_ls ≡ q) [ inl wrong ↦ absurd cc | inr none ↦ absurd (no_member (Request q) none) ]
      ]
    ]

nobody_asks : NobodyAsks worked (name_meant early)
nobody_asks = λ q m named.
    let no : ◌≡◌ {A = ℕ} 7 8 = ap (λ (p : RequestFields). p.no) (only_request q m) ∙ named.1 in
    absurd (omega (arith, no))

-- ---- its summary

abbrev fresh : Kept
fresh = record { request = ann_asks_ls; is_disputed = false; approvals = []; refusals = []; revocations = [] }

abbrev kept : Kept
kept = record fresh { approvals = record { person = codes "bob"; at = 1_767_601_800 } ∷ [] }

other_name : name_meant early ≡ name_of ann_asks_ls → ⊥
other_name same =
    let no : ◌≡◌ {A = ℕ} 8 7 = ap (λ (n : RequestName). n.no) same in
    absurd (omega (arith, no))

stands : StandsFor worked kept
stands =
    let approved : StandsFor (Request ann_asks_ls ∷ Verdict bob_approves ∷ []) kept = standing.approved (Request ann_asks_ls ∷ []) fresh bob_approves
    (codes "bob") 1_767_601_800 kept.approvals (refl, refl) refl refl refl refl (asked_alone ann_asks_ls) in
    stands_still (Request ann_asks_ls ∷ Verdict bob_approves ∷ []) (Verdict early) kept other_name approved

admits : AdmitsRequest site ann_asks_ls
admits = record {
  ceiling = db_root;
  may_ask = record { listed = refl; ceiling_is = refl; may_ask = refl };
  within = within site ann_asks_ls db_root refl refl refl;
  in_time = record { short = lit≤ tt; ahead = lit≤ tt; forward = lit≤ tt };
}

abbrev status : Status
status = Granted grant.window

granted : IsStatus site worked (name_of ann_asks_ls) status
granted =
    let is : admitted_status site db_root kept ≡ status = refl in
    subst (IsStatus site worked (name_of ann_asks_ls)) is (admitted_is site db_root worked kept refl (lit≤ tt) admits refl stands)

roll : IsRoll worked (kept ∷ [])
roll = record {
  in_order = (tt, tt);
  stands = λ k m.
      elim (Contains-cases kept [] k m) as (λ _. StandsFor worked k) [ inl same ↦ subst (StandsFor worked) same stands | inr none ↦ absurd (no_member k none) ];
  alone = λ q alone any. (kept, Contains-head kept [], only_request q alone.asked);
}

-- ---- what they give

pub live : (moment : ℕ) (list : List LiveGrant) → list ≡ live_for moment ann_asks_ls status ++ [] → AreLive site worked moment list
live moment list is = are_live site worked moment (kept ∷ []) (roll_of_some worked (AsksPast moment) (kept ∷ []) roll) list ([], status, refl, granted, is)

abbrev pub lines_on : List ℕ → List Line
lines_on host = lines_for host ann_asks_ls status ++ []

pub lines : (host : List ℕ) → AreLines site worked host (lines_on host)
lines host = are_lines site worked host (kept ∷ []) roll (lines_on host) ([], status, refl, granted, refl)

pub text_on_db1 : codes "bob db1 = (root) ALL\nann db1 = (root) NOTBEFORE=20260105090000Z NOTAFTER=20260105110000Z /bin/ls\n"
    ≡ canon (with_lines base (lines_on (codes "db1")))
unfolding digits date_of date_from_year date_from_month
text_on_db1 = refl

pub text_on_db2 : codes "bob db1 = (root) ALL\n" ≡ canon (with_lines base (lines_on (codes "db2")))
text_on_db2 = refl

pub text_after : codes "bob db1 = (root) ALL\n" ≡ canon (with_lines base (lines_after 1_767_610_801 (lines_on (codes "db1"))))
text_after = refl

-- ---- what is parked

abbrev pub parked_text : List ℕ
parked_text = codes "{\"at\":\"20260105083000Z\",\"by\":\"bob\",\"kind\":\"approve\",\"no\":8,\"of\":\"carol\"}"

text_is : parked_text ≡ wire (Verdict early)
unfolding moment_text quoted escaped digits date_of date_from_year date_from_month
text_is = refl

only_parked : (v : VerdictFields) → IsParked worked v → early ≡ v
only_parked v is =
    elim (Contains-cases (Request ann_asks_ls) (Verdict bob_approves ∷ Verdict early ∷ []) (Verdict v) is.given) as (λ _. early ≡ v) [
      | inl wrong ↦ absurd cc
      | inr later ↦ elim (Contains-cases (Verdict bob_approves) (Verdict early ∷ []) (Verdict v) later) as (λ _. early ≡ v) [
        | inl same ↦
            let waits : NobodyAsks worked (name_meant bob_approves) =
            subst (λ (w : VerdictFields). NobodyAsks worked (name_meant w)) (sym (one_verdict bob_approves v same)) is.waits in
            absurd (waits ann_asks_ls (Contains-head (Request ann_asks_ls) (Verdict bob_approves ∷ Verdict early ∷ [])) (refl, refl))
        | inr last ↦ elim (Contains-cases (Verdict early) [] (Verdict v) last) as (λ _. early ≡ v) [
          | inl same ↦ one_verdict early v same
          | inr none ↦ absurd (no_member (Verdict v) none)
        ]
      ]
    ]

pub parked : AreParked worked (parked_text ∷ [])
parked = record {
  in_order = (tt, tt);
  each = λ text m. elim (Contains-cases parked_text [] text m) as (λ _. (v : VerdictFields) × IsParked worked v × (text ≡ wire (Verdict v))) [
    | inl same ↦ (early, record { given = there; waits = nobody_asks }, sym same ∙ text_is)
    | inr none ↦ absurd (no_member text none)
  ];
  all = λ v is. subst (λ (w : VerdictFields). Contains (parked_text ∷ []) (wire (Verdict w)))
      (only_parked v is) (subst (Contains (parked_text ∷ [])) text_is (Contains-head parked_text []));
}
  where
    there : Contains worked (Verdict early)
    there =
        Contains-behind (Request ann_asks_ls) (Verdict bob_approves ∷ Verdict early ∷ []) (Verdict early)
        (Contains-behind (Verdict bob_approves) (Verdict early ∷ []) (Verdict early) (Contains-head (Verdict early) []))

-- What the worked team's messages come to, by the summary that stands for them.
use Rattle.std.proofs.Common.{◌≡◌, ℕ, ◌+◌, ◌≤◌, Option, arith, false, List, [], ◌∷◌, ◌++◌, map, Some, refl, sym, ap, subst, lit≤}
use Rattle.std.specs.List.{AllByRecursion, Contains}
use Rattle.std.proofs.lemmas.List.{append_assoc, append-nil}
use Rattle.sudo_words.specs.declared.cmnd.Cmnd.{Cmnd}
use Rattle.roster.specs.Fields.{CeilingFields}
use Rattle.messages.specs.Fields.{RequestFields, VerdictFields}
use Rattle.messages.specs.Names.{name_of, IsAbout}
use Rattle.messages.specs.declared.message.Message.{Message}
use Rattle.messages.specs.declared.message.Message.TheVariants.{Request, Verdict}
use Rattle.messages.specs.declared.kind.VerdictKind.{VerdictKind}
use Rattle.messages.specs.declared.kind.VerdictKind.TheVariants.{Approve, Refuse, Revoke}
use Rattle.messages.proofs.OneMessage.{one_request}
use Rattle.roster.specs.Relations.{ceiling_at}
use Rattle.grants.specs.Admission.{AdmitsRequest}
use Rattle.grants.specs.private.Noting.{noted}
use Rattle.grants.specs.private.Status.{admitted_status}
use Rattle.grants.specs.Statuses.{IsStatus}
use Rattle.grants.specs.Summaries.{Kept, StandsFor}
use Rattle.grants.specs.WorkedAdmission.{asked, asked_from}
use Rattle.grants.specs.WorkedStatuses.{VerdictsComeToByDays, VerdictsComeTo, by_two, for_the_second, rota, shorter, team}
use Rattle.grants.specs.declared.outcome.Status.{Status}
use Rattle.grants.specs.declared.outcome.Status.TheVariants.{Disputed, Lapsed}
use Rattle.grants.proofs.AdmissionLemmas.{within}
use Rattle.grants.proofs.MarkLemmas.{keep_nothing}
use Rattle.grants.proofs.MemberCases.{head_is}
use Rattle.grants.proofs.Members.{Contains-head, Contains-behind}
use Rattle.grants.proofs.StandLemmas.{approved, refused, revoked}
use Rattle.grants.proofs.StatusLemmas.{admitted_is, lapsed_is}

-- ---- the summary of a request and verdicts

abbrev fresh : RequestFields → Kept
fresh q = record { request = q; is_disputed = false; approvals = []; refusals = []; revocations = [] }

stands_fresh : (q : RequestFields) → StandsFor (Request q ∷ []) (fresh q)
stands_fresh q = record {
  asked = Contains-head (Request q) [];
  alone = λ _ p h named. sym (one_request q p (head_is (Request q) (Request p) h));
  other = λ two. absurd cc;
  approvals = keep_nothing (Request q ∷ []) q Approve (λ v h about is. no_verdict v h);
  refusals = keep_nothing (Request q ∷ []) q Refuse (λ v h about is. no_verdict v h);
  revocations = keep_nothing (Request q ∷ []) q Revoke (λ v h about is. no_verdict v h);
}
  where
    no_verdict : (v : VerdictFields) → Contains (Request q ∷ []) (Verdict v) → ⊥
    no_verdict v h = let same : ◌≡◌ {A = Message} (Request q) (Verdict v) = head_is (Request q) (Verdict v) h in cc

abbrev took : VerdictKind → Kept → VerdictFields → Kept
took Approve k v = record k { approvals = noted v.by v.at k.approvals }
took Refuse k v = record k { refusals = noted v.by v.at k.refusals }
took Revoke k v = record k { revocations = noted v.by v.at k.revocations }

stands_took : (kind : VerdictKind) (set : List Message) (k : Kept) (v : VerdictFields) → v.kind ≡ kind
    → IsAbout k.request v → StandsFor set k → StandsFor (set ++ Verdict v ∷ []) (took kind k v)
stands_took Approve set k v is about s = approved set k v v.by v.at (noted v.by v.at k.approvals) about is refl refl refl s
stands_took Refuse set k v is about s = refused set k v v.by v.at (noted v.by v.at k.refusals) about is refl refl refl s
stands_took Revoke set k v is about s = revoked set k v v.by v.at (noted v.by v.at k.revocations) about is refl refl refl s

still_about : (kind : VerdictKind) (k : Kept) (v w : VerdictFields) → IsAbout k.request w → IsAbout (took kind k v).request w
still_about Approve k v w about = about
still_about Refuse k v w about = about
still_about Revoke k v w about = about

abbrev took_all : Kept → List VerdictFields → Kept
took_all k [] = k
took_all k (v ∷ vs) = took_all (took v.kind k v) vs

all_about : (kind : VerdictKind) (k : Kept) (v : VerdictFields) (vs : List VerdictFields)
    → AllByRecursion (IsAbout k.request) vs → AllByRecursion (IsAbout (took kind k v).request) vs
all_about kind k v [] all = tt
all_about kind k v (w ∷ vs) all = (still_about kind k v w all.0, all_about kind k v vs all.1)

stands_all : (set : List Message) (k : Kept) (vs : List VerdictFields) → AllByRecursion (IsAbout k.request) vs
    → StandsFor set k → StandsFor (set ++ map Verdict vs) (took_all k vs)
stands_all set k [] all s = subst (λ (t : List Message). StandsFor t k) (sym (append-nil set)) s
stands_all set k (v ∷ vs) all s =
    subst (λ (t : List Message). StandsFor t (took_all (took v.kind k v) vs)) (append_assoc set (Verdict v ∷ []) (map Verdict vs))
    (stands_all (set ++ Verdict v ∷ []) (took v.kind k v) vs (all_about v.kind k v vs all.1) (stands_took v.kind set k v refl all.0 s))

-- ---- the team

team_admits : AdmitsRequest team asked
team_admits = record {
  ceiling = by_two;
  may_ask = record { listed = refl; ceiling_is = refl; may_ask = refl };
  within = within team asked by_two refl refl refl;
  in_time = record { short = lit≤ tt; ahead = lit≤ tt; forward = lit≤ tt };
}

pub comes_to : (verdicts : List VerdictFields) (status : Status) → AllByRecursion (IsAbout asked) verdicts → (took_all (fresh asked) verdicts).request ≡ asked
    → (took_all (fresh asked) verdicts).is_disputed ≡ false → admitted_status team by_two (took_all (fresh asked) verdicts) ≡ status
    → VerdictsComeTo verdicts status
comes_to verdicts status all same single e =
    let k = took_all (fresh asked) verdicts in
    let stands = stands_all (Request asked ∷ []) (fresh asked) verdicts all (stands_fresh asked) in
    let is = admitted_is team by_two (Request asked ∷ map Verdict verdicts) k (subst (λ (q : RequestFields). ceiling_at team q.ceiling ≡ Some by_two)
    (sym same) refl) (lit≤ tt) (subst (AdmitsRequest team) (sym same) team_admits) single stands in
    subst (λ (x : Status). VerdictsComeTo verdicts x) e
    (subst (λ (q : RequestFields). IsStatus team (Request asked ∷ map Verdict verdicts) (name_of q) (admitted_status team by_two k)) same is)

rota_admits : AdmitsRequest rota for_the_second
rota_admits = record {
  ceiling = by_two;
  may_ask = record { listed = refl; ceiling_is = refl; may_ask = refl };
  within = within rota for_the_second by_two refl refl refl;
  in_time = record { short = lit≤ tt; ahead = lit≤ tt; forward = lit≤ tt };
}

pub comes_to_by_days : (verdicts : List VerdictFields) (status : Status) → AllByRecursion (IsAbout for_the_second) verdicts
    → (took_all (fresh for_the_second) verdicts).request ≡ for_the_second → (took_all (fresh for_the_second) verdicts).is_disputed ≡ false
    → admitted_status rota by_two (took_all (fresh for_the_second) verdicts) ≡ status → VerdictsComeToByDays verdicts status
comes_to_by_days verdicts status all same single e =
    let q = for_the_second in
    let k = took_all (fresh q) verdicts in
    let stands = stands_all (Request q ∷ []) (fresh q) verdicts all (stands_fresh q) in
    let is =
    admitted_is rota by_two (Request q ∷ map Verdict verdicts) k (subst (λ (p : RequestFields). ceiling_at rota p.ceiling ≡ Some by_two) (sym same) refl)
    (lit≤ tt) (subst (AdmitsRequest rota) (sym same) rota_admits) single stands in
    subst (λ (x : Status). VerdictsComeToByDays verdicts x) e
    (subst (λ (p : RequestFields). IsStatus rota (Request q ∷ map Verdict verdicts) (name_of p) (admitted_status rota by_two k)) same is)

-- ---- disputed and lapsed

one_until : (p q : RequestFields) → p ≡ q → p.until ≡ q.until
one_until p q e = ap (λ (x : RequestFields). x.until) e

pub team_disputed : IsStatus team (Request asked ∷ Request (asked_from 32_400 36_000) ∷ []) (name_of asked) Disputed
team_disputed = record {
  first = asked;
  second = asked_from 32_400 36_000;
  first_asked = Contains-head (Request asked) (Request (asked_from 32_400 36_000) ∷ []);
  second_asked = Contains-behind (Request asked) (Request (asked_from 32_400 36_000) ∷ []) (Request (asked_from 32_400 36_000))
      (Contains-head (Request (asked_from 32_400 36_000)) []);
  first_named = (refl, refl);
  second_named = (refl, refl);
  differ = λ e. let same : ◌≡◌ {A = ℕ} 39_600 36_000 = one_until asked (asked_from 32_400 36_000) e in absurd (omega (arith, same));
}

one_ceiling : (c d : CeilingFields Cmnd) → ◌≡◌ {A = Option (CeilingFields Cmnd)} (Some c) (Some d) → c ≡ d
one_ceiling c d e = cc

too_long : ¬ AdmitsRequest shorter asked
too_long = λ h.
    let longest : ◌≡◌ {A = ℕ} 7199 h.ceiling.longest =
    ap (λ (c : CeilingFields Cmnd). c.longest) (one_ceiling (record by_two { longest = 7199 }) h.ceiling h.may_ask.ceiling_is) in
    let short : 39_600 ≤ 32_400 + h.ceiling.longest = h.in_time.short in
    absurd (omega (arith, longest, short))

pub team_lapsed : IsStatus shorter (Request asked ∷ []) (name_of asked) Lapsed
team_lapsed = lapsed_is shorter (Request asked ∷ []) (fresh asked) too_long refl (stands_fresh asked)

-- What is told about a name, as a message joins the set.
use Rattle.std.proofs.Common.{◌≡◌, List, [], ◌∷◌, ◌++◌, sym, ap, ◌∙◌, subst, inl, inr}
use Rattle.std.specs.List.{Contains}
use Rattle.std.proofs.lemmas.List.Elements.{Contains-append_left, Contains-push, Contains-push_cases}
use Rattle.messages.specs.Fields.{RequestFields, VerdictFields}
use Rattle.messages.specs.Names.{name_meant, name_of}
use Rattle.messages.specs.Order.{AreInOrder, TextPrecedes}
use Rattle.messages.specs.Wire.{request_text, verdict_text}
use Rattle.messages.specs.declared.message.Message.{Message}
use Rattle.messages.specs.declared.message.Message.TheVariants.{Request, Verdict}
use Rattle.messages.specs.declared.request_name.RequestName.{RequestName}
use Rattle.outcomes.proofs.Membership.{no_member}
use Rattle.desk_audit.specs.Told.{TellsMessages, name_in}
use Rattle.findings.specs.declared.entry.About.{About}
use Rattle.desk_audit.specs.private.ByName.{IsBehind, NobodySpeaks}
use Rattle.desk_audit.proofs.ListLemmas.{pushed_in_order}

abbrev pub RequestPrecedes : (q r : RequestFields) → Type 0
RequestPrecedes q r = TextPrecedes (request_text q) (request_text r)

abbrev pub VerdictPrecedes : (v w : VerdictFields) → Type 0
VerdictPrecedes v w = TextPrecedes (verdict_text v) (verdict_text w)

-- ---- one of two messages

one_request : (p q : RequestFields) → ◌≡◌ {A = Message} (Request p) (Request q) → p ≡ q
one_request p q e = cc

one_verdict : (v w : VerdictFields) → ◌≡◌ {A = Message} (Verdict v) (Verdict w) → v ≡ w
one_verdict v w e = cc

-- another message is one of the shorter set, where the new one is about another name
pub was_among : (set : List Message) (m n : Message) (name : RequestName)
    → (name_in m ≡ name → ⊥) → Contains (set ++ m ∷ []) n → name_in n ≡ name → Contains set n
was_among set m n name differ there named =
    elim (Contains-push_cases set m n there) as (λ _. Contains set n) [
      | inl before ↦ before
      | inr here ↦ absurd (differ (ap name_in here ∙ named))
    ]

-- ---- no message is about the name

pub told_none : (set : List Message) (name : RequestName) (about : About) → about.requests.items ≡ []
    → about.verdicts.items ≡ [] → NobodySpeaks set name → TellsMessages set name about
told_none set name about no_requests no_verdicts nobody = record {
  requests_in_order = subst (AreInOrder RequestPrecedes) (sym no_requests) tt;
  verdicts_in_order = subst (AreInOrder VerdictPrecedes) (sym no_verdicts) tt;
  requests = λ q. (
    (λ among. absurd (no_member q (subst (λ (qs : List RequestFields). Contains qs q) no_requests among))),
    (λ there. absurd (nobody (Request q) there.0 there.1)),
  );
  verdicts = λ v. (
    (λ among. absurd (no_member v (subst (λ (vs : List VerdictFields). Contains vs v) no_verdicts among))),
    (λ there. absurd (nobody (Verdict v) there.0 there.1)),
  );
}

-- ---- a message about another name

pub told_beside : (set : List Message) (m : Message) (name : RequestName) (about : About)
    → (name_in m ≡ name → ⊥) → TellsMessages set name about → TellsMessages (set ++ m ∷ []) name about
told_beside set m name about differ told = record {
  requests_in_order = told.requests_in_order;
  verdicts_in_order = told.verdicts_in_order;
  requests = λ q. (
    (λ among. let was = (told.requests q).0 among in (Contains-append_left set (m ∷ []) (Request q) was.0, was.1)),
    (λ there. (told.requests q).1 (was_among set m (Request q) name differ there.0 there.1, there.1)),
  );
  verdicts = λ v. (
    (λ among. let was = (told.verdicts v).0 among in (Contains-append_left set (m ∷ []) (Verdict v) was.0, was.1)),
    (λ there. (told.verdicts v).1 (was_among set m (Verdict v) name differ there.0 there.1, there.1)),
  );
}

-- ---- a request of the name

module _ (set : List Message) (q : RequestFields) (old new : About) (pushed : new.requests.items
    ≡ old.requests.items ++ q ∷ []) (same : new.verdicts.items ≡ old.verdicts.items) (told : TellsMessages set (name_of q) old) where
  abbrev asked : List Message
  asked = set ++ Request q ∷ []

  request_from : (r : RequestFields) → Contains new.requests.items r → Contains asked (Request r) × (name_of r ≡ name_of q)
  request_from r among =
      elim (Contains-push_cases old.requests.items q r (subst (λ (qs : List RequestFields). Contains qs r) pushed among))
      as (λ _. Contains asked (Request r) × (name_of r ≡ name_of q)) [
        | inl before ↦ let was = (told.requests r).0 before in (Contains-append_left set (Request q ∷ []) (Request r) was.0, was.1)
        | inr here ↦ (subst (λ (x : RequestFields). Contains asked (Request x)) here (Contains-push set (Request q)), ap name_of (sym here))
      ]

  request_to : (r : RequestFields) → Contains asked (Request r) × (name_of r ≡ name_of q) → Contains new.requests.items r
  request_to r there =
      subst (λ (qs : List RequestFields). Contains qs r) (sym pushed)
      (elim (Contains-push_cases set (Request q) (Request r) there.0) as (λ _. Contains (old.requests.items ++ q ∷ []) r) [
        | inl before ↦ Contains-append_left old.requests.items (q ∷ []) r ((told.requests r).1 (before, there.1))
        | inr here ↦ subst (λ (x : RequestFields). Contains (old.requests.items ++ q ∷ []) x) (one_request q r here) (Contains-push old.requests.items q)
      ])

  verdict_stays : (v : VerdictFields) → Contains asked (Verdict v) → Contains set (Verdict v)
  verdict_stays v there =
      elim (Contains-push_cases set (Request q) (Verdict v) there) as (λ _. Contains set (Verdict v)) [ inl before ↦ before | inr wrong ↦ absurd cc ]

  pub told_request : IsBehind set (Request q) → TellsMessages asked (name_of q) new
  told_request behind = record {
    requests_in_order = subst (AreInOrder RequestPrecedes) (sym pushed)
        (pushed_in_order RequestPrecedes old.requests.items q told.requests_in_order (λ r among. behind (Request r) ((told.requests r).0 among).0));
    verdicts_in_order = subst (AreInOrder VerdictPrecedes) (sym same) told.verdicts_in_order;
    requests = λ r. (request_from r, request_to r);
    verdicts = λ v. (
      (λ among.
          let was = (told.verdicts v).0 (subst (λ (vs : List VerdictFields). Contains vs v) same among) in
          (Contains-append_left set (Request q ∷ []) (Verdict v) was.0, was.1)),
      (λ there. subst (λ (vs : List VerdictFields). Contains vs v) (sym same) ((told.verdicts v).1 (verdict_stays v there.0, there.1))),
    );
  }

-- ---- a verdict about it

module _ (set : List Message) (v : VerdictFields) (old new : About) (pushed : new.verdicts.items
    ≡ old.verdicts.items ++ v ∷ []) (same : new.requests.items ≡ old.requests.items) (told : TellsMessages set (name_meant v) old) where
  abbrev given : List Message
  given = set ++ Verdict v ∷ []

  verdict_from : (w : VerdictFields) → Contains new.verdicts.items w → Contains given (Verdict w) × (name_meant w ≡ name_meant v)
  verdict_from w among =
      elim (Contains-push_cases old.verdicts.items v w (subst (λ (vs : List VerdictFields). Contains vs w) pushed among))
      as (λ _. Contains given (Verdict w) × (name_meant w ≡ name_meant v)) [
        | inl before ↦ let was = (told.verdicts w).0 before in (Contains-append_left set (Verdict v ∷ []) (Verdict w) was.0, was.1)
        | inr here ↦ (subst (λ (x : VerdictFields). Contains given (Verdict x)) here (Contains-push set (Verdict v)), ap name_meant (sym here))
      ]

  verdict_to : (w : VerdictFields) → Contains given (Verdict w) × (name_meant w ≡ name_meant v) → Contains new.verdicts.items w
  verdict_to w there =
      subst (λ (vs : List VerdictFields). Contains vs w) (sym pushed)
      (elim (Contains-push_cases set (Verdict v) (Verdict w) there.0) as (λ _. Contains (old.verdicts.items ++ v ∷ []) w) [
        | inl before ↦ Contains-append_left old.verdicts.items (v ∷ []) w ((told.verdicts w).1 (before, there.1))
        | inr here ↦ subst (λ (x : VerdictFields). Contains (old.verdicts.items ++ v ∷ []) x) (one_verdict v w here) (Contains-push old.verdicts.items v)
      ])

  request_stays : (q : RequestFields) → Contains given (Request q) → Contains set (Request q)
  request_stays q there =
      elim (Contains-push_cases set (Verdict v) (Request q) there) as (λ _. Contains set (Request q)) [ inl before ↦ before | inr wrong ↦ absurd cc ]

  pub told_verdict : IsBehind set (Verdict v) → TellsMessages given (name_meant v) new
  told_verdict behind = record {
    requests_in_order = subst (AreInOrder RequestPrecedes) (sym same) told.requests_in_order;
    verdicts_in_order = subst (AreInOrder VerdictPrecedes) (sym pushed)
        (pushed_in_order VerdictPrecedes old.verdicts.items v told.verdicts_in_order (λ w among. behind (Verdict w) ((told.verdicts w).0 among).0));
    requests = λ q. (
      (λ among.
          let was = (told.requests q).0 (subst (λ (qs : List RequestFields). Contains qs q) same among) in
          (Contains-append_left set (Verdict v ∷ []) (Request q) was.0, was.1)),
      (λ there. subst (λ (qs : List RequestFields). Contains qs q) (sym same) ((told.requests q).1 (request_stays q there.0, there.1))),
    );
    verdicts = λ w. (verdict_from w, verdict_to w);
  }

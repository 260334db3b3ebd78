-- What a summary stands for, as a set grows.
use Rattle.std.proofs.Common.{◌≡◌, ◌≢◌, ℕ, ◌⊎◌, Bool, true, false, List, [], ◌∷◌, ◌++◌, refl, sym, ap, ◌∙◌, subst, inl, inr}
use Rattle.std.specs.List.{Contains}
use Rattle.std.proofs.lemmas.List.Elements.{Contains-append_left, Contains-push, Contains-push_cases}
use Rattle.messages.specs.Fields.{RequestFields, VerdictFields}
use Rattle.messages.specs.declared.message.Message.{Message}
use Rattle.messages.specs.declared.message.Message.TheVariants.{Request, Verdict}
use Rattle.messages.specs.declared.kind.VerdictKind.{VerdictKind}
use Rattle.messages.specs.declared.kind.VerdictKind.TheVariants.{Approve, Refuse, Revoke}
use Rattle.grants.specs.declared.marks.Mark.{Mark}
use Rattle.messages.specs.Names.{SameName, IsAbout}
use Rattle.messages.proofs.OneMessage.{one_request, one_verdict}
use Rattle.grants.specs.Marks.{Keep}
use Rattle.grants.specs.private.Noting.{noted}
use Rattle.grants.specs.Summaries.{Kept, StandsFor}
use Rattle.grants.proofs.MarkLemmas.{keep_other, keep_noted}

request_cases : (set : List Message) (m : Message) (p : RequestFields) → Contains (set ++ m ∷ []) (Request p) → Contains set (Request p) ⊎ (m ≡ Request p)
request_cases set m p h = Contains-push_cases set m (Request p) h

-- ---- a verdict comes

still_alone : (set : List Message) (v : VerdictFields) (q : RequestFields) → ((p : RequestFields) → Contains set (Request p) → SameName p q → p ≡ q)
    → (p : RequestFields) → Contains (set ++ Verdict v ∷ []) (Request p) → SameName p q → p ≡ q
still_alone set v q alone p h named =
    elim (request_cases set (Verdict v) p h) as (λ _. p ≡ q) [ inl old ↦ alone p old named | inr new ↦ absurd cc ]

pub keep_at : (set : List Message) (q : RequestFields) (v : VerdictFields) (kind : VerdictKind) (person : List ℕ) (moment : ℕ) (old new : List Mark)
    → IsAbout q v → v.kind ≡ kind → person ≡ v.by → moment ≡ v.at → new ≡ noted person moment old
    → Keep set q kind old → Keep (set ++ Verdict v ∷ []) q kind new
keep_at set q v kind person moment old new about kind_is by_is at_is new_is k =
    let P : VerdictKind → Type 0 = λ x. Keep set q x old in
    let Q : VerdictKind → Type 0 = λ x. Keep (set ++ Verdict v ∷ []) q x new in
    let same : new ≡ noted v.by v.at old = new_is ∙ rw (by_is, at_is) refl in
    let R : List Mark → Type 0 = λ x. Keep (set ++ Verdict v ∷ []) q v.kind x in
    subst Q kind_is (subst R (sym same) (keep_noted set q v old about (subst P (sym kind_is) k)))

pub keep_apart : (set : List Message) (q : RequestFields) (v : VerdictFields) (kind : VerdictKind) (marks : List Mark)
    → v.kind ≢ kind → Keep set q kind marks → Keep (set ++ Verdict v ∷ []) q kind marks
keep_apart set q v kind marks differ k =
    keep_other set (Verdict v) q kind marks (λ w e about is. differ (ap (λ (x : VerdictFields). x.kind) (one_verdict v w e) ∙ is)) k

applied : (set : List Message) (k : Kept) (v : VerdictFields) (xs rs vs : List Mark) → StandsFor set k → Keep (set ++ Verdict v ∷ []) k.request Approve xs
    → Keep (set ++ Verdict v ∷ []) k.request Refuse rs → Keep (set ++ Verdict v ∷ []) k.request Revoke vs
    → StandsFor (set ++ Verdict v ∷ []) (record { request = k.request; is_disputed = k.is_disputed; approvals = xs; refusals = rs; revocations = vs })
applied set k v xs rs vs s a b c = record {
  asked = Contains-append_left set (Verdict v ∷ []) (Request k.request) s.asked;
  alone = λ single. still_alone set v k.request (s.alone single);
  other = λ disputed.
      let found = s.other disputed in
      (found.0, Contains-append_left set (Verdict v ∷ []) (Request found.0) found.1, found.2, found.3);
  approvals = a;
  refusals = b;
  revocations = c;
}

pub approved : (set : List Message) (k : Kept) (v : VerdictFields) (person : List ℕ) (moment : ℕ) (new : List Mark) → IsAbout k.request v
    → v.kind ≡ Approve → person ≡ v.by → moment ≡ v.at → new ≡ noted person moment k.approvals → StandsFor set k → StandsFor (set
    ++ Verdict v ∷ []) (record { request = k.request; is_disputed = k.is_disputed; approvals = new; refusals = k.refusals; revocations = k.revocations })
approved set k v person moment new about is by_is at_is new_is s =
    applied set k v new k.refusals k.revocations s
    (keep_at set k.request v Approve person moment k.approvals new about is by_is at_is new_is s.approvals)
    (keep_apart set k.request v Refuse k.refusals (λ e. cc) s.refusals)
    (keep_apart set k.request v Revoke k.revocations (λ e. cc) s.revocations)

pub refused : (set : List Message) (k : Kept) (v : VerdictFields) (person : List ℕ) (moment : ℕ) (new : List Mark) → IsAbout k.request v
    → v.kind ≡ Refuse → person ≡ v.by → moment ≡ v.at → new ≡ noted person moment k.refusals → StandsFor set k → StandsFor (set
    ++ Verdict v ∷ []) (record { request = k.request; is_disputed = k.is_disputed; approvals = k.approvals; refusals = new; revocations = k.revocations })
refused set k v person moment new about is by_is at_is new_is s =
    applied set k v k.approvals new k.revocations s
    (keep_apart set k.request v Approve k.approvals (λ e. cc) s.approvals)
    (keep_at set k.request v Refuse person moment k.refusals new about is by_is at_is new_is s.refusals)
    (keep_apart set k.request v Revoke k.revocations (λ e. cc) s.revocations)

pub revoked : (set : List Message) (k : Kept) (v : VerdictFields) (person : List ℕ) (moment : ℕ) (new : List Mark) → IsAbout k.request v
    → v.kind ≡ Revoke → person ≡ v.by → moment ≡ v.at → new ≡ noted person moment k.revocations → StandsFor set k → StandsFor (set
    ++ Verdict v ∷ []) (record { request = k.request; is_disputed = k.is_disputed; approvals = k.approvals; refusals = k.refusals; revocations = new })
revoked set k v person moment new about is by_is at_is new_is s =
    applied set k v k.approvals k.refusals new s
    (keep_apart set k.request v Approve k.approvals (λ e. cc) s.approvals)
    (keep_apart set k.request v Refuse k.refusals (λ e. cc) s.refusals)
    (keep_at set k.request v Revoke person moment k.revocations new about is by_is at_is new_is s.revocations)

-- ---- a request comes

asked : (set : List Message) (k : Kept) (q : RequestFields) (d : Bool)
    → (d ≡ false → (p : RequestFields) → Contains (set ++ Request q ∷ []) (Request p) → SameName p k.request → p ≡ k.request)
    → (d ≡ true → (p : RequestFields) × Contains (set ++ Request q ∷ []) (Request p) × SameName p k.request × (p ≢ k.request)) → StandsFor set k → StandsFor
    (set ++ Request q ∷ []) (record { request = k.request; is_disputed = d; approvals = k.approvals; refusals = k.refusals; revocations = k.revocations })
asked set k q d alone other s = record {
  asked = Contains-append_left set (Request q ∷ []) (Request k.request) s.asked;
  alone = alone;
  other = other;
  approvals = keep_other set (Request q) k.request Approve k.approvals (λ v e about is. cc) s.approvals;
  refusals = keep_other set (Request q) k.request Refuse k.refusals (λ v e about is. cc) s.refusals;
  revocations = keep_other set (Request q) k.request Revoke k.revocations (λ v e about is. cc) s.revocations;
}

-- another request disputes it
pub disputed : (set : List Message) (k : Kept) (q : RequestFields) → SameName q k.request → (k.request ≡ q → ⊥) → StandsFor set k → StandsFor (set
    ++ Request q ∷ []) (record { request = k.request; is_disputed = true; approvals = k.approvals; refusals = k.refusals; revocations = k.revocations })
disputed set k q named differ s =
    asked set k q true (λ e. absurd cc) (λ _. (q, Contains-push set (Request q), named, λ e. differ (sym e))) s

-- the same one changes nothing
pub repeated : (set : List Message) (k : Kept) (q : RequestFields) → k.request ≡ q → StandsFor set k → StandsFor (set ++ Request q ∷ []) k
repeated set k q same s =
    asked set k q k.is_disputed
    (λ single p h named.
    elim (request_cases set (Request q) p h) as (λ _. p ≡ k.request) [
      | inl old ↦ s.alone single p old named
      | inr new ↦ sym (same ∙ one_request q p new)
    ])
    (λ two.
    let found = s.other two in
    (found.0, Contains-append_left set (Request q ∷ []) (Request found.0) found.1, found.2, found.3))
    s

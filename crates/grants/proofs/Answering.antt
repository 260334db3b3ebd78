-- An answer is exact: what is admitted meets no denial, and no two denials are the first.
use Rattle.std.proofs.Common.{◌≡◌, ◌+◌, ◌<◌, ◌↔◌, false, refl, sym, ◌∙◌, subst, inl, inr, arith}
use Rattle.std.specs.Prelude.{Contains, Result, Ok, Err, MatchResult, IsOk}
use Rattle.std.proofs.lemmas.Bool.{both_ways}
use Rattle.std.proofs.lemmas.Option.{same_Some, none-some}
use Rattle.sudo_words.specs.declared.cmnd.Cmnd.{Cmnd}
use Rattle.messages.specs.Fields.{RequestFields, VerdictFields}
use Rattle.messages.specs.declared.message.Message.{Message}
use Rattle.messages.specs.declared.message.Message.TheVariants.{Request, Verdict}
use Rattle.roster.specs.Fields.{CeilingFields, RosterFields}
use Rattle.roster.specs.Relations.{has_person, holds}
use Rattle.grants.specs.Denials.{denial_number}
use Rattle.grants.specs.Admission.{AdmitsRequest, AdmitsVerdict, Admits, UnderCeiling, HasHostOutside}
use Rattle.grants.specs.Admission.{HasCommandOutside, DeniesRequest, DeniesVerdict, Denies, IsDenial}
use Rattle.grants.specs.declared.denial.Denial.{Denial}
use Rattle.grants.specs.declared.denial.Denial.TheVariants.{UnknownPerson, UnknownCeiling, NotAsker, HostOutside}
use Rattle.grants.specs.declared.denial.Denial.TheVariants.{RunasOutside, CommandOutside, WindowTooLong, WindowBackwards}
use Rattle.grants.proofs.AdmissionLemmas.{same_denial}

-- what holds for the request's ceiling holds for the one that it is admitted under
under : (f : RosterFields Cmnd) (r : RequestFields) (a : AdmitsRequest f r) (P : CeilingFields Cmnd → Type 0) → UnderCeiling f r P → P a.ceiling
under f r a P h = subst P (same_Some h.0 a.ceiling (sym h.1 ∙ a.may_ask.ceiling_is)) h.2

no_denial_request : (f : RosterFields Cmnd) (r : RequestFields) (d : Denial) → AdmitsRequest f r → ¬ DeniesRequest f r d
no_denial_request f r UnknownPerson a h = both_ways (has_person f r.by) h a.may_ask.listed
no_denial_request f r UnknownCeiling a h = none-some a.ceiling (sym h ∙ a.may_ask.ceiling_is)
no_denial_request f r NotAsker a h = both_ways (holds f r.by a.ceiling.ask r.at) (under f r a (λ c. holds f r.by c.ask r.at ≡ false) h) a.may_ask.may_ask
no_denial_request f r HostOutside a h = let out = under f r a (HasHostOutside r) h in out.2 (a.within.hosts out.0 out.1)
no_denial_request f r RunasOutside a h = under f r a (λ c. ¬ Contains c.runas r.runas) h a.within.target
no_denial_request f r CommandOutside a h = let out = under f r a (HasCommandOutside r) h in out.2 (a.within.commands out.0 out.1)
no_denial_request f r WindowTooLong a h =
    let long : r.from + a.ceiling.longest < r.until = under f r a (λ c. r.from + c.longest < r.until) h in
    omega (arith, long, a.in_time.short)
no_denial_request f r WindowBackwards a (inl h) = omega (arith, h, a.in_time.ahead)
no_denial_request f r WindowBackwards a (inr h) = omega (arith, h, a.in_time.forward)

no_denial_verdict : (f : RosterFields Cmnd) (v : VerdictFields) (d : Denial) → AdmitsVerdict f v → ¬ DeniesVerdict f v d
no_denial_verdict f v UnknownPerson a (inl h) = both_ways (has_person f v.by) h a.listed
no_denial_verdict f v UnknownPerson a (inr h) = both_ways (has_person f v.of) h a.asker_listed
no_denial_verdict f v _ a h = h

pub no_denial : (f : RosterFields Cmnd) (m : Message) (d : Denial) → Admits f m → ¬ Denies f m d
no_denial f (Request r) d a h = no_denial_request f r d a h
no_denial f (Verdict v) d a h = no_denial_verdict f v d a h

pub one_denial : (f : RosterFields Cmnd) (m : Message) (d e : Denial) → IsDenial f m d → IsDenial f m e → d ≡ e
one_denial f m d e a b =
    let not_below : ¬ (denial_number d < denial_number e) = λ l. b.first d l a.applies in
    let not_above : ¬ (denial_number e < denial_number d) = λ l. a.first e l b.applies in
    same_denial d e (omega (arith, not_below, not_above))

-- an answer that is right is the only one
pub answers_admitted : (f : RosterFields Cmnd) (m : Message) (r : Result (Unit {0}) Denial)
    → MatchResult r (λ _. Admits f m) (IsDenial f m) → IsOk r ↔ Admits f m
answers_admitted f m (Ok x) h = (λ _. h, λ _. refl)
answers_admitted f m (Err d) h = (λ e. absurd cc, λ a. absurd (no_denial f m d a h.applies))

pub answers_denied : (f : RosterFields Cmnd) (m : Message) (r : Result (Unit {0}) Denial) → MatchResult r (λ _. Admits f m) (IsDenial f m) → (d : Denial)
    → (r ≡ Err d) ↔ IsDenial f m d
answers_denied f m (Ok x) h d = (λ e. absurd cc, λ i. absurd (no_denial f m d h i.applies))
answers_denied f m (Err e) h d =
    (λ same. let alike : e ≡ d = cc in subst (IsDenial f m) alike h, λ i. let alike : e ≡ d = one_denial f m e d h i in cc)

-- There is an answer to each message, and a verdict meets the first denial alone.
use Rattle.std.proofs.Common.{◌≡◌, ℕ, ◌+◌, ◌<◌, ◌≤◌, ◌⊎◌, true, false, List, [], ◌∷◌, Option, Some, None, All, refl, sym, ◌∙◌, subst, inl, inr, arith}
use Rattle.std.specs.List.{list_all, list_any}
use Rattle.std.specs.Str.{bytes_eq}
use Rattle.std.proofs.lemmas.Bool.{cases_Bool, cases_lt, cond-true, cond-false}
use Rattle.std.proofs.lemmas.List.Elements.{All-head, All-tail}
use Rattle.std.proofs.lemmas.Option.{same_Some, none-some}
use Rattle.sudo_words.specs.Command.{IsLawful}
use Rattle.sudo_words.specs.declared.cmnd.Cmnd.{Cmnd}
use Rattle.messages.specs.Fields.{RequestFields, VerdictFields, IsRequest}
use Rattle.messages.specs.Wire.{IsMessage}
use Rattle.messages.specs.declared.message.Message.{Message}
use Rattle.messages.specs.declared.message.Message.TheVariants.{Request, Verdict}
use Rattle.roster.specs.Faults.{IsRosterText}
use Rattle.roster.specs.Fields.{CeilingFields, RosterFields}
use Rattle.roster.specs.Relations.{ceiling_at, entry_of, has_person, holds}
use Rattle.roster.specs.Rules.{IsNamedCeiling, is_among}
use Rattle.grants.specs.private.Forms.{is_inside}
use Rattle.grants.specs.Admission.{Admits, Denies, IsDenial, IsWithin, MayAskUnder}
use Rattle.grants.specs.declared.denial.Denial.{Denial}
use Rattle.grants.specs.declared.denial.Denial.TheVariants.{UnknownPerson, UnknownCeiling, NotAsker, HostOutside}
use Rattle.grants.specs.declared.denial.Denial.TheVariants.{RunasOutside, CommandOutside, WindowTooLong, WindowBackwards}
use Rattle.grants.proofs.AdmissionLemmas.{none_below_one, unknown_person, unknown_ceiling, not_asker, host_outside}
use Rattle.grants.proofs.AdmissionLemmas.{target_outside, command_outside, within, too_long, backwards, admitted}

abbrev Answered : RosterFields Cmnd → Message → Type 0
Answered f m = Admits f m ⊎ ((d : Denial) × IsDenial f m d)

-- a ceiling's commands are lawful where each ceiling's are
lawful_at : (es : List (List ℕ × CeilingFields Cmnd)) (label : List ℕ) (c : CeilingFields Cmnd) → All (IsNamedCeiling IsLawful) es → entry_of es label ≡ Some c
    → All IsLawful c.commands
lawful_at [] label c named is = absurd (none-some c is)
lawful_at (e ∷ es) label c named is =
    elim (cases_Bool (bytes_eq e.0 label)) as (λ _. All IsLawful c.commands) [
      | inl here ↦
          let same : e.1 ≡ c = same_Some e.1 c (sym (cond-true (bytes_eq e.0 label) (Some e.1) (entry_of es label) here) ∙ is) in
          subst (λ (k : CeilingFields Cmnd). All IsLawful k.commands) same (All-head (IsNamedCeiling IsLawful) e es named).commands
      | inr other ↦
          lawful_at es label c (All-tail (IsNamedCeiling IsLawful) e es named)
          (sym (cond-false (bytes_eq e.0 label) (Some e.1) (entry_of es label) other) ∙ is)
    ]

module _ (f : RosterFields Cmnd) (r : RequestFields) (request : IsRequest r) where
  module _ (c : CeilingFields Cmnd) (may : MayAskUnder f r c) where
    in_window : IsWithin r c → Answered f (Request r)
    in_window w =
        elim (cases_lt (r.from + c.longest) r.until) as (λ _. Answered f (Request r)) [
          | inl long ↦ inr (WindowTooLong, too_long f r c may w long)
          | inr short ↦
              let not_long : ¬ (r.from + c.longest < r.until) = λ l. omega (arith, l, short) in
              elim (cases_lt r.from r.at) as (λ _. Answered f (Request r)) [
                | inl soon ↦ inr (WindowBackwards, backwards f r c may w not_long (inl soon))
                | inr ahead ↦
                    elim (cases_lt r.until r.from) as (λ _. Answered f (Request r)) [
                      | inl turned ↦ inr (WindowBackwards, backwards f r c may w not_long (inr turned))
                      | inr forward ↦ inl (admitted f r c may w not_long (neither ahead forward))
                    ]
              ]
        ]
      where
        neither : r.at ≤ r.from → r.from ≤ r.until → ¬ ((r.from < r.at) ⊎ (r.until < r.from))
        neither a b (inl h) = omega (arith, h, a)
        neither a b (inr h) = omega (arith, h, b)

    asks : All IsLawful c.commands → Answered f (Request r)
    asks lawful =
        elim (cases_Bool (list_all (is_among c.hosts) r.hosts)) as (λ _. Answered f (Request r)) [
          | inr no_host ↦ inr (HostOutside, host_outside f r c may no_host)
          | inl hosts ↦
              elim (cases_Bool (is_among c.runas r.runas)) as (λ _. Answered f (Request r)) [
                | inr no_target ↦ inr (RunasOutside, target_outside f r c may hosts no_target)
                | inl target ↦
                    elim (cases_Bool (list_all (λ k. list_any (is_inside k) c.commands) r.cmnds)) as (λ _. Answered f (Request r)) [
                      | inr no_command ↦ inr (CommandOutside, command_outside f r c may hosts target request.cmnds.1 lawful no_command)
                      | inl commands ↦ in_window (within f r c hosts target commands)
                    ]
              ]
        ]

  named : (found : Option (CeilingFields Cmnd)) → ceiling_at f r.ceiling ≡ found → has_person f r.by ≡ true
      → ((c : CeilingFields Cmnd) → ceiling_at f r.ceiling ≡ Some c → All IsLawful c.commands) → Answered f (Request r)
  named None is listed lawful = inr (UnknownCeiling, unknown_ceiling f r listed is)
  named (Some c) is listed lawful =
      elim (cases_Bool (holds f r.by c.ask r.at)) as (λ _. Answered f (Request r)) [
        | inl held ↦ asks c (record { listed = listed; ceiling_is = is; may_ask = held }) (lawful c is)
        | inr not_held ↦ inr (NotAsker, not_asker f r c listed is not_held)
      ]

  pub of_request : ((c : CeilingFields Cmnd) → ceiling_at f r.ceiling ≡ Some c → All IsLawful c.commands) → Answered f (Request r)
  of_request lawful =
      elim (cases_Bool (has_person f r.by)) as (λ _. Answered f (Request r)) [
        | inl listed ↦ named (ceiling_at f r.ceiling) refl listed lawful
        | inr stranger ↦ inr (UnknownPerson, unknown_person f r stranger)
      ]

-- ---- verdicts

pub verdict_denied : (f : RosterFields Cmnd) (v : VerdictFields)
    → (has_person f v.by ≡ false) ⊎ (has_person f v.of ≡ false) → IsDenial f (Verdict v) UnknownPerson
verdict_denied f v h = record { applies = h; first = λ d l _. none_below_one d l }

of_verdict : (f : RosterFields Cmnd) (v : VerdictFields) → Answered f (Verdict v)
of_verdict f v =
    elim (cases_Bool (has_person f v.by)) as (λ _. Answered f (Verdict v)) [
      | inr stranger ↦ inr (UnknownPerson, verdict_denied f v (inl stranger))
      | inl listed ↦
          elim (cases_Bool (has_person f v.of)) as (λ _. Answered f (Verdict v)) [
            | inr stranger ↦ inr (UnknownPerson, verdict_denied f v (inr stranger))
            | inl asker ↦ inl (record { listed = listed; asker_listed = asker })
          ]
    ]

pub only_person : (f : RosterFields Cmnd) (v : VerdictFields) (d : Denial) → Denies f (Verdict v) d → d ≡ UnknownPerson
only_person f v UnknownPerson h = refl
only_person f v _ h = absurd h

pub some_answer : (text : List ℕ) (f : RosterFields Cmnd) (m : Message) → IsRosterText text f → IsMessage m → Answered f m
some_answer text f (Request r) roster request = of_request f r request (λ c is. lawful_at f.ceilings r.ceiling c roster.names.ceilings is)
some_answer text f (Verdict v) roster verdict = of_verdict f v

-- What a summary stands for has come to something.
use Rattle.std.proofs.Common.{ℕ, List, Some, inl, inr, sym}
use Rattle.std.proofs.lemmas.Bool.{cases_Bool}
use Rattle.sudo_words.specs.declared.cmnd.Cmnd.{Cmnd}
use Rattle.messages.specs.Fields.{IsRequest}
use Rattle.messages.specs.Names.{name_of}
use Rattle.messages.specs.declared.message.Message.{Message}
use Rattle.messages.specs.declared.message.Message.TheVariants.{Request}
use Rattle.roster.specs.Faults.{IsRosterText}
use Rattle.roster.specs.Fields.{CeilingFields, RosterFields}
use Rattle.roster.proofs.Ranges.{found_few}
use Rattle.grants.specs.Statuses.{IsStatus}
use Rattle.grants.specs.Summaries.{Kept, StandsFor}
use Rattle.grants.specs.private.Status.{admitted_status}
use Rattle.grants.specs.declared.outcome.Status.{Status}
use Rattle.grants.specs.declared.outcome.Status.TheVariants.{Disputed, Lapsed}
use Rattle.grants.proofs.Answering.{no_denial}
use Rattle.grants.proofs.SomeAnswer.{some_answer}
use Rattle.grants.proofs.StatusLemmas.{admitted_is, disputed_is, lapsed_is}

abbrev ComesToSome : RosterFields Cmnd → List Message → Kept → Type 0
ComesToSome f set k = (status : Status) × IsStatus f set (name_of k.request) status

pub some_status : (text : List ℕ) (f : RosterFields Cmnd) (set : List Message) (k : Kept) → IsRosterText text f
    → IsRequest k.request → StandsFor set k → (status : Status) × IsStatus f set (name_of k.request) status
some_status text f set k roster is s =
    elim (cases_Bool k.is_disputed) as (λ _. ComesToSome f set k) [
      | inl two ↦ (Disputed, disputed_is set k two s)
      | inr single ↦
          elim (some_answer text f (Request k.request) roster is) as (λ _. ComesToSome f set k) [
            | inr denied ↦ (Lapsed, lapsed_is f set k (λ admits. no_denial f (Request k.request) denied.0 admits denied.1.applies) single s)
            | inl admits ↦
                let c = admits.ceiling in
                let at = admits.may_ask.ceiling_is in
                let few = found_few text f k.request.ceiling (λ (x : CeilingFields Cmnd). x) (Some c) roster (sym at) in
                (admitted_status f c k, admitted_is f c set k at few.0 admits single s)
          ]
    ]

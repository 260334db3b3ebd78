-- The lines of one name, from its summary and its status.
use Rattle.std.proofs.Common.{◌≡◌, ℕ, Bool, true, false, List, [], ◌++◌, Option, Some, None, refl, sym, ap, ◌∙◌, subst}
use Rattle.std.proofs.lemmas.List.{append-nil}
use Rattle.sudo_words.specs.declared.cmnd.Cmnd.{Cmnd}
use Rattle.messages.specs.Fields.{RequestFields}
use Rattle.messages.specs.Names.{name_of}
use Rattle.messages.specs.declared.request_name.RequestName.{RequestName}
use Rattle.messages.specs.declared.message.Message.{Message}
use Rattle.roster.specs.Fields.{RosterFields}
use Rattle.roster.specs.Relations.{ceiling_at}
use Rattle.grants.specs.Admission.{AdmitsRequest}
use Rattle.grants.specs.Statuses.{IsStatus, window_at}
use Rattle.grants.specs.Verdicts.{StandsAlone}
use Rattle.grants.specs.declared.outcome.Status.{Status}
use Rattle.grants.specs.declared.outcome.Status.TheVariants.{Disputed, Lapsed, Refused, Waiting, Void, Granted}
use Rattle.grants.specs.declared.outcome.Window.{Window}
use Rattle.review.specs.Columns.{lines_text}
use Rattle.review.specs.Report.{AreBarred, AreBarredUnder, AreInForce, BarredLines, IsOnlyRequest, LinesInForce, is_open}
use Rattle.review.specs.private.Reporting.{AddsLines}

module _ (f : RosterFields Cmnd) (set : List Message) (name : RequestName) (old new : List ℕ) where
  pub none_in_force : (at : ℕ) (Of : RequestFields → Window → List (List ℕ) → Type 0) (status : Status)
      → IsStatus f set name status → window_at at status ≡ None → AddsLines (AreInForce f set at Of name) old old
  none_in_force at Of status is none = (
    [],
    sym (append-nil old),
    record { status = status; status_is = is; lines_are = subst (λ (o : Option Window). LinesInForce Of set name o []) (sym none) refl },
  )

  pub one_in_force : (at : ℕ) (Of : RequestFields → Window → List (List ℕ) → Type 0) (status : Status) (w : Window) (q : RequestFields) (lines : List (List ℕ))
      → IsStatus f set name status → window_at at status ≡ Some w → IsOnlyRequest set name q
      → Of q w lines → new ≡ old ++ lines_text lines → AddsLines (AreInForce f set at Of name) old new
  one_in_force at Of status w q lines is some only of adds = (
    lines,
    adds,
    record { status = status; status_is = is; lines_are = subst (λ (o : Option Window). LinesInForce Of set name o lines) (sym some) (q, only, of) },
  )

  pub none_barred : (status : Status) → IsStatus f set name status → is_open status ≡ false → AddsLines (AreBarred f set name) old old
  none_barred status is shut = (
    [],
    sym (append-nil old),
    record { status = status; status_is = is; lines_are = subst (λ (b : Bool). BarredLines f set name b []) (sym shut) refl },
  )

  pub some_barred : (status : Status) (q : RequestFields) (lines : List (List ℕ)) → IsStatus f set name status → is_open status ≡ true
      → IsOnlyRequest set name q → AreBarredUnder f set q lines → new ≡ old ++ lines_text lines → AddsLines (AreBarred f set name) old new
  some_barred status q lines is opened only under adds = (
    lines,
    adds,
    record { status = status; status_is = is; lines_are = subst (λ (b : Bool). BarredLines f set name b lines) (sym opened) (q, only, under) },
  )

-- a request that is open has a ceiling
admitted_ceiling : (f : RosterFields Cmnd) (q : RequestFields) → AdmitsRequest f q → ceiling_at f q.ceiling ≡ None → ⊥
admitted_ceiling f q admits none =
    let both : Some admits.ceiling ≡ None = sym admits.may_ask.ceiling_is ∙ none in cc

admitted_only : (f : RosterFields Cmnd) (set : List Message) (name : RequestName) (q p : RequestFields)
    → IsOnlyRequest set name p → AdmitsRequest f p → IsOnlyRequest set name q → AdmitsRequest f q
admitted_only f set name q p own admits only =
    let same : p ≡ q = only.alone.alone p own.alone.asked (own.named.0 ∙ sym only.named.0, own.named.1 ∙ sym only.named.1) in
    subst (λ (r : RequestFields). AdmitsRequest f r) same admits

pub open_ceiling : (f : RosterFields Cmnd) (set : List Message) (name : RequestName) (q : RequestFields) (status : Status)
    → IsStatus f set name status → is_open status ≡ true → IsOnlyRequest set name q → ceiling_at f q.ceiling ≡ None → ⊥
open_ceiling f set name q Disputed is opened only none = absurd cc
open_ceiling f set name q Lapsed is opened only none = absurd cc
open_ceiling f set name q Refused is opened only none =
    admitted_ceiling f q (admitted_only f set name q is.request (record { named = is.named; alone = is.alone }) is.admissible only) none
open_ceiling f set name q Waiting is opened only none =
    admitted_ceiling f q (admitted_only f set name q is.request (record { named = is.named; alone = is.alone }) is.admissible only) none
open_ceiling f set name q Void is opened only none =
    admitted_ceiling f q (admitted_only f set name q is.request (record { named = is.named; alone = is.alone }) is.admissible only) none
open_ceiling f set name q (Granted w) is opened only none =
    admitted_ceiling f q (admitted_only f set name q is.request (record { named = is.named; alone = is.alone }) is.admissible only) none

-- a request that is kept, and stands alone, is the only one of its name
pub own_request : (set : List Message) (kept q : RequestFields) → q ≡ kept → StandsAlone set q → IsOnlyRequest set (name_of kept) q
own_request set kept q same alone =
    record { named = (ap (λ (r : RequestFields). r.by) same, ap (λ (r : RequestFields). r.no) same); alone = alone }

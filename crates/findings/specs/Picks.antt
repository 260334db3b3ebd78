-- What is asked about.
use Rattle.std.specs.Prelude.{◌≡◌, ℕ, Bool, true, ◌&&◌, ◌||◌, nat_le, List, Option, Some, None}
use Rattle.std.specs.Prelude.{is_none, is_some}
use Rattle.std.specs.List.{list_any}
use Rattle.std.specs.Str.{bytes_eq}
use Rattle.messages.specs.Fields.{RequestFields, VerdictFields}
use Rattle.grants.specs.declared.outcome.Status.{Status}
use Rattle.grants.specs.declared.outcome.Status.TheVariants.{Disputed, Lapsed, Refused}
use Rattle.grants.specs.declared.outcome.Status.TheVariants.{Waiting, Void, Granted}
use Rattle.findings.specs.declared.entry.AuditEntry.{AuditEntry}
use Rattle.findings.specs.declared.entry.About.{About}
use Rattle.findings.specs.declared.pick.Pick.{Pick}

-- no part narrows the question
pub record AsksAboutAll (pick : Pick) : Type 0 where
  pub from : pick.from ≡ None
  pub until : pick.until ≡ None
  pub host : pick.host ≡ None
  pub person : pick.person ≡ None

-- nothing is narrowed
abbrev pub all : Pick
all = record { from = None; until = None; host = None; person = None }

-- what does not end before the moment
abbrev pub after : (at : ℕ) → Pick
after at = record { from = Some at; until = None; host = None; person = None }

-- nothing is narrowed, and who may approve is told for the moment
abbrev pub told_at : (at : ℕ) → Pick
told_at at = record { from = None; until = Some at; host = None; person = None }

-- ---- time

abbrev pub begins_by : Option ℕ → (start : ℕ) → Bool
begins_by None start = true
begins_by (Some until) start = nat_le start until

abbrev pub ends_from : Option ℕ → (end : ℕ) → Bool
ends_from None end = true
ends_from (Some from) end = nat_le from end

-- what lasts from the start to the end, both included, touches the time that is asked about
abbrev pub has_span : Pick → (start end : ℕ) → Bool
has_span pick start end = begins_by pick.until start && ends_from pick.from end

-- without a grant, a window that a request asks for touches it
abbrev pub has_asked_span : Pick → About → Bool
has_asked_span pick about = list_any (λ q. has_span pick q.from q.until) about.requests.items

-- The time is asked about: a grant's window; else a window that a request asks for; or, if nobody
-- asks, the moment of a verdict.
abbrev pub has_span_of : Pick → About → Option Status → Bool
has_span_of pick about None = list_any (λ v. has_span pick v.at v.at) about.verdicts.items
has_span_of pick about (Some (Granted w)) = has_span pick w.start w.end
has_span_of pick about (Some Disputed) = has_asked_span pick about
has_span_of pick about (Some Lapsed) = has_asked_span pick about
has_span_of pick about (Some Refused) = has_asked_span pick about
has_span_of pick about (Some Waiting) = has_asked_span pick about
has_span_of pick about (Some Void) = has_asked_span pick about

-- ---- hosts and people

-- nothing is wanted, or this name is
abbrev pub wants : Option (List ℕ) → List ℕ → Bool
wants None name = true
wants (Some wanted) name = bytes_eq wanted name

abbrev pub has_host : Pick → List ℕ → Bool
has_host pick host = wants pick.host host

-- a request names the host that is asked about
abbrev pub has_host_among : Pick → List RequestFields → Bool
has_host_among pick requests =
    is_none pick.host || list_any (λ q. list_any (has_host pick) q.hosts) requests

-- the person who is asked about asked, or gave a verdict
abbrev pub has_person_of : Pick → (asker : List ℕ) → List VerdictFields → Bool
has_person_of pick asker verdicts =
    wants pick.person asker || list_any (λ v. wants pick.person v.by) verdicts

-- ---- all of it

-- the entry is asked about
abbrev pub asks_about : Pick → AuditEntry → Bool
asks_about pick e =
    has_span_of pick e.about e.status && has_host_among pick e.about.requests.items
    && has_person_of pick e.name.by e.about.verdicts.items

abbrev pub is_whole : Pick → Bool
is_whole pick =
    is_none pick.from && is_none pick.until && is_none pick.host && is_none pick.person

-- the entry is told: nothing narrows the question, or the entry is asked about
abbrev pub is_told : Pick → AuditEntry → Bool
is_told pick e = is_whole pick || asks_about pick e

-- ---- what is open

-- Somebody asks under the name, and it does not end before the moment: a grant's window, or else a
-- window that a request asks for.
abbrev pub is_open : (at : ℕ) → AuditEntry → Bool
is_open at e = is_some e.status && has_span_of (after at) e.about e.status

-- Which verdicts on a request count, and what they come to. The set of messages is given as a list;
-- each definition asks only which messages it contains.
use Rattle.std.specs.Prelude.{◌≡◌, ◌≢◌, ℕ, zero, suc, ◌≤◌, Bool, true, List, Contains, Some}
use Rattle.sudo_words.specs.declared.cmnd.Cmnd.{Cmnd}
use Rattle.messages.specs.Fields.{RequestFields, VerdictFields}
use Rattle.messages.specs.Names.{IsNamed, SameName, IsAbout}
use Rattle.messages.specs.declared.request_name.RequestName.{RequestName}
use Rattle.messages.specs.declared.message.Message.{Message}
use Rattle.messages.specs.declared.message.Message.TheVariants.{Request, Verdict}
use Rattle.messages.specs.declared.kind.VerdictKind.{VerdictKind}
use Rattle.messages.specs.declared.kind.VerdictKind.TheVariants.{Approve, Refuse, Revoke}
use Rattle.roster.specs.Fields.{CeilingFields, RosterFields}
use Rattle.roster.specs.Relations.{ceiling_at, eligible, may_revoke}

-- ---- requests

-- The set has the request, and no other of its name.
pub record StandsAlone (messages : List Message) (q : RequestFields) : Type 0 where
  pub asked : Contains messages (Request q)
  pub alone : (p : RequestFields) → Contains messages (Request p) → SameName p q → p ≡ q

-- The set has two different requests of the name.
pub record IsDisputed (messages : List Message) (name : RequestName) : Type 0 where
  pub first : RequestFields
  pub second : RequestFields
  pub first_asked : Contains messages (Request first)
  pub second_asked : Contains messages (Request second)
  pub first_named : IsNamed first name
  pub second_named : IsNamed second name
  pub differ : first ≢ second

-- ---- verdicts that count

-- Who may give which verdict at a moment, on what the asker asked for (NIST SP 800-53 AC-5): people
-- who are eligible then may approve and refuse; the asker, and whoever holds the approving duty
-- then, may revoke.
abbrev pub may_give : RosterFields Cmnd → CeilingFields Cmnd
    → VerdictKind → (person asker : List ℕ) → (at : ℕ) → Bool
may_give f c Approve person asker at = eligible f person asker c at
may_give f c Refuse person asker at = eligible f person asker c at
may_give f c Revoke person asker at = may_revoke f person asker c at

-- The verdict counts under the ceiling: its author was allowed to give it at its own moment,
-- whatever the author may do before or after.
abbrev pub counts : RosterFields Cmnd → CeilingFields Cmnd → VerdictFields → Bool
counts f c v = may_give f c v.kind v.by v.of v.at

-- The set has this verdict of the kind on the request, and it counts under the request's ceiling.
pub record IsGiven (f : RosterFields Cmnd) (messages : List Message)
    (q : RequestFields) (kind : VerdictKind) (v : VerdictFields) : Type 0 where
  pub given : Contains messages (Verdict v)
  pub about : IsAbout q v
  pub kind_is : v.kind ≡ kind
  pub ceiling : CeilingFields Cmnd
  pub ceiling_is : ceiling_at f q.ceiling ≡ Some ceiling
  pub counts_is : counts f ceiling v ≡ true

-- By this moment the person has given one, which counts by what the person was allowed to do when
-- it was given.
pub record HasGiven (f : RosterFields Cmnd) (messages : List Message)
    (q : RequestFields) (kind : VerdictKind) (moment : ℕ) (person : List ℕ) : Type 0 where
  pub verdict : VerdictFields
  pub given : IsGiven f messages q kind verdict
  pub by_is : verdict.by ≡ person
  pub by_then : verdict.at ≤ moment

-- ---- completion

-- At least so many different people have the property.
abbrev pub AtLeast : ℕ → (List ℕ → Type 0) → Type 0
AtLeast zero P = Unit {0}
AtLeast (suc n) P = (person : List ℕ) × P person × AtLeast n (λ other. P other × (other ≢ person))

-- By this moment at least as many different people as the ceiling needs have approved.
pub record ApprovedBy (f : RosterFields Cmnd) (messages : List Message)
    (q : RequestFields) (moment : ℕ) : Type 0 where
  pub ceiling : CeilingFields Cmnd
  pub ceiling_is : ceiling_at f q.ceiling ≡ Some ceiling
  pub people : AtLeast ceiling.needs (HasGiven f messages q Approve moment)

-- The request is complete at the least such moment.
pub record IsComplete (f : RosterFields Cmnd) (messages : List Message)
    (q : RequestFields) (moment : ℕ) : Type 0 where
  pub approved : ApprovedBy f messages q moment
  pub least : (other : ℕ) → ApprovedBy f messages q other → moment ≤ other

-- ---- refusals and revocations

-- The set has a refusal that counts and does not come after the completion, or any that counts if
-- there is no completion.
pub record IsRefused (f : RosterFields Cmnd)
    (messages : List Message) (q : RequestFields) : Type 0 where
  pub verdict : VerdictFields
  pub given : IsGiven f messages q Refuse verdict
  pub in_time : (moment : ℕ) → IsComplete f messages q moment → verdict.at ≤ moment

-- By this moment a revocation that counts has been given.
pub record RevokedBy (f : RosterFields Cmnd) (messages : List Message)
    (q : RequestFields) (moment : ℕ) : Type 0 where
  pub verdict : VerdictFields
  pub given : IsGiven f messages q Revoke verdict
  pub by_then : verdict.at ≤ moment

-- The moments at which people first approved, the n-th smallest of them, and the first revocation.
use Rattle.std.specs.Prelude.{ℕ, ◌≤◌, ◌<◌, List}
use Rattle.sudo_words.specs.declared.cmnd.Cmnd.{Cmnd}
use Rattle.messages.specs.Fields.{RequestFields}
use Rattle.messages.specs.declared.message.Message.{Message}
use Rattle.messages.specs.declared.kind.VerdictKind.TheVariants.{Approve}
use Rattle.roster.specs.Fields.{RosterFields}
use Rattle.grants.specs.Verdicts.{AtLeast, HasGiven, RevokedBy}

-- The person's earliest approval that counts, made while the person was eligible, was given at this
-- moment.
pub record IsFirstApproval (f : RosterFields Cmnd) (messages : List Message)
    (q : RequestFields) (person : List ℕ) (moment : ℕ) : Type 0 where
  pub given : HasGiven f messages q Approve moment person
  pub least : (other : ℕ) → HasGiven f messages q Approve other person → moment ≤ other

-- The n-th smallest of the moments that people have: at least n different people have theirs at or
-- before it, and fewer than n before it.
pub record IsNthSmallest (n : ℕ) (At : List ℕ → ℕ → Type 0) (moment : ℕ) : Type 0 where
  pub enough : AtLeast n (λ person. (m : ℕ) × At person m × (m ≤ moment))
  pub fewer : ¬ AtLeast n (λ person. (m : ℕ) × At person m × (m < moment))

-- The first revocation that counts was given at this moment.
pub record IsFirstRevocation (f : RosterFields Cmnd)
    (messages : List Message) (q : RequestFields) (moment : ℕ) : Type 0 where
  pub revoked : RevokedBy f messages q moment
  pub least : (other : ℕ) → RevokedBy f messages q other → moment ≤ other

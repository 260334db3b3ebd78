-- The rights that a host's file gives.
use Rattle.std.specs.Prelude.{◌≡◌, ℕ, ◌≤◌, List}
use Rattle.sudo_words.specs.declared.cmnd.Cmnd.{Cmnd}
use Rattle.messages.specs.declared.message.Message.{Message}
use Rattle.sudo_policy.specs.declared.entry.Entry.{Entry}
use Rattle.sudo_policy.specs.Spelling.{Spells}
use Rattle.sudo_decide.specs.Decision.{Decides}
use Rattle.sudo_decide.specs.declared.decision.Decision.{Decision}
use Rattle.sudo_decide.specs.declared.decision.Decision.TheVariants.{Allow}
use Rattle.sudo_decide.specs.declared.invocation.Invocation.{Invocation}
use Rattle.roster.specs.Fields.{RosterFields}
use Rattle.outcomes.specs.Covers.{Covers}

-- The text spells one policy. It allows each invocation on the host that a grant of the set covers,
-- and decides every other one on the host as the base does.
pub record GivesRights (f : RosterFields Cmnd) (base : List Entry)
    (messages : List Message) (host text : List ℕ) : Type 0 where
  pub policy : List Entry
  pub spelled : Spells text policy
  pub only : (other : List Entry) → Spells text other → other ≡ policy
  pub covered : (i : Invocation) → i.host ≡ host → Covers f messages i → Decides policy i Allow
  pub bare : (i : Invocation) (d : Decision) → i.host ≡ host
      → (¬ Covers f messages i) → Decides base i d → Decides policy i d

-- The text spells one policy. It allows each invocation on the host at the moment or later that a
-- grant of the set covers, and decides every other one on the host from then on as the base does.
-- Nothing is said about earlier ones.
pub record GivesRightsAfter (f : RosterFields Cmnd) (base : List Entry)
    (messages : List Message) (host : List ℕ) (moment : ℕ) (text : List ℕ) : Type 0 where
  pub policy : List Entry
  pub spelled : Spells text policy
  pub only : (other : List Entry) → Spells text other → other ≡ policy
  pub covered : (i : Invocation) → i.host ≡ host → moment ≤ i.at
      → Covers f messages i → Decides policy i Allow
  pub bare : (i : Invocation) (d : Decision) → i.host ≡ host → moment ≤ i.at
      → (¬ Covers f messages i) → Decides base i d → Decides policy i d

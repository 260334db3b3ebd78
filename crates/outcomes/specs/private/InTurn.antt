-- What the summaries of a set give in turn, from what each comes to.
use Rattle.std.specs.Prelude.{◌≡◌, ℕ, List, [], ◌∷◌, ◌++◌, Option, Some, None}
use Rattle.sudo_words.specs.declared.cmnd.Cmnd.{Cmnd}
use Rattle.messages.specs.Fields.{RequestFields}
use Rattle.messages.specs.Names.{name_of}
use Rattle.messages.specs.declared.message.Message.{Message}
use Rattle.roster.specs.Fields.{RosterFields}
use Rattle.grants.specs.Statuses.{IsStatus, window_at}
use Rattle.grants.specs.Summaries.{Kept}
use Rattle.grants.specs.declared.outcome.Status.{Status}
use Rattle.grants.specs.declared.outcome.Window.{Window}
use Rattle.outcomes.specs.Outcomes.{LiveGrant}

module _ {X : Type 0} (f : RosterFields Cmnd) (messages : List Message) (give : RequestFields
    → Status → List X) where
  -- one more summary
  abbrev pub Adds : Kept → (old new : List X) → Type 0
  Adds k old new = (status : Status) × IsStatus f messages (name_of k.request) status
      × (new ≡ old ++ give k.request status)

  -- or none, where a name has no summary
  abbrev pub AddsAt : Option Kept → (old new : List X) → Type 0
  AddsAt None old new = new ≡ old
  AddsAt (Some k) old new = Adds k old new

  abbrev pub Give : List Kept → List X → Type 0
  Give [] xs = xs ≡ []
  Give (k ∷ ks) xs =
      (more : List X) × (status : Status) × Give ks more
      × IsStatus f messages (name_of k.request) status × (xs ≡ give k.request status ++ more)

-- ---- grants in force

abbrev pub grant_of : RequestFields → Window → LiveGrant
grant_of q w = record { name = name_of q; ceiling = q.ceiling; window = w }

abbrev pub grants_of : RequestFields → Option Window → List LiveGrant
grants_of q None = []
grants_of q (Some w) = grant_of q w ∷ []

abbrev pub live_for : ℕ → RequestFields → Status → List LiveGrant
live_for at q status = grants_of q (window_at at status)

-- When a grant is in force for an invocation. The set of messages is given as a list; each
-- definition asks only which messages it contains.
use Rattle.std.specs.Prelude.{◌≡◌, true, List, Contains}
use Rattle.sudo_words.specs.Command.{matches}
use Rattle.sudo_words.specs.declared.cmnd.Cmnd.{Cmnd}
use Rattle.messages.specs.Fields.{RequestFields}
use Rattle.messages.specs.declared.message.Message.{Message}
use Rattle.sudo_decide.specs.declared.invocation.Invocation.{Invocation}
use Rattle.roster.specs.Fields.{RosterFields}
use Rattle.grants.specs.Statuses.{InWindow}

-- A grant of the set is in force for the invocation: a request of the user's, whose window holds
-- the moment, names the host and the target, and one of its commands matches the path and the
-- arguments.
pub record Covers (f : RosterFields Cmnd) (messages : List Message) (i : Invocation) : Type 0 where
  pub request : RequestFields
  pub cmnd : Cmnd
  pub window : InWindow f messages request i.at
  pub user : request.by ≡ i.user
  pub host : Contains request.hosts i.host
  pub target : request.runas ≡ i.runas
  pub of_request : Contains request.cmnds cmnd
  pub matches_it : matches cmnd i.path i.args ≡ true

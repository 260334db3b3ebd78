-- The rules of a grant: one for each command of a request that is in force, on a host that it
-- names.
use Rattle.std.specs.Prelude.{◌≡◌, ℕ, true, false, if◌then◌else◌, List}
use Rattle.std.specs.Prelude.{[], ◌∷◌, Contains, Option, Some, IfSome, map}
use Rattle.std.specs.List.{list_any}
use Rattle.std.specs.Str.{bytes_eq}
use Rattle.sudo_words.specs.Command.{IsLawful}
use Rattle.sudo_words.specs.Moment.{IsMoment}
use Rattle.sudo_words.specs.Word.{is_name, is_host_name}
use Rattle.sudo_words.specs.declared.cmnd.Cmnd.{Cmnd}
use Rattle.sudo_policy.specs.declared.entry.Signed.{Signed}
use Rattle.sudo_policy.specs.declared.entry.Item.TheVariants as items
use Rattle.sudo_policy.specs.declared.entry.CmndItem.TheVariants as cmnds
use Rattle.sudo_policy.specs.declared.entry.Rule.{Rule}
use Rattle.sudo_policy.specs.declared.tags.Tags.{Tags}
use Rattle.sudo_policy.specs.Tags.{no_tags}
use Rattle.messages.specs.Fields.{RequestFields}
use Rattle.messages.specs.Names.{name_of}
use Rattle.messages.specs.declared.message.Message.{Message}
use Rattle.roster.specs.Fields.{RosterFields}
use Rattle.grants.specs.Statuses.{InWindow, IsFirstMoment, IsLastMoment, IsStatus}
use Rattle.grants.specs.declared.outcome.Status.{Status}
use Rattle.grants.specs.declared.outcome.Status.TheVariants.{Disputed, Lapsed, Refused}
use Rattle.grants.specs.declared.outcome.Status.TheVariants.{Waiting, Void, Granted}

-- a list of one item, which is not negated
abbrev pub one : {X : Type 0} → X → List (Signed X)
one item = record { negated = false; item = item } ∷ []

-- One user may run one command on one host as one target: no alias, and nothing negated
-- (sudoers(5), "User specification").
abbrev pub plain_rule : (user host target : List ℕ)
    → (not_before not_after : Option ℕ) → Tags → Cmnd → Rule
plain_rule user host target not_before not_after tags cmnd = record {
  users = one (items.Name user);
  hosts = one (items.Name host);
  runas = one (items.Name target);
  not_before = not_before;
  not_after = not_after;
  tags = tags;
  cmnd = record { negated = false; item = cmnds.Cmnd cmnd };
}

-- such a rule of names, moments and a lawful command
pub record IsGrantRule (r : Rule) : Type 0 where
  pub user : List ℕ
  pub host : List ℕ
  pub target : List ℕ
  pub not_before : Option ℕ
  pub not_after : Option ℕ
  pub tags : Tags
  pub cmnd : Cmnd
  pub user_is : is_name user ≡ true
  pub host_is : is_host_name host ≡ true
  pub target_is : is_name target ≡ true
  pub not_before_is : IfSome not_before IsMoment
  pub not_after_is : IfSome not_after IsMoment
  pub lawful : IsLawful cmnd
  pub rule_is : r ≡ plain_rule user host target not_before not_after tags cmnd

-- the tags of a grant's rules: a password is asked for
abbrev pub grant_tags : Tags
grant_tags = no_tags

-- the rule of one command of a request, from its first moment to its last
abbrev pub grant_rule : List ℕ → RequestFields → (first last : ℕ) → Cmnd → Rule
grant_rule host q first last cmnd =
    plain_rule q.by host q.runas (Some first) (Some last) grant_tags cmnd

-- The rules that a request gives a host: if it names the host and its window is not empty, one for
-- each of its commands, in its order, with the window's first and last moment as dates; otherwise
-- none.
pub record AreRules (f : RosterFields Cmnd) (messages : List Message)
    (q : RequestFields) (host : List ℕ) (rules : List Rule) : Type 0 where
  pub granted : (first last : ℕ) → Contains q.hosts host → IsFirstMoment f messages q first
      → IsLastMoment f messages q last → rules ≡ map (grant_rule host q first last) q.cmnds
  pub other_host : ¬ Contains q.hosts host → rules ≡ []
  pub never : ((moment : ℕ) → ¬ InWindow f messages q moment) → rules ≡ []

-- ---- from what the request has come to

abbrev pub rules_for : List ℕ → RequestFields → Status → List Rule
rules_for host q Disputed = []
rules_for host q Lapsed = []
rules_for host q Refused = []
rules_for host q Waiting = []
rules_for host q Void = []
rules_for host q (Granted w) =
    if list_any (λ h. bytes_eq h host) q.hosts then map
    (grant_rule host q w.start w.end) q.cmnds else []

-- the rules that follow from what the set's messages come to
pub record AreGiven (f : RosterFields Cmnd) (messages : List Message)
    (q : RequestFields) (host : List ℕ) (rules : List Rule) : Type 0 where
  pub status : Status
  pub status_is : IsStatus f messages (name_of q) status
  pub rules_are : rules ≡ rules_for host q status

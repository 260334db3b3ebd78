-- What a grant gives beyond the base, on the hosts that it names (least privilege, NIST SP 800-53
-- AC-6(7)).
use Rattle.std.specs.Prelude.{ℕ, nat_eq, Bool, not, ◌&&◌, List, Contains, Some, filter, map, codes}
use Rattle.std.specs.Str.{bytes_eq}
use Rattle.sudo_policy.specs.declared.entry.Entry.{Entry}
use Rattle.sudo_policy.specs.declared.entry.Entry.TheVariants as entries
use Rattle.messages.specs.Fields.{RequestFields}
use Rattle.messages.specs.declared.request_name.RequestName.{RequestName}
use Rattle.grants.specs.GrantRules.{grant_rule}
use Rattle.grants.specs.declared.outcome.Window.{Window}
use Rattle.outcomes.specs.HostFile.{Line}
use Rattle.review.specs.declared.need.Need.{Need}
use Rattle.review.specs.declared.need.Need.TheVariants.{Needed, Needless, Unknown}
use Rattle.sudo_decide.specs.declared.scope.Scope.{Scope}
use Rattle.sudo_beyond.specs.Answer.{AreFew, AreTooMany}
use Rattle.sudo_beyond.specs.Beyond.{SomethingBeyond}

-- the rules of a grant on one host, as a policy of their own
abbrev pub own_policy : RequestFields → Window → (host : List ℕ) → List Entry
own_policy q w host = map entries.Rule (map (grant_rule host q w.start w.end) q.cmnds)

-- the grant's user, the host and the grant's target are fixed
abbrev pub grant_scope : RequestFields → (host : List ℕ) → Scope
grant_scope q host = record { user = Some q.by; host = Some host; runas = Some q.runas }

-- Whether the first policy is needed beside the second: needed if it allows something more,
-- needless if it allows nothing more, and unknown if there are too many cases to tell.
abbrev pub IsNeedBeyond : Scope → (a b : List Entry) → Need → Type 0
IsNeedBeyond s a b Needed = AreFew s a b × SomethingBeyond s a b
IsNeedBeyond s a b Needless = AreFew s a b × ¬ SomethingBeyond s a b
IsNeedBeyond s a b Unknown = AreTooMany s a b

-- the same for the grant on one host, beside the base
abbrev pub IsNeedOn : (base : List Entry) → RequestFields → Window → (host : List ℕ) → Need → Type 0
IsNeedOn base q w host need = IsNeedBeyond (grant_scope q host) (own_policy q w host) base need

-- Needed if it is needed on some host; needless if it is needless on each; unknown if it is unknown
-- on some host and needed on none.
abbrev pub IsNeedOver : (On : List ℕ → Need → Type 0) → (hosts : List (List ℕ)) → Need → Type 0
IsNeedOver On hosts Needed = (host : List ℕ) × Contains hosts host × On host Needed
IsNeedOver On hosts Needless = (host : List ℕ) → Contains hosts host → On host Needless
IsNeedOver On hosts Unknown =
    ((host : List ℕ) × Contains hosts host × On host Unknown)
    × ((host : List ℕ) → Contains hosts host → ¬ On host Needed)

-- whether the grant is needed, beside the base
abbrev pub IsNeed : (base : List Entry) → RequestFields → Window → Need → Type 0
IsNeed base q w need = IsNeedOver (IsNeedOn base q w) q.hosts need

-- ---- a host's file without a grant

abbrev pub is_same_name : (a b : RequestName) → Bool
is_same_name a b = bytes_eq a.by b.by && nat_eq a.no b.no

-- a file's lines without those of the name
abbrev pub lines_without : RequestName → List Line → List Line
lines_without name lines = filter (λ line. not (is_same_name line.name name)) lines

-- ---- texts

-- how it is written
abbrev pub need_text : Need → List ℕ
need_text Needed = codes "needed"
need_text Needless = codes "needless"
need_text Unknown = codes "unknown"

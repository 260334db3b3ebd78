-- The names of requests by the ends that they ask for: at each host, and of all.
use Rattle.std.specs.Prelude.{◌≡◌, ℕ, Bool, true, nat_le, List, [], ◌∷◌, ◌++◌, Contains}
use Rattle.std.specs.Prelude.{Option, Some, None, map}
use Rattle.std.specs.Borrow.{Bor}
use Rattle.std.specs.BTreeMap.{BTreeMap, get}
use Rattle.std.specs.BTreeSet.{BTreeSet}
use Rattle.std.specs.Cmp.Lexicographic.{slice_cmp}
use Rattle.std.specs.List.Sorted.{IsStrictlySortedBy}
use Rattle.std.specs.Ordering.{nat_cmp, ordering_then}
use Rattle.std.specs.declared.cmp.Ordering.{Ordering}
use Rattle.messages.specs.Fields.{RequestFields, IsRequest}
use Rattle.messages.specs.Names.{name_cmp}
use Rattle.messages.specs.declared.request_name.RequestName.{RequestName}
use Rattle.grants.specs.Summaries.{Kept}
use Rattle.outcomes.specs.declared.index.Ending.{Ending}
use Rattle.outcomes.specs.declared.index.Index.{Index}
use Rattle.outcomes.specs.private.ByName.{at_name}

-- ---- endings

-- by the last moment that is asked for, then by the name
abbrev pub ending_cmp : Ending → Ending → Ordering
ending_cmp a b = ordering_then (nat_cmp a.until b.until) (name_cmp a.name b.name)

-- what is listed of a request with this name
abbrev pub ending_of : RequestName → RequestFields → Ending
ending_of name q = record { until = q.until; name = name }

-- a set of endings for each host
abbrev pub Hosts : Type 0
Hosts = BTreeMap (List ℕ) (BTreeSet Ending)

abbrev pub endings_in : Option (BTreeSet Ending) → List Ending
endings_in None = []
endings_in (Some endings) = endings.keys

-- the endings that are listed at a host
abbrev pub endings_at : Hosts → List ℕ → List Ending
endings_at hosts host = endings_in (get (slice_cmp nat_cmp) hosts host)

-- ---- what is listed

-- The request is listed under the name: at each host that it lists, and among all.
pub record IsListed (index : Index) (name : RequestName) (q : RequestFields) : Type 0 where
  pub request : IsRequest q
  pub at_hosts : (host : List ℕ) → Contains q.hosts host
      → Contains (endings_at index.hosts host) (ending_of name q)
  pub among_all : Contains index.all.keys (ending_of name q)

-- The request of each summary is listed under its name. What is listed besides costs time, and
-- changes no answer.
abbrev pub AreListed : Index → BTreeMap RequestName Kept → Type 0
AreListed index summaries =
    (name : RequestName) (k : Kept) → at_name summaries name ≡ Some k
    → IsListed index name k.request

-- ---- which grants are left

-- Whether a grant whose request asks for this end can be left: without a moment each can, and with
-- one each that may end then or later.
abbrev pub is_left : Option ℕ → ℕ → Bool
is_left None until = true
is_left (Some moment) until = nat_le moment until

-- the name is that of an ending that is left
pub record IsNameLeft (after : Option ℕ) (endings : List Ending) (name : RequestName)
    : Type 0 where
  pub ending : Ending
  pub among : Contains endings ending
  pub left : is_left after ending.until ≡ true
  pub named : ending.name ≡ name

-- the names of the endings that are left: these and no others, in their order
pub record AreNamesLeft (after : Option ℕ) (endings : List Ending) (names : List RequestName)
    : Type 0 where
  pub in_order : IsStrictlySortedBy name_cmp names
  pub each : (name : RequestName) → Contains names name → IsNameLeft after endings name
  pub all : (ending : Ending) → Contains endings ending → is_left after ending.until ≡ true
      → Contains names ending.name

-- names that are lent
abbrev pub names_lent : List (Bor RequestName) → List RequestName
names_lent names = map (λ name. name.now) names

-- ---- the summaries of some names

abbrev pub if_kept : Option Kept → List Kept
if_kept None = []
if_kept (Some k) = k ∷ []

-- in the order of the names, without those that have none
abbrev pub kept_of : BTreeMap RequestName Kept → List RequestName → List Kept
kept_of summaries [] = []
kept_of summaries (name ∷ names) =
    if_kept (at_name summaries name) ++ kept_of summaries names

-- The orders in which a roster's commands, pairs and names are looked up by binary search. For
-- private clauses.
use Rattle.std.specs.Prelude.{ℕ, Bool, List, []}
use Rattle.std.specs.List.Sorted.{IsPermutation, IsSorted, IsStrictlySortedBy}
use Rattle.std.specs.Cmp.Lexicographic.{slice_cmp}
use Rattle.std.specs.declared.cmp.Ordering.{Ordering}
use Rattle.std.specs.Ordering.{nat_cmp, is_eq, ordering_then}
use Rattle.sudo_words.specs.declared.cmnd.Cmnd.{Cmnd}
use Rattle.sudo_words.specs.declared.cmnd.Cmnd.TheVariants.{All, Path, Dir}
use Rattle.sudo_words.specs.declared.cmnd.ArgRule.TheVariants.{Any, Empty, Exactly}
use Rattle.roster.specs.declared.commands.Kind.{Kind}
use Rattle.roster.specs.declared.commands.Kind.TheVariants as kind
use Rattle.sudo_words.specs.Lists.{text_order}
use Rattle.roster.specs.Relations.{pair_order}

-- in byte order, each text once
abbrev pub AreTextsInOrder : List (List ℕ) → Type 0
AreTextsInOrder texts = IsStrictlySortedBy text_order texts

abbrev pub AreInOrder : List (List ℕ × List ℕ) → Type 0
AreInOrder pairs = IsSorted pair_order pairs

-- the same items, in that order
pub record IsInOrder {X : Type 0} (order : X → X → Ordering) (items ordered : List X) : Type 0 where
  pub same : IsPermutation items ordered
  pub rising : IsSorted order ordered

-- ---- commands: by kind, then by path, then by arguments

abbrev pub rank : Kind → ℕ
rank kind.Everything = 0
rank kind.Directory = 1
rank kind.AnyArgs = 2
rank kind.NoArgs = 3
rank kind.TheseArgs = 4

-- what a command is looked up by
pub record Place : Type 0 where
  pub kind : Kind
  pub path : List ℕ
  pub args : List (List ℕ)

abbrev pub place : Cmnd → Place
place All = record { kind = kind.Everything; path = []; args = [] }
place (Dir d) = record { kind = kind.Directory; path = d; args = [] }
place (Path f Any) = record { kind = kind.AnyArgs; path = f; args = [] }
place (Path f Empty) = record { kind = kind.NoArgs; path = f; args = [] }
place (Path f (Exactly args)) = record { kind = kind.TheseArgs; path = f; args = args }

abbrev pub args_order : List (List ℕ) → List (List ℕ) → Ordering
args_order = slice_cmp text_order

abbrev pub place_order : Place → Place → Ordering
place_order p q = ordering_then (nat_cmp (rank p.kind) (rank q.kind))
    (ordering_then (text_order p.path q.path) (args_order p.args q.args))

abbrev pub cmnd_order : Cmnd → Cmnd → Ordering
cmnd_order c d = place_order (place c) (place d)

abbrev pub AreCmndsInOrder : List Cmnd → Type 0
AreCmndsInOrder cmnds = IsSorted cmnd_order cmnds

-- the command has this place
abbrev pub is_at : Place → Cmnd → Bool
is_at p c = is_eq (place_order (place c) p)

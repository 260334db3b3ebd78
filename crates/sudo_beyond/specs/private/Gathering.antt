-- What the functions that gather the cases are given, and what they add to a list; only their own
-- clauses cite it.
use Rattle.std.specs.Prelude.{◌≡◌, ℕ, ◌<◌, ◌≤◌, ◌^◌, Bool, true}
use Rattle.std.specs.Prelude.{if◌then◌else◌, List, [], ◌∷◌, ◌++◌, length, map}
use Rattle.std.specs.List.{flat_map}
use Rattle.std.specs.Ordering.{ordering_then}
use Rattle.std.specs.declared.cmp.Ordering.{Ordering}
use Rattle.std.specs.Str.{bytes_eq}
use Rattle.sudo_words.specs.declared.cmnd.Cmnd.{Cmnd}
use Rattle.sudo_words.specs.declared.cmnd.Cmnd.TheVariants as cmnd_of
use Rattle.sudo_words.specs.Word.{is_dir_path}
use Rattle.sudo_words.specs.Command.{most_path_bytes}
use Rattle.sudo_beyond.specs.declared.run.Run.{Run}
use Rattle.sudo_words.specs.Lists.{text_order, args_order, IsEachOnce}
use Rattle.sudo_beyond.specs.Cases.{other, IsFirstOther, has_word, has_args, listed_args, run_of}

-- each other word has the form, as far as a machine can count
abbrev pub IsFormOfOthers : (List ℕ → Bool) → Type 0
IsFormOfOthers form = (k : ℕ) → k < 2 ^ 64 → form (other k) ≡ true

-- a directory of a policy
abbrev pub IsLawfulDir : List ℕ → Type 0
IsLawfulDir dir = (is_dir_path dir ≡ true) × (length dir ≤ most_path_bytes)

-- the first other file of a directory that is not among these, and the first list of one other
-- argument that is not among these lists
abbrev pub IsFreeFile : List (List ℕ) → List ℕ → List ℕ → Type 0
IsFreeFile taken dir path =
    (name : List ℕ) × (path ≡ dir ++ name)
    × IsFirstOther (λ word. has_word taken (dir ++ word)) name

abbrev pub IsFreeArgs : List (List (List ℕ)) → List (List ℕ) → Type 0
IsFreeArgs lists args =
    (arg : List ℕ) × (args ≡ arg ∷ []) × IsFirstOther (λ word. has_args lists (word ∷ [])) arg

-- a part of this kind is added after the old list
abbrev pub Adds : {Y : Type 0} → (List Y → Type 0) → List Y → List Y → Type 0
Adds {Y} IsPart old new = (part : List Y) × (new ≡ old ++ part) × IsPart part

-- ---- the lists of arguments, by their paths

-- by path, and those of one path by their arguments
abbrev pub run_order : Run → Run → Ordering
run_order x y = ordering_then (text_order x.path y.path) (args_order x.args y.args)

-- the path of a command with the list of arguments that stands there
abbrev pub listing_in : Cmnd → List Run
listing_in cmnd_of.All = []
listing_in (cmnd_of.Path file rule) = map (run_of file) (listed_args rule)
listing_in (cmnd_of.Dir dir) = []

abbrev pub listings : List Cmnd → List Run
listings cmnds = flat_map listing_in cmnds

abbrev pub AreListings : List Cmnd → List Run → Type 0
AreListings cmnds listed = IsEachOnce run_order (listings cmnds) listed

-- the lists of arguments among these that are of the path
abbrev pub args_if : List ℕ → Run → List (List (List ℕ))
args_if path run = if bytes_eq run.path path then run.args ∷ [] else []

abbrev pub args_at : List ℕ → List Run → List (List (List ℕ))
args_at path listed = flat_map (args_if path) listed

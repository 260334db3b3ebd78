-- What went out of a response.
use Rattle.std.specs.Prelude.{◌≡◌, ℕ, List, ◌++◌, Option, Result, Ok, Err}
use Rattle.std.specs.Io.KnownBytes.{Appends}

-- the bytes begin with these
abbrev pub IsBeginning : (front bytes : List ℕ) → Type 0
IsBeginning front bytes = (rest : List ℕ) × (bytes ≡ front ++ rest)

-- what the writer holds grew by a beginning of the bytes, which may be none or all of them
abbrev pub Began : (old new : Option (List ℕ)) → List ℕ → Type 0
Began old new bytes = (front : List ℕ) × IsBeginning front bytes × Appends old new front

-- all the bytes went out, or a beginning of them where a write failed
abbrev pub Sends : {A E : Type 0} → (old new : Option (List ℕ)) → Result A E → List ℕ → Type 0
Sends old new (Ok a) bytes = Appends old new bytes
Sends old new (Err e) bytes = Began old new bytes

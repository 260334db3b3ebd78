-- How the program says that it refuses.
use Rattle.std.specs.Prelude.{ℕ, List, ◌++◌, Option, codes, take}
use Rattle.std.specs.Io.KnownBytes.{Appends}
use Rattle.desk_commands.specs.Refusals.{job_refusal_text}
use Rattle.desk_commands.specs.declared.refusal.JobRefusal.{JobRefusal}

-- the line of a refusal: its code and name, and a newline
abbrev pub refusal_line : JobRefusal → List ℕ
refusal_line refusal = job_refusal_text refusal ++ codes "\n"

-- Known bytes grow by a beginning of these, which may be all of them, or none.
abbrev pub AppendsFront : (before after : Option (List ℕ)) → (bytes : List ℕ) → Type 0
AppendsFront before after bytes = (n : ℕ) × Appends before after (take n bytes)

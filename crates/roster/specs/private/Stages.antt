-- How the stages of reading answer. For private clauses.
use Rattle.std.specs.Prelude.{◌≡◌, ◌≢◌, ℕ, List, Option, Some, None}
use Rattle.std.specs.Prelude.{Result, Ok, Err, Bool, true, false}
use Rattle.toml.specs.Data.{Members}
use Rattle.toml.specs.Parse.{parse_document}
use Rattle.roster.specs.Document.{has_known_keys, fields_of}
use Rattle.roster.specs.Fields.{RosterFields}
use Rattle.roster.specs.Rules.{are_known, has_self_conflict, in_range}
use Rattle.roster.specs.declared.fault.RosterFault.{RosterFault}
use Rattle.roster.specs.declared.fault.RosterFault.TheVariants.{NoMemory}

-- The result is what is there, or this fault if nothing is there, unless memory runs out.
abbrev pub Reads : {X : Type 0} → RosterFault → Option X → Result X RosterFault → Type 0
Reads fault there (Ok x) = there ≡ Some x
Reads fault there (Err e) = e ≢ NoMemory → (e ≡ fault) × (there ≡ None)

-- The result is this value if the test holds, and this fault if it does not, unless memory runs
-- out.
abbrev pub Checks : {X : Type 0} → RosterFault → Bool → X → Result X RosterFault → Type 0
Checks fault test x (Ok y) = (test ≡ true) × (y ≡ x)
Checks fault test x (Err e) = e ≢ NoMemory → (e ≡ fault) × (test ≡ false)

-- The result is a value that meets `Stands` if the fact holds, and this fault if it does not,
-- unless memory runs out.
abbrev pub Meets : {X : Type 0} → RosterFault → Type 0
    → (X → Type 0) → Result X RosterFault → Type 0
Meets fault fact Stands (Ok y) = fact × Stands y
Meets fault fact Stands (Err e) = e ≢ NoMemory → (e ≡ fault) × ¬ fact

-- The text is a document with known keys only, whose values have their types and say this.
pub record IsDraftOf (text : List ℕ) (t : RosterFields (List ℕ)) : Type 0 where
  pub document : Members
  pub toml : parse_document text ≡ Some document
  pub keys : has_known_keys document ≡ true
  pub types : fields_of document ≡ Some t

-- Each duty and host that is named is listed, no duty conflicts with itself, and each number, day
-- and count is in range.
pub record KeepsRules (text : List ℕ) (t : RosterFields (List ℕ)) : Type 0 where
  pub known : are_known t ≡ true
  pub apart : has_self_conflict t ≡ false
  pub range : in_range text t ≡ true

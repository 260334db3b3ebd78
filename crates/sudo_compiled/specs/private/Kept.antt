-- A list that mostly has one item, or is what an alias stands for, as it is kept.
use Rattle.std.specs.Prelude.{Bool, not, if◌then◌else◌, List, [], ◌∷◌, map}
use Rattle.sudo_policy.specs.declared.entry.Signed.{Signed}
use Rattle.sudo_compiled.specs.declared.few.Kept.{Kept}
use Rattle.sudo_compiled.specs.declared.few.Kept.TheVariants.{One, More, Alias}

-- an item, turned over under a negation
abbrev pub turned : {X : Type 0} → Bool → Signed X → Signed X
turned negated x = record { negated = if negated then not x.negated else x.negated; item = x.item }

abbrev pub items_of : {X : Type 0} → Kept X → List (Signed X)
items_of (One x) = x ∷ []
items_of (More xs) = xs.items
items_of (Alias negated xs) = map (turned negated) xs.value.items

-- What an alias of a policy answers, by all of the policy's definitions of its kind (sudoers(5),
-- "Aliases").
use Rattle.std.specs.Prelude.{◌≡◌, ℕ, List, reverse}
use Rattle.std.specs.List.{flat_map}
use Rattle.sudo_policy.specs.declared.entry.Signed.{Signed}
use Rattle.sudo_policy.specs.declared.entry.Item.{Item}
use Rattle.sudo_policy.specs.declared.entry.CmndItem.{CmndItem}
use Rattle.sudo_policy.specs.declared.entry.Entry.{Entry}
use Rattle.sudo_policy.specs.declared.tree.Definition.{Definition}
use Rattle.sudo_policy.specs.Alias.{DefinedAt, cmnd_def, cmnd_defs}
use Rattle.sudo_policy.specs.Text.{Names}
use Rattle.sudo_decide.specs.Decision.{list_answer, cmnd_answer, name_alias_says}
use Rattle.sudo_decide.specs.Decision.{cmnd_alias_says, names_say}

-- `NAME = LIST`, wherever it stands among the entries: for each name asked for, the alias answers
-- what its list answers, both by all definitions of the kind among the entries
abbrev pub EachAnswersItsList : (Entry → List (Definition (Item (List ℕ)))) → List Entry → Type 0
EachAnswersItsList def es =
    (asked : List ℕ) (place : ℕ) (name : List ℕ) (list : Names) → DefinedAt def es place name list
    → name_alias_says (flat_map def (reverse es)) asked name
    ≡ names_say (flat_map def (reverse es)) asked list

-- the same for aliases of commands, whatever is run
abbrev pub EachCmndAnswersItsList : List Entry → Type 0
EachCmndAnswersItsList es =
    (path : List ℕ) (args : List (List ℕ)) (place : ℕ) (name : List ℕ)
    (list : List (Signed CmndItem)) → DefinedAt cmnd_def es place name list
    → cmnd_alias_says (cmnd_defs (reverse es)) path args name
    ≡ list_answer (cmnd_answer (cmnd_alias_says (cmnd_defs (reverse es)) path args) path args) list

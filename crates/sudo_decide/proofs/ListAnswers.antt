-- What a list answers depends on its own aliases alone.
use Rattle.std.proofs.Common.{◌≡◌, ℕ, Bool, true, List, [], ◌∷◌, Option, None, refl, ap, ◌∙◌}
use Rattle.std.specs.Prelude.{IfSome}
use Rattle.std.specs.Option.{option_or}
use Rattle.sudo_policy.specs.declared.entry.Item.{Item}
use Rattle.sudo_policy.specs.declared.entry.Item.TheVariants as items
use Rattle.sudo_policy.specs.declared.entry.CmndItem.TheVariants as cmnds
use Rattle.sudo_policy.specs.declared.entry.Entry.{Entry}
use Rattle.sudo_policy.specs.declared.tree.Definition.{Definition}
use Rattle.sudo_policy.specs.Alias.{is_defined, item_alias, cmnd_alias, user_def, runas_def, host_def, cmnd_def}
use Rattle.sudo_policy.specs.Policy.{IsPolicy}
use Rattle.sudo_policy.proofs.AliasPlaces.{DependsOnAliases, Step, by_all, user_step, runas_step, host_step, cmnd_step}
use Rattle.sudo_decide.specs.Decision.{signed_answer, list_answer, item_answer, cmnd_answer}
use Rattle.sudo_decide.specs.Answered.{EachAnswersItsList, EachCmndAnswersItsList}

abbrev ItemDepends : {X : Type 0} → (X → Option (List ℕ)) → ((List ℕ → Option Bool) → X → Option Bool) → Type 0
ItemDepends {X} alias_of says =
    (v w : List ℕ → Option Bool) (known : List ℕ → Bool) (x : X) → ((n : List ℕ) → known n ≡ true → v n ≡ w n) → IfSome (alias_of x) (λ n. known n ≡ true)
    → says v x ≡ says w x

item_depends : (asked : List ℕ) → ItemDepends item_alias (λ says item. item_answer says asked item)
item_depends asked v w known items.All same is = refl
item_depends asked v w known (items.Name name) same is = refl
item_depends asked v w known (items.Alias name) same is = same name is

cmnd_depends : (path : List ℕ) (args : List (List ℕ)) → ItemDepends cmnd_alias (λ says item. cmnd_answer says path args item)
cmnd_depends path args v w known (cmnds.Alias name) same is = same name is
cmnd_depends path args v w known (cmnds.Cmnd cmnd) same is = refl

list_depends : {X : Type 0} (alias_of : X → Option (List ℕ)) (says : (List ℕ → Option Bool) → X → Option Bool)
    → ItemDepends alias_of says → DependsOnAliases alias_of (λ v list. list_answer (says v) list)
list_depends alias_of says depends v w defs [] same knows = refl
list_depends {X} alias_of says depends v w defs (s ∷ list) same knows =
    let first : says v s.item ≡ says w s.item = depends v w (is_defined defs) s.item same knows.0 in
    ap (λ (o : Option Bool). option_or (list_answer (says v) list) (signed_answer s.negated o)) first
    ∙ ap (λ (o : Option Bool). option_or o (signed_answer s.negated (says w s.item))) (list_depends alias_of says depends v w defs list same knows.1)

names_answer : (def : Entry → List (Definition (Item (List ℕ)))) → Step item_alias def → (es : List Entry) → IsPolicy es → EachAnswersItsList def es
names_answer def step es policy asked place name list at =
    by_all item_alias def (λ v xs. list_answer (item_answer v asked) xs) None es place name list
    (list_depends item_alias (λ says item. item_answer says asked item) (item_depends asked)) step policy.placed at

pub users_answer : (es : List Entry) → IsPolicy es → EachAnswersItsList user_def es
users_answer = names_answer user_def user_step

pub runas_answer : (es : List Entry) → IsPolicy es → EachAnswersItsList runas_def es
runas_answer = names_answer runas_def runas_step

pub hosts_answer : (es : List Entry) → IsPolicy es → EachAnswersItsList host_def es
hosts_answer = names_answer host_def host_step

pub cmnds_answer : (es : List Entry) → IsPolicy es → EachCmndAnswersItsList es
cmnds_answer es policy path args place name list at =
    by_all cmnd_alias cmnd_def (λ v xs. list_answer (cmnd_answer v path args) xs) None es place name list
    (list_depends cmnd_alias (λ says item. cmnd_answer says path args item) (cmnd_depends path args)) cmnd_step policy.placed at

-- What is kept for aliases, as entries are added.
use Rattle.std.proofs.Common.{◌≡◌, ℕ, ◌+◌, ◌≤◌, Bool, true, false, cond, ◌||◌, List, [], ◌∷◌, ◌++◌, length}
use Rattle.std.proofs.Common.{reverse, Option, Some, None, refl, sym, ap, subst, ◌∙◌, inl, inr, arith}
use Rattle.std.specs.Prelude.{IfSome}
use Rattle.std.specs.List.{flat_map}
use Rattle.std.specs.Option.{is_some, option_map_or}
use Rattle.std.specs.Str.{bytes_eq}
use Rattle.std.proofs.lemmas.Bool.{cases_Bool}
use Rattle.std.proofs.lemmas.List.{reverse-append}
use Rattle.std.proofs.lemmas.List.Concat.{flat_map-cons}
use Rattle.std.proofs.lemmas.Slice.Eq.{bytes_eq-Decides}
use Rattle.sudo_policy.specs.declared.entry.Signed.{Signed}
use Rattle.sudo_policy.specs.declared.entry.Rule.{Rule}
use Rattle.sudo_policy.specs.declared.entry.Entry.{Entry}
use Rattle.sudo_policy.specs.declared.tree.Definition.{Definition}
use Rattle.sudo_policy.specs.declared.aliases.Alias.{Alias}
use Rattle.sudo_policy.specs.declared.aliases.Aliases.{Aliases}
use Rattle.sudo_policy.specs.declared.alias_kinds.AliasKinds.{AliasKinds}
use Rattle.sudo_policy.specs.Alias.{DefinedAt, is_defined, item_alias, cmnd_alias, list_weight, depth_of}
use Rattle.sudo_policy.specs.Alias.{alias_weight, alias_depth, user_defs, runas_defs, host_defs, cmnd_defs}
use Rattle.sudo_policy.specs.private.Measures.{alias_at, has, weight_in, depth_in, stopped, IsDefinable, Defines}
use Rattle.sudo_policy.specs.private.AliasKinds.{IsTable, ArePlaces, IsKind, AreAliasKinds, RuleIsKnown, rule_weight_in}
use Rattle.sudo_policy.specs.Policy.{IsNew, KnowsRule, rule_weight}
use Rattle.sudo_policy.proofs.DefinedPlaces.{defined_before, defined_last}
use Rattle.sudo_policy.proofs.Measuring.{known_same, list_stopped, list_deep}

-- ---- one more definition

some_cond : (b : Bool) (a : Alias) (o : Option Alias) → is_some (cond b (Some a) o) ≡ (b || is_some o)
some_cond true a o = refl
some_cond false a o = refl

read_cond : (f : Alias → ℕ) (b : Bool) (a : Alias) (o : Option Alias) → option_map_or f (cond b (Some a) o) 0 ≡ cond b (f a) (option_map_or f o 0)
read_cond f true a o = refl
read_cond f false a o = refl

stopped_cond : (b : Bool) (x y u v : ℕ) → x ≡ stopped u → y ≡ stopped v → cond b x y ≡ stopped (cond b u v)
stopped_cond true x y u v e f = e
stopped_cond false x y u v e f = f

same_cond : (b : Bool) (x y u v : ℕ) → x ≡ u → y ≡ v → cond b x y ≡ cond b u v
same_cond true x y u v e f = e
same_cond false x y u v e f = f

pub table_push :
    {X : Type 0} (alias_of : X → Option (List ℕ)) (defs : List (Definition X)) (old new : Aliases) (name : List ℕ) (place : ℕ) (list : List (Signed X))
    → IsTable alias_of defs old → Defines alias_of old new name place list → IsTable alias_of (record { name = name; list = list } ∷ defs) new
table_push {X} alias_of defs old new name place list t d =
    let heavy : Alias → ℕ = λ a. a.measure.weight in
    let deep : Alias → ℕ = λ a. a.measure.depth in
    let alias = d.alias in
    let weighs : alias.measure.weight ≡ stopped (list_weight alias_of (alias_weight alias_of defs) list) =
    d.kept.weight ∙ list_stopped alias_of (weight_in old) (alias_weight alias_of defs) list t.weighs in
    let depth : alias.measure.depth ≡ depth_of alias_of (alias_depth alias_of defs) list =
    d.kept.depth ∙ ap (λ (n : ℕ). 1 + n) (list_deep alias_of (depth_in old) (alias_depth alias_of defs) list t.deep) in
    record {
      has_those = λ n.
          ap is_some (d.updates n) ∙ some_cond (bytes_eq name n) alias (alias_at old n) ∙ ap (λ (b : Bool). bytes_eq name n || b) (t.has_those n);
      weighs = λ n. ap (λ (o : Option Alias). option_map_or heavy o 0) (d.updates n) ∙ read_cond heavy (bytes_eq name n) alias (alias_at old n)
          ∙ stopped_cond (bytes_eq name n) alias.measure.weight (weight_in old n)
          (list_weight alias_of (alias_weight alias_of defs) list) (alias_weight alias_of defs n) weighs (t.weighs n);
      deep = λ n. ap (λ (o : Option Alias). option_map_or deep o 0) (d.updates n) ∙ read_cond deep (bytes_eq name n) alias (alias_at old n)
          ∙ same_cond (bytes_eq name n) alias.measure.depth (depth_in old n)
          (depth_of alias_of (alias_depth alias_of defs) list) (alias_depth alias_of defs n) depth (t.deep n);
    }

-- an alias may be defined by what is kept exactly where it may be by the definitions
pub new_is : {X : Type 0} (alias_of : X → Option (List ℕ)) (defs : List (Definition X)) (m : Aliases) (name : List ℕ) (list : List (Signed X))
    → IsTable alias_of defs m → IsDefinable alias_of m name list → IsNew alias_of defs name list
new_is alias_of defs m name list t d = record {
  new = sym (t.has_those name) ∙ d.new;
  knows = known_same alias_of (has m) (is_defined defs) list t.has_those d.knows;
  shallow = subst (λ (n : ℕ). 1 + n ≤ 64) (list_deep alias_of (depth_in m) (alias_depth alias_of defs) list t.deep) d.shallow;
}

pub definable_is : {X : Type 0} (alias_of : X → Option (List ℕ)) (defs : List (Definition X)) (m : Aliases) (name : List ℕ) (list : List (Signed X))
    → IsTable alias_of defs m → IsNew alias_of defs name list → IsDefinable alias_of m name list
definable_is alias_of defs m name list t d = record {
  new = t.has_those name ∙ d.new;
  knows = known_same alias_of (is_defined defs) (has m) list (λ n. sym (t.has_those n)) d.knows;
  shallow = subst (λ (n : ℕ). 1 + n ≤ 64) (sym (list_deep alias_of (depth_in m) (alias_depth alias_of defs) list t.deep)) d.shallow;
}

-- ---- one more entry

defs_push : {X : Type 0} (def : Entry → List (Definition X)) (es : List Entry) (e : Entry)
    → flat_map def (reverse (es ++ e ∷ [])) ≡ def e ++ flat_map def (reverse es)
defs_push def es e =
    let last : reverse (es ++ e ∷ []) ≡ e ∷ reverse es = reverse-append es (e ∷ []) in
    ap (flat_map def) last ∙ flat_map-cons def e (reverse es)

abbrev IsPlace : {X : Type 0} → (Entry → List (Definition X)) → List Entry → List ℕ → Alias → Type 0
IsPlace {X} def es name a = (list : List (Signed X)) × DefinedAt def es a.place name list

place_kept : {X : Type 0} (def : Entry → List (Definition X)) (es : List Entry) (e : Entry) (n : List ℕ) (o : Option Alias)
    → IfSome o (IsPlace def es n) → IfSome o (IsPlace def (es ++ e ∷ []) n)
place_kept def es e n None h = tt
place_kept def es e n (Some a) h = (h.0, defined_before def es e a.place n h.0 h.1)

places_push : {X : Type 0} (alias_of : X → Option (List ℕ)) (def : Entry → List (Definition X)) (es : List Entry)
    (e : Entry) (old new : Aliases) (name : List ℕ) (list : List (Signed X)) → def e ≡ record { name = name; list = list } ∷ []
    → ArePlaces def es old → Defines alias_of old new name (length es) list → ArePlaces def (es ++ e ∷ []) new
places_push {X} alias_of def es e old new name list is ps d n =
    let P : Option Alias → Type 0 = λ o. IfSome o (IsPlace def (es ++ e ∷ []) n) in
    let Q : Bool → Type 0 = λ b. P (cond b (Some d.alias) (alias_at old n)) in
    let here : Q (bytes_eq name n) = elim (cases_Bool (bytes_eq name n)) as (λ _. Q (bytes_eq name n)) [
      | inl equal ↦
          let same : name ≡ n = (bytes_eq-Decides name n).0 equal in
          let at : DefinedAt def (es ++ e ∷ []) d.alias.place n list =
          subst (λ (m : List ℕ). DefinedAt def (es ++ e ∷ []) d.alias.place m list) same
          (subst (λ (k : ℕ). DefinedAt def (es ++ e ∷ []) k name list) (sym d.kept.place_is) (defined_last def es e name list is)) in
          subst Q (sym equal) (list, at)
      | inr other ↦ subst Q (sym other) (place_kept def es e n (alias_at old n) (ps n))
    ] in
    subst P (sym (d.updates n)) here

pub kind_push : {X : Type 0} (alias_of : X → Option (List ℕ)) (def : Entry → List (Definition X)) (es : List Entry)
    (e : Entry) (old new : Aliases) (name : List ℕ) (list : List (Signed X)) → def e ≡ record { name = name; list = list } ∷ []
    → IsKind def alias_of es old → Defines alias_of old new name (length es) list → IsKind def alias_of (es ++ e ∷ []) new
kind_push {X} alias_of def es e old new name list is k d =
    let P : List (Definition X) → Type 0 = λ ds. IsTable alias_of ds new in
    record {
      table = subst P (sym (defs_push def es e ∙ ap (λ (ds : List (Definition X)). ds ++ flat_map def (reverse es)) is))
          (table_push alias_of (flat_map def (reverse es)) old new name (length es) list k.table d);
      places = places_push alias_of def es e old new name list is k.places d;
    }

-- an entry of another kind
pub kind_same : {X : Type 0} (alias_of : X → Option (List ℕ)) (def : Entry → List (Definition X)) (es : List Entry) (e : Entry) (m : Aliases)
    → def e ≡ [] → IsKind def alias_of es m → IsKind def alias_of (es ++ e ∷ []) m
kind_same {X} alias_of def es e m none k =
    let P : List (Definition X) → Type 0 = λ ds. IsTable alias_of ds m in
    record {
      table = subst P (sym (defs_push def es e ∙ ap (λ (ds : List (Definition X)). ds ++ flat_map def (reverse es)) none)) k.table;
      places = λ n. place_kept def es e n (alias_at m n) (k.places n);
    }

-- ---- rules

pub rule_known : (es : List Entry) (s : AliasKinds) (r : Rule) → AreAliasKinds es s → RuleIsKnown s r → KnowsRule (reverse es) r
rule_known es s r is h = record {
  users = known_same item_alias (has s.users) (is_defined (user_defs (reverse es))) r.users is.users.table.has_those h.users;
  hosts = known_same item_alias (has s.hosts) (is_defined (host_defs (reverse es))) r.hosts is.hosts.table.has_those h.hosts;
  runas = known_same item_alias (has s.runas) (is_defined (runas_defs (reverse es))) r.runas is.runas.table.has_those h.runas;
  cmnd = known_same cmnd_alias (has s.cmnds) (is_defined (cmnd_defs (reverse es))) (r.cmnd ∷ []) is.cmnds.table.has_those h.cmnd;
}

pub known_rule : (es : List Entry) (s : AliasKinds) (r : Rule) → AreAliasKinds es s → KnowsRule (reverse es) r → RuleIsKnown s r
known_rule es s r is h = record {
  users = known_same item_alias (is_defined (user_defs (reverse es))) (has s.users) r.users (λ n. sym (is.users.table.has_those n)) h.users;
  hosts = known_same item_alias (is_defined (host_defs (reverse es))) (has s.hosts) r.hosts (λ n. sym (is.hosts.table.has_those n)) h.hosts;
  runas = known_same item_alias (is_defined (runas_defs (reverse es))) (has s.runas) r.runas (λ n. sym (is.runas.table.has_those n)) h.runas;
  cmnd = known_same cmnd_alias (is_defined (cmnd_defs (reverse es))) (has s.cmnds) (r.cmnd ∷ []) (λ n. sym (is.cmnds.table.has_those n)) h.cmnd;
}

four_stopped : (a b c d w x y z : ℕ) → stopped a ≡ stopped w → stopped b ≡ stopped x → stopped c ≡ stopped y → stopped d ≡ stopped z
    → stopped (((a + b) + c) + d) ≡ stopped (((w + x) + y) + z)
four_stopped a b c d w x y z e f g h = omega arith

pub rule_stopped : (es : List Entry) (s : AliasKinds) (r : Rule) → AreAliasKinds es s → stopped (rule_weight_in s r) ≡ stopped (rule_weight (reverse es) r)
rule_stopped es s r is =
    let users = alias_weight item_alias (user_defs (reverse es)) in
    let hosts = alias_weight item_alias (host_defs (reverse es)) in
    let runas = alias_weight item_alias (runas_defs (reverse es)) in
    let cmnds = alias_weight cmnd_alias (cmnd_defs (reverse es)) in
    four_stopped (list_weight item_alias (weight_in s.users) r.users) (list_weight item_alias (weight_in s.hosts) r.hosts)
    (list_weight item_alias (weight_in s.runas) r.runas) (list_weight cmnd_alias (weight_in s.cmnds) (r.cmnd ∷ [])) (list_weight item_alias users r.users)
    (list_weight item_alias hosts r.hosts) (list_weight item_alias runas r.runas) (list_weight cmnd_alias cmnds (r.cmnd ∷ [])) (list_stopped item_alias
    (weight_in s.users) users r.users is.users.table.weighs) (list_stopped item_alias (weight_in s.hosts) hosts r.hosts is.hosts.table.weighs)
    (list_stopped item_alias (weight_in s.runas) runas r.runas is.runas.table.weighs)
    (list_stopped cmnd_alias (weight_in s.cmnds) cmnds (r.cmnd ∷ []) is.cmnds.table.weighs)

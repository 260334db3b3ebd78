-- What the steps of a write say of each INSERT and DELETE.
use Rattle.std.proofs.Common.{◌≡◌, ◌⊎◌, inl, inr, ℕ, List, [], ◌∷◌, length, Bool, true, false, cond, ◌&&◌, ◌==◌, Option, Some, None, Result, Ok, Err, refl, ap}
use Rattle.std.specs.List.{filter_map, flat_map}
use Rattle.sqlite.specs.Order.{Row}
use Rattle.sqlite.specs.Schema.{Schema}
use Rattle.sqlite.specs.Table.{Table}
use Rattle.sqlite.specs.declared.run.Mode.{Mode}
use Rattle.sqlite_schema.specs.declared.schema.Keys.{Keys}
use Rattle.sqlite_schema.specs.declared.schema.Keys.TheVariants.{Enforced}
use Rattle.sqlite_schema.specs.declared.schema.Reference.{Reference}
use Rattle.sqlite_schema.specs.Rules.{ParentKey, parent_key}
use Rattle.sqlite_rules.specs.Action.{work_by, work_for, works, deed_for}
use Rattle.sqlite_rules.specs.declared.action.Deed.{Deed}

-- a write that takes no row away has no action of a foreign key
no_work : (depth tree : ℕ) (child : Table) (ref : Reference) (deed : Option Deed) (key : Option ParentKey) → work_by depth tree [] child ref deed key ≡ None
no_work depth tree child ref None key = refl
no_work depth tree child ref (Some deed) None = refl
no_work depth tree child ref (Some deed) (Some key) =
    ap (λ b. cond b (Some (record { depth = depth; child = child; ref = ref; places = key.1; order = key.2; deed = deed; moves = [] })) None)
    (and-false (key.0 == tree))
  where
    and-false : (b : Bool) → (b && false) ≡ false
    and-false true = refl
    and-false false = refl

pub no_works : (schema : Schema) (keys : Keys) (depth tree : ℕ) (news : List Row) → works schema keys depth tree [] news ≡ []
no_works schema keys depth tree news = tables schema.tables
  where
    refs : (child : Table) (rs : List Reference) → filter_map (work_for schema keys depth tree [] news child) rs ≡ []
    refs child [] = refl
    refs child (r ∷ rs) = rw (no_work depth tree child r (deed_for keys (length news == 0) r) (parent_key schema.tables r)) (refs child rs)

    tables : (ts : List Table) → flat_map (λ child. filter_map (work_for schema keys depth tree [] news child) child.references) ts ≡ []
    tables [] = refl
    tables (t ∷ ts) = rw (refs t t.references) (tables ts)

pub went : {B E R : Type 0} {b : B} {Stops : E → Type 0} → ((stop : E) × Stops stop × (Ok b ≡ Err stop)) ⊎ R → R
went (inl stopped) = absurd (let e = stopped.2 in cc)
went (inr on) = on

pub same_value : {B E : Type 0} {a b : B} → ◌≡◌ {A = Result B E} (Ok a) (Ok b) → a ≡ b
same_value e = cc

abbrev pub mode : Mode
mode = record { keys = Enforced; in_doubt = false; may_wait = false }

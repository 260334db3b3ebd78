-- Which commands reach no further than another, by cases on their forms. For private clauses:
-- `is_inside` is proved equal to inclusion.
use Rattle.std.specs.Prelude.{◌≡◌, ℕ, ◌-◌, ◌≤◌, ◌==◌, ◌⊎◌, Bool, true}
use Rattle.std.specs.Prelude.{false, ◌&&◌, List, length, get_or, take, drop}
use Rattle.std.specs.List.{AllByRecursion}
use Rattle.std.specs.Str.{bytes_eq}
use Rattle.std.specs.Cmp.Lexicographic.{pointwise}
use Rattle.sudo_words.specs.Command.{is_directly_in}
use Rattle.sudo_words.specs.declared.cmnd.Cmnd.{Cmnd}
use Rattle.sudo_words.specs.declared.cmnd.Cmnd.TheVariants.{All, Path, Dir}
use Rattle.sudo_words.specs.declared.cmnd.ArgRule.{ArgRule}
use Rattle.sudo_words.specs.declared.cmnd.ArgRule.TheVariants.{Any, Empty, Exactly}

-- the inner rule allows no arguments that the outer does not
abbrev pub rule_inside : (inner outer : ArgRule) → Bool
rule_inside r Any = true
rule_inside Empty Empty = true
rule_inside (Exactly a) (Exactly b) = pointwise bytes_eq a b
rule_inside r s = false

abbrev pub is_inside : (inner outer : Cmnd) → Bool
is_inside k All = true
is_inside (Path f r) (Path g s) = bytes_eq f g && rule_inside r s
is_inside (Path f r) (Dir d) = is_directly_in d f
is_inside (Dir d) (Dir e) = bytes_eq d e
is_inside k c = false

abbrev pub is_all : Cmnd → Bool
is_all All = true
is_all c = false

-- the path up to and including its last slash; empty if it has none
pub record IsDirOf (path dir : List ℕ) : Type 0 where
  pub end : ℕ
  pub within : end ≤ length path
  pub is : dir ≡ take end path
  pub slash : (end ≡ 0) ⊎ ((1 ≤ end) × (get_or path (end - 1) 0 ≡ 47))
  pub name : AllByRecursion (λ b. (b == 47) ≡ false) (drop end path)

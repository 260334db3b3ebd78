use Rattle.std.proofs.Common.{◌≤◌, ℕ, ℤ, List, sym, subst, ◌∙◌}
use Rattle.std.specs.Prelude.{count_by}
use Rattle.store_opening.specs.private.Names.{name_is}
use Rattle.store_opening.proofs.OnceLemmas.{once_apart}
use Rattle.store_opening.proofs.once.are_once.Goals as goal

pub returns-then-is_each_once : goal.returns-then-is_each_once
returns-then-is_each_once c =
    let few : (asker : List ℕ) (number : ℤ) → count_by (name_is asker number) c.args.rows.now ≤ 1 =
    λ asker number. subst (λ n. n ≤ 1) (c.in_ok-names.ensures asker number) (c.are_apart.ensures c.if-are_apart.true asker number) in
    sym (once_apart c.args.rows.now few (sym c.is_each_once.ensures ∙ c.if-is_each_once.true))

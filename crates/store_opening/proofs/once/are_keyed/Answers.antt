use Rattle.std.proofs.Common.{◌≤◌, ℕ, ℤ, List, sym, subst, ◌∙◌}
use Rattle.std.specs.Prelude.{count_by}
use Rattle.store_opening.specs.private.Names.{id_is}
use Rattle.store_opening.proofs.OnceLemmas.{keyed_apart}
use Rattle.store_opening.proofs.once.are_keyed.Goals as goal

pub returns-then-is_each_same : goal.returns-then-is_each_same
returns-then-is_each_same c =
    let few : (asker : List ℕ) (number : ℤ) → count_by (id_is asker number) c.args.rows.now ≤ 1 =
    λ asker number. subst (λ n. n ≤ 1) (c.in_ok-ids.ensures asker number) (c.are_apart.ensures c.if-are_apart.true asker number) in
    sym (keyed_apart c.args.rows.now few (sym c.is_each_same.ensures ∙ c.if-is_each_same.true))

use Rattle.std.proofs.Common.{◌≡◌, ◌≤◌, ℕ, List, ◌∙◌, map, take, drop, true, false, length, subst, sym, ap, rules}
use Rattle.std.specs.List.Sorted.{IsPartitionedBy, IsPartitionPoint}
use Rattle.std.proofs.lemmas.List.Sorted.{IsPartitionPoint-from_clause}
use Rattle.sudo_beyond.specs.declared.run.Run.{Run}
use Rattle.sudo_beyond.proofs.Listings.{is_before, is_own, before_first, own_first, side_by_side}
use Rattle.sudo_beyond.proofs.runs.listed_at.Goals as goal

pub returns : goal.returns
returns c =
    let path : List ℕ = c.args.path.now in
    let listed : List Run = c.args.listed.now in
    let i : ℕ = c.partition_point.result in
    let j : ℕ = c.partition_point-2.result in
    let rest : List Run = c.split_at.result.1.now in
    let back : rest ≡ drop i listed = c.split_at.ensures.back in
    let point = IsPartitionPoint-from_clause (is_before path) listed i c.partition_point.ensures.partitioned
    (before_first path listed c.requires) (λ a r q k. search rules) in
    let parted =
    subst (λ (runs : List Run). IsPartitionedBy (is_own path) runs) (sym back) (own_first path listed c.requires i c.partition_point.ensures.bound point) in
    let end = IsPartitionPoint-from_clause (is_own path) rest j c.partition_point-2.ensures.partitioned parted (λ a r q k. search rules) in
    let own = subst (λ (runs : List Run). IsPartitionPoint (λ (run : Run). is_own path run ≡ true) (λ (run : Run). is_own path run ≡ false) runs j) back end in
    let within = subst (λ (runs : List Run). j ≤ length runs) back c.partition_point-2.ensures.bound in
    ap (map (λ (run : Run). run.args)) (c.split_at-2.ensures.front ∙ ap (take j) back)
    ∙ side_by_side path listed c.requires i c.partition_point.ensures.bound point j within own

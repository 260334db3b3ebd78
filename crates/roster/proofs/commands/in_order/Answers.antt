use Rattle.std.proofs.Common.{◌≡◌, ◌∙◌, rules, subst}
use Rattle.std.specs.List.Sorted.{IsPermutation}
use Rattle.roster.proofs.CommandLemmas.{sorted_by_place}
use Rattle.roster.proofs.commands.in_order.Goals as goal

pub returns : goal.returns
returns c =
    let same : c.into_vec-ordered.result.items ≡ c.args.cmnds.now = c.into_vec-ordered.ensures ∙ c.in_ok-copy_cmnds.ensures in
    rw c.new.ensures (record {
      same = subst (λ cs. IsPermutation cs c.sort_unstable_by.new.self.items) same c.sort_unstable_by.ensures.permutation;
      rising = sorted_by_place c.sort_unstable_by.new.self.items c.sort_unstable_by.ensures.sorted (λ a r q k. search rules);
    })

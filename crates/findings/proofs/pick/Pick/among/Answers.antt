use Rattle.std.proofs.Common.{Bool, ◌||◌, sym, ap, ◌∙◌, rules}
use Rattle.std.proofs.lemmas.Fn.{filter_same}
use Rattle.findings.specs.Picks.{asks_about, is_told}
use Rattle.findings.proofs.ListLemmas.{filter_alike, filter_whole}
use Rattle.findings.proofs.pick.Pick.among.Goals as goal

pub returns-then-is_whole-clause-told : goal.returns-then-is_whole-clause-told
returns-then-is_whole-clause-told c =
    let pick = c.args.self.now in
    sym (filter_whole (is_told pick) c.args.entries.items (λ e. ap (λ (b : Bool). b || asks_about pick e) (sym c.is_whole.ensures ∙ c.if-is_whole.true)))

pub returns-clause-told : goal.returns-clause-told
returns-clause-told c =
    let pick = c.args.self.now in
    filter_same _ (asks_about pick) _ (λ x b f' h. search rules) _ _ c.retain.ensures.filtered
    ∙ filter_alike (asks_about pick) (is_told pick) c.args.entries.items
    (λ e. sym (ap (λ (b : Bool). b || asks_about pick e) (sym c.is_whole.ensures ∙ c.if-is_whole.false)))

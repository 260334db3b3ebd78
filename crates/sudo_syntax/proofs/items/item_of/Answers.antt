use Rattle.std.proofs.Common.{◌≡◌, ◌∙◌, sym, rules}
use Rattle.std.specs.Prelude.{codes}
use Rattle.sudo_syntax.proofs.NameLemmas.{item_all}
use Rattle.sudo_syntax.proofs.items.item_of.Goals as goal

pub returns-then-eq-clause-only : goal.returns-then-eq-clause-only
returns-then-eq-clause-only g c = λ i is e.
    let same : c.args.text.now ≡ codes "ALL" = search rules in
    item_all g.F.Form.has g.met.F.NameForm.low i is (sym same ∙ e)

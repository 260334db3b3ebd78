use Rattle.std.proofs.Common.{◌∙◌, ◌++◌, [], ◌∷◌, List, take, ap, sym, append_assoc}
use Rattle.std.proofs.lemmas.Result.{err_from_is_err_and}
use Rattle.messages.specs.Fields.{VerdictFields}
use Rattle.store_opening.specs.private.Showing.{ShowsParked}
use Rattle.store_opening.proofs.ShowingLemmas.{all_taken, shown_at}
use Rattle.store_opening.proofs.shown_set.push_parked.Goals as goal

pub returns-in_err-shown : goal.returns-in_err-shown
returns-in_err-shown c = λ shown are.
    let it = shown_at ShowsParked c.args.rows.now shown c.loop-row.row-index c.row-item.result are c.loop-row-test.true c.row-item.is in
    let no = c.in_err-shown.ensures it.0 it.1 in
    let p = err_from_is_err_and c.from_residual.result c.from_residual.ensures.1 in
    rw (p.1, p.2) no

pub loop-row-preserved : goal.loop-row-preserved
loop-row-preserved c = λ shown are.
    let i = c.loop-row.row-index in
    let old = c.args.verdicts.now.items in
    let it = shown_at ShowsParked c.args.rows.now shown i c.row-item.result are c.loop-row-test.true c.row-item.is in
    c.in_ok-push.ensures.items ∙ ap (λ (l : List VerdictFields). l ++ c.in_ok-shown.shown ∷ []) (c.loop-row.invariant shown are)
    ∙ append_assoc old (take i shown) (c.in_ok-shown.shown ∷ [])
    ∙ ap (λ (x : VerdictFields). old ++ (take i shown ++ x ∷ [])) (c.in_ok-shown.ensures it.0 it.1) ∙ ap (λ (l : List VerdictFields). old ++ l) (sym it.2)

pub returns : goal.returns
returns c = λ shown are. c.loop-row.invariant shown are ∙ ap (λ (l : List VerdictFields). c.args.verdicts.now.items ++ l)
    (all_taken ShowsParked c.args.rows.now shown c.loop-row.row-index are c.loop-row-test.false)

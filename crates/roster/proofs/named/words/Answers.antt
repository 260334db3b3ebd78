use Rattle.roster.proofs.Loop.{all_kept, kept_more, one_wrong}
use Rattle.sudo_words.proofs.Exits.{is_err}
use Rattle.roster.proofs.named.words.Goals as goal

pub returns-in_err-word : goal.returns-in_err-word
returns-in_err-word g c =
    rw (is_err c.from_residual.result c.from_residual.ensures.1) (λ n. let h = c.in_err-word.ensures n in
    (h.0, one_wrong g.F.Form.has c.args.texts.now c.loop-text.text-index c.text-item.result c.loop-text-test.true c.text-item.is h.1))

pub loop-text-preserved : goal.loop-text-preserved
loop-text-preserved g c =
    kept_more g.F.Form.has c.args.texts.now c.loop-text.text-index c.text-item.result c.in_ok-word.word c.loop-text.words.items c.push.new.self.items
    c.loop-text-test.true c.text-item.is c.in_ok-word.ensures c.in_ok-push.ensures.items c.loop-text.invariant

pub returns : goal.returns
returns g c =
    rw c.new.ensures (all_kept g.F.Form.has c.args.texts.now c.loop-text.text-index c.loop-text.words.items c.loop-text-test.false c.loop-text.invariant)

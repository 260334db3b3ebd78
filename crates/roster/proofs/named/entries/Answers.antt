use Rattle.roster.specs.Rules.{is_named_entry}
use Rattle.roster.proofs.Loop.{all_kept, kept_more, one_wrong}
use Rattle.sudo_words.proofs.Exits.{is_err}
use Rattle.roster.proofs.named.entries.Goals as goal

pub returns-in_err-entry : goal.returns-in_err-entry
returns-in_err-entry c =
    rw (is_err c.from_residual.result c.from_residual.ensures.1) (λ n. let h = c.in_err-entry.ensures n in
    (h.0, one_wrong is_named_entry c.args.texts.now c.loop-text.text-index c.text-item.result c.loop-text-test.true c.text-item.is h.1))

pub loop-text-preserved : goal.loop-text-preserved
loop-text-preserved c =
    kept_more is_named_entry c.args.texts.now c.loop-text.text-index c.text-item.result c.in_ok-entry.entry c.loop-text.entries.items c.push.new.self.items
    c.loop-text-test.true c.text-item.is c.in_ok-entry.ensures c.in_ok-push.ensures.items c.loop-text.invariant

pub returns : goal.returns
returns c =
    rw c.new.ensures (all_kept is_named_entry c.args.texts.now c.loop-text.text-index c.loop-text.entries.items c.loop-text-test.false c.loop-text.invariant)

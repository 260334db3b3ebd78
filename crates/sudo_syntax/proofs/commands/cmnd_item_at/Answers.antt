use Rattle.sudo_syntax.specs.private.Tokens.{toks}
use Rattle.sudo_syntax.proofs.CmndLemmas.{alias_is}
use Rattle.sudo_syntax.proofs.commands.cmnd_item_at.Goals as goal

pub returns-then-test-clause-only : goal.returns-then-test-clause-only
returns-then-test-clause-only c = λ i r is f e t.
    let w = c.in_ok-word_of.ensures.found in
    rw w.0 (alias_is i c.args.head.now (toks c.args.tokens.now) r w.1 is e t)

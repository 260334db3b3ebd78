use Rattle.sudo_syntax.specs.private.Tokens.{toks}
use Rattle.sudo_syntax.proofs.CmndLemmas.{empty_is, listed_args, ends_no_arg}
use Rattle.sudo_syntax.proofs.commands.rule_at.Goals as goal

pub returns-in-Some-clause-only : goal.returns-in-Some-clause-only
returns-in-Some-clause-only c = λ rule r is f h.
    empty_is rule (toks c.args.tokens.now) (toks c.in-Some.rest.now) r is f c.in-Some.ensures.found h

pub returns-in-None-clause-only : goal.returns-in-None-clause-only
returns-in-None-clause-only c = λ rule r is f h.
    let l = listed_args rule (toks c.args.tokens.now) r is c.in-None.ensures.found h in
    rw (← l.rule_is) (c.listed_at.ensures.only l.args r l.each l.few (ends_no_arg r f) l.toks)

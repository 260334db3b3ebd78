use Rattle.std.proofs.Common.{[], ◌∷◌}
use Rattle.std.proofs.lemmas.List.{map-append}
use Rattle.sudo_syntax.specs.private.Tokens.{tok, toks}
use Rattle.sudo_syntax.proofs.TokenLemmas.{leads_more, leads_only}
use Rattle.sudo_syntax.proofs.token.tokens.Goals as goal

pub loop-out-preserved : goal.loop-out-preserved
loop-out-preserved c =
    rw (c.in_ok-push.ensures.items, map-append tok c.loop-out.out.items (c.in-Some.token ∷ [])) (leads_more c.args.line.now (toks c.loop-out.out.items)
    c.loop-out.rest.now (tok c.in-Some.token) c.in-Some.after.now c.loop-out.invariant (rw c.in-Some.is at c.in_ok-token.ensures.first))

pub returns-clause-only : goal.returns-clause-only
returns-clause-only c =
    leads_only c.args.line.now (toks c.loop-out.out.items) c.loop-out.rest.now c.loop-out.invariant (rw c.in_default.is at c.in_ok-token.ensures.first)

use Rattle.std.proofs.Common.{arith}
use Rattle.sudo_policy.specs.Tags.{with_tag}
use Rattle.sudo_syntax.specs.private.Tokens.{toks}
use Rattle.sudo_syntax.specs.private.Fronts.{Tagged}
use Rattle.sudo_syntax.proofs.Leads.{leads_on}
use Rattle.sudo_syntax.proofs.TagLemmas.{Ends, Left, tag_read, tags_end}
use Rattle.sudo_syntax.proofs.spec.tags_at.Goals as goal

pub loop-tag-preserved : goal.loop-tag-preserved
loop-tag-preserved c =
    let d = c.in-Some.ensures.found in
    let said = c.loop-tag.read.0 in
    let next = tag_read said (toks c.loop-tag.read.1.now) d.0 d.1 c.in-Some.tag (toks c.in-Some.after.now) d.2 in
    record {
      leads = rw c.with.ensures (leads_on Ends (Tagged (toks c.args.tokens.now)) (Left said (toks c.loop-tag.read.1.now))
          (Left (with_tag said c.in-Some.tag) (toks c.in-Some.after.now)) c.loop-tag.invariant.leads next);
      shorter = omega (arith, c.loop-tag.invariant.shorter, c.in-Some.ensures.shorter);
    }

pub returns-clause-only : goal.returns-clause-only
returns-clause-only c = λ v r f h.
    tags_end c.loop-tag.read.0 (toks c.loop-tag.read.1.now) c.in_default.ensures.found v r (c.loop-tag.invariant.leads.on v r f h)

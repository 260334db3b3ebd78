use Rattle.std.proofs.Common.{arith}
use Rattle.std.proofs.lemmas.Result.{err_from_is_err_and}
use Rattle.sudo_syntax.specs.private.Tokens.{mark_byte, toks}
use Rattle.sudo_policy.specs.Grammar.{Listed}
use Rattle.sudo_syntax.proofs.ListLemmas.{first_of_list, first_read, next_of_list, next_read, list_ends, list_is}
use Rattle.sudo_syntax.proofs.items.list_at.Goals as goal

pub returns-in_err-first-clause-only : goal.returns-in_err-first-clause-only
returns-in_err-first-clause-only g c = λ xs r f n h.
    let y = first_of_list (mark_byte c.args.mark) g.T.Spelled.spells g.T.Spelled.follows c.requires (toks c.args.tokens.now) xs r f h in
    let p = err_from_is_err_and c.from_residual-in_err-first.result c.from_residual-in_err-first.ensures.1 in
    rw (p.1, p.2) (c.in_err-first.ensures.only y.0 y.1 y.2 y.3)

pub loop-others-init : goal.loop-others-init
loop-others-init g c = record {
  leads = rw (c.in_ok-push.ensures.items, c.in_ok-items.ensures.items) (first_read (mark_byte c.args.mark) g.T.Spelled.spells g.T.Spelled.follows c.requires
      (toks c.args.tokens.now) c.in_ok-first.first (toks c.in_ok-first.rest.now) c.in_ok-first.ensures.found c.in_ok-first.ensures.only);
  shorter = c.in_ok-first.ensures.shorter;
}

pub returns-in_err-item-clause-only : goal.returns-in_err-item-clause-only
returns-in_err-item-clause-only g c = λ xs r f n h.
    let m = c.in-Some.ensures.found in
    let left = c.loop-others.invariant.leads.on xs r (f, n) h in
    let y = next_of_list (mark_byte c.args.mark) g.T.Spelled.spells g.T.Spelled.follows c.requires c.loop-others.items.items
    (toks c.loop-others.rest.now) m.0 (toks c.in-Some.others.now) m.1 xs r (f, n) left in
    let p = err_from_is_err_and c.from_residual-in_err-item.result c.from_residual-in_err-item.ensures.1 in
    rw (p.1, p.2) (c.in_err-item.ensures.only y.item y.mid y.follows y.is)

pub loop-others-preserved : goal.loop-others-preserved
loop-others-preserved g c =
    let m = c.in-Some.ensures.found in record {
      leads =
          rw c.in_ok-push-2.ensures.items (next_read (mark_byte c.args.mark) g.T.Spelled.spells g.T.Spelled.follows c.requires (Listed (mark_byte c.args.mark)
          g.T.Spelled.spells (toks c.args.tokens.now)) c.loop-others.items.items (toks c.loop-others.rest.now) m.0 (toks c.in-Some.others.now) c.in_ok-item.item
          (toks c.in_ok-item.after.now) c.loop-others.invariant.leads m.1 c.in_ok-item.ensures.found c.in_ok-item.ensures.only);
      shorter = omega (arith, c.loop-others.invariant.shorter, c.in-Some.ensures.shorter, c.in_ok-item.ensures.shorter);
    }

pub returns-clause-found : goal.returns-clause-found
returns-clause-found g c =
    rw c.new.ensures (list_ends (mark_byte c.args.mark) g.T.Spelled.spells g.T.Spelled.follows (Listed (mark_byte c.args.mark) g.T.Spelled.spells
    (toks c.args.tokens.now)) c.loop-others.items.items (toks c.loop-others.rest.now) c.loop-others.invariant.leads)

pub returns-clause-only : goal.returns-clause-only
returns-clause-only g c = λ xs r f n h.
    let left = c.loop-others.invariant.leads.on xs r (f, n) h in
    rw c.new.ensures (list_is (mark_byte c.args.mark) g.T.Spelled.spells c.loop-others.items.items
    (toks c.loop-others.rest.now) c.in_default.ensures.found xs r left.0 left.1 left.2)

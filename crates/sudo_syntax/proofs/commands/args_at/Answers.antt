use Rattle.std.proofs.Common.{[], ◌∷◌, ◌++◌, ap, length, arith}
use Rattle.std.proofs.lemmas.List.{length-append}
use Rattle.std.proofs.lemmas.Result.{err_from_is_err_and}
use Rattle.sudo_syntax.specs.private.Tokens.{toks}
use Rattle.sudo_syntax.proofs.Leads.{leads_on}
use Rattle.sudo_syntax.proofs.ArgLemmas.{Fit, Whole, Left, next_arg, arg_read, args_end}
use Rattle.sudo_syntax.proofs.commands.args_at.Goals as goal

pub returns-in_err-push_arg-clause-only : goal.returns-in_err-push_arg-clause-only
returns-in_err-push_arg-clause-only c = λ args r each few stops h.
    let fit : Fit args r = record { each = each; few = few; stops = stops } in
    let n = next_arg c.loop-text.args.items (toks c.loop-text.read.1.now) c.in-Some.text.now
    (toks c.in-Some.after.now) c.in-Some.ensures.found args r fit (c.loop-text.invariant.leads.on args r fit h) in
    let p = err_from_is_err_and c.from_residual.result c.from_residual.ensures.1 in
    rw (p.1, p.2) (c.in_err-push_arg.ensures.only n.arg n.is n.text_is)

pub loop-text-preserved : goal.loop-text-preserved
loop-text-preserved c =
    let out = c.loop-text.args.items in
    let ts = toks c.loop-text.read.1.now in
    let next = toks c.in-Some.after.now in
    let pushed = c.in_ok-push_arg.ensures.found in
    let more = arg_read out ts c.in-Some.text.now next pushed.0 c.in-Some.ensures.found pushed.2 pushed.3 in
    record {
      leads = rw pushed.1 (leads_on Fit (Whole (toks c.args.tokens.now)) (Left out ts) (Left (out ++ pushed.0 ∷ []) next) c.loop-text.invariant.leads more);
      count = omega (arith, c.loop-text.invariant.count, ap length pushed.1, length-append out (pushed.0 ∷ []));
      few = omega (arith, c.loop-text.invariant.few, c.if-read-eq-MOST_ARGS.false);
      shorter = omega (arith, c.loop-text.invariant.shorter, c.in-Some.ensures.shorter);
    }

pub returns-clause-only : goal.returns-clause-only
returns-clause-only c = λ args r each few stops h.
    let fit : Fit args r = record { each = each; few = few; stops = stops } in
    rw c.new.ensures
    (args_end c.loop-text.args.items (toks c.loop-text.read.1.now) c.in_default.ensures.found args r (c.loop-text.invariant.leads.on args r fit h))

use Rattle.std.proofs.Common.{◌≡◌, ◌∙◌, true, None, sym, arith}
use Rattle.std.proofs.lemmas.Bool.{false≢true}
use Rattle.sudo_syntax.specs.private.Tokens.{toks}
use Rattle.sudo_policy.specs.Grammar.{begins_spaced}
use Rattle.sudo_syntax.proofs.Leads.{leads_on}
use Rattle.sudo_syntax.proofs.DateLemmas.{Ends, Left, next_date, date_read, dates_end, dates_done}
use Rattle.sudo_syntax.proofs.spec.bounds_at.Goals as goal

pub returns-then-not-begins_spaced-clause-only : goal.returns-then-not-begins_spaced-clause-only
returns-then-not-begins_spaced-clause-only c = λ before after r f h.
    let d = c.in-Some.ensures.found in
    let b = c.loop-option.read.0 in
    let left = c.loop-option.invariant.leads.on (before, after) r f h in
    let n = next_date b.not_before b.not_after (toks c.loop-option.read.1.now) d.0 c.in-Some.option.now c.in-Some.time.now
    (toks c.in-Some.after.now) d.1 (before, after) r f left in
    false≢true (sym c.if-not-begins_spaced.true ∙ c.begins_spaced.ensures ∙ n.gap)

pub returns-in_err-with_bound-clause-only : goal.returns-in_err-with_bound-clause-only
returns-in_err-with_bound-clause-only c = λ before after r f h.
    let d = c.in-Some.ensures.found in
    let b = c.loop-option.read.0 in
    let left = c.loop-option.invariant.leads.on (before, after) r f h in
    let n = next_date b.not_before b.not_after (toks c.loop-option.read.1.now) d.0 c.in-Some.option.now c.in-Some.time.now
    (toks c.in-Some.after.now) d.1 (before, after) r f left in
    absurd (c.in_err-with_bound.ensures.only n.new_before n.new_after n.adds)

pub loop-option-preserved : goal.loop-option-preserved
loop-option-preserved c =
    let d = c.in-Some.ensures.found in
    let b = c.loop-option.read.0 in
    let w = c.in_ok-with_bound.field-0 in
    let gap : begins_spaced (toks c.in-Some.after.now) ≡ true = sym c.begins_spaced.ensures ∙ c.if-not-begins_spaced.false in
    let next = date_read b.not_before b.not_after (toks c.loop-option.read.1.now) d.0 c.in-Some.option.now c.in-Some.time.now
    (toks c.in-Some.after.now) w.not_before w.not_after d.1 gap c.in_ok-with_bound.ensures.found c.in_ok-with_bound.ensures.only in
    record {
      leads = leads_on Ends (Left None None (toks c.args.tokens.now)) (Left b.not_before b.not_after (toks c.loop-option.read.1.now))
          (Left w.not_before w.not_after (toks c.in-Some.after.now)) c.loop-option.invariant.leads next;
      shorter = omega (arith, c.loop-option.invariant.shorter, c.in-Some.ensures.shorter);
    }

pub returns-clause-found : goal.returns-clause-found
returns-clause-found c =
    let b = c.loop-option.read.0 in
    c.loop-option.invariant.leads.back (b.not_before, b.not_after) (toks c.loop-option.read.1.now)
    (dates_done b.not_before b.not_after (toks c.loop-option.read.1.now))

pub returns-clause-only : goal.returns-clause-only
returns-clause-only c = λ before after r f h.
    let b = c.loop-option.read.0 in
    dates_end b.not_before b.not_after (toks c.loop-option.read.1.now) c.in_default.ensures.found
    (before, after) r (c.loop-option.invariant.leads.on (before, after) r f h)

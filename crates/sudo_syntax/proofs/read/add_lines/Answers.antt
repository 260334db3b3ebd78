use Rattle.std.proofs.Common.{◌≡◌, ◌+◌, ◌<◌, ◌≤◌, [], ap, eqb, length, drop, rules, arith}
use Rattle.std.proofs.lemmas.Grind.{common_steps}
use Rattle.std.proofs.lemmas.List.{nil_from_length, length_push, drop_all}
use Rattle.std.proofs.lemmas.Iterator.Consumers.{YieldsList-at, YieldsList-turn, YieldsList-end}
use Rattle.std.proofs.lemmas.Iterator.Splits.{YieldsList-from_slice_split}
use Rattle.sudo_words.specs.Bytes.{newline}
use Rattle.sudo_policy.specs.Lines.{lines_of}
use Rattle.sudo_policy.specs.declared.fault.FaultKind.TheVariants.{Line}
use Rattle.sudo_policy.specs.declared.fault.LineFault.TheVariants.{NoMemory}
use Rattle.sudo_syntax.proofs.LineLemmas.{at_line, line_in, leads_more, leads_end, leads_nowhere, leads_stuck}
use Rattle.sudo_syntax.proofs.read.add_lines.Goals as goal

pub returns-in-Err-clause-only : goal.returns-in-Err-clause-only
returns-in-Err-clause-only c = λ es h policy.
    let all = lines_of c.args.text.now in
    let at =
    rw (← c.loop-line.invariant.place) at (YieldsList-turn (YieldsList-at c.into_iter-line-iterator.ensures.into_iter_gives (YieldsList-from_slice_split _
    (λ b. eqb b newline) c.args.text.now c.split-line-items.ensures.rest c.split-line-items.ensures.done c.split-line-items.ensures.closure
    (λ x b q k. search rules))) c.loop-line.yielded _ c.loop-line.yielded_by _ _ c.in-Some.line c.in-Some.is c.next.ensures.steps) in
    let here = at_line all c.loop-line.here c.in-Some.line.now at in
    ap Line (leads_stuck all c.loop-line.draft.entries.items c.loop-line.pending.items _ (c.in-Err.fault ≡ NoMemory)
    (rw here at c.loop-line.invariant.leads) (c.in-Err.ensures.only (drop (c.loop-line.here + 1) all)) es h policy)

pub returns-in-Err-clause-line : goal.returns-in-Err-clause-line
returns-in-Err-clause-line c =
    let at =
    rw (← c.loop-line.invariant.place) at (YieldsList-turn (YieldsList-at c.into_iter-line-iterator.ensures.into_iter_gives (YieldsList-from_slice_split _
    (λ b. eqb b newline) c.args.text.now c.split-line-items.ensures.rest c.split-line-items.ensures.done c.split-line-items.ensures.closure
    (λ x b q k. search rules))) c.loop-line.yielded _ c.loop-line.yielded_by _ _ c.in-Some.line c.in-Some.is c.next.ensures.steps) in
    let within = at.0 in
    let some : 1 ≤ c.fault_line.result = first_of (search rules, grind (arith, common_steps)) in
    line_in c.args.text.now c.fault_line.result some (first_of (search rules, grind (arith, common_steps)))

pub loop-line-preserved : goal.loop-line-preserved
loop-line-preserved c =
    let all = lines_of c.args.text.now in
    let at =
    rw (← c.loop-line.invariant.place) at (YieldsList-turn (YieldsList-at c.into_iter-line-iterator.ensures.into_iter_gives (YieldsList-from_slice_split _
    (λ b. eqb b newline) c.args.text.now c.split-line-items.ensures.rest c.split-line-items.ensures.done c.split-line-items.ensures.closure
    (λ x b q k. search rules))) c.loop-line.yielded _ c.loop-line.yielded_by _ _ c.in-Some.line c.in-Some.is c.next.ensures.steps) in
    let here = at_line all c.loop-line.here c.in-Some.line.now at in
    let rest = drop (c.loop-line.here + 1) all in
    let o = c.in_default.ensures.found in
    record {
      draft = o.1.draft;
      place = let place = c.loop-line.invariant.place in omega (arith, length_push c.loop-line.yielded c.in-Some.line);
      leads = rw o.1.entries (leads_more [] all c.loop-line.draft.entries.items c.loop-line.pending.items _ o.0 c.add_piece.new.pending.items rest
          (rw here at c.loop-line.invariant.leads) (o.2 rest));
      begun = first_of (search rules, grind (arith, common_steps));
      within = first_of (search rules, grind (arith, common_steps));
    }

pub returns-then-not-is_empty-clause-only : goal.returns-then-not-is_empty-clause-only
returns-then-not-is_empty-clause-only c = λ es h policy.
    let all = lines_of c.args.text.now in
    let read = (YieldsList-end (YieldsList-at c.into_iter-line-iterator.ensures.into_iter_gives (YieldsList-from_slice_split _ (λ b. eqb b newline)
    c.args.text.now c.split-line-items.ensures.rest c.split-line-items.ensures.done c.split-line-items.ensures.closure (λ x b q k. search rules)))
    c.loop-line.yielded _ c.loop-line.yielded_by _ _ c.in-None.is c.next.ensures.steps).1 in
    let place = c.loop-line.invariant.place in
    let none = drop_all c.loop-line.here all (omega arith) in
    let some : 0 < length c.loop-line.pending.items = first_of (search rules, grind (arith, common_steps)) in
    absurd (leads_nowhere all c.loop-line.draft.entries.items c.loop-line.pending.items (rw none at c.loop-line.invariant.leads) some es h)

pub returns-then-not-is_empty-clause-line : goal.returns-then-not-is_empty-clause-line
returns-then-not-is_empty-clause-line c =
    let read = (YieldsList-end (YieldsList-at c.into_iter-line-iterator.ensures.into_iter_gives (YieldsList-from_slice_split _ (λ b. eqb b newline)
    c.args.text.now c.split-line-items.ensures.rest c.split-line-items.ensures.done c.split-line-items.ensures.closure (λ x b q k. search rules)))
    c.loop-line.yielded _ c.loop-line.yielded_by _ _ c.in-None.is c.next.ensures.steps).1 in
    let place = c.loop-line.invariant.place in
    let some : 1 ≤ c.loop-line.here = first_of (search rules, grind (arith, common_steps)) in
    line_in c.args.text.now c.loop-line.here some (omega arith)

pub returns-clause-found : goal.returns-clause-found
returns-clause-found c =
    let all = lines_of c.args.text.now in
    let read = (YieldsList-end (YieldsList-at c.into_iter-line-iterator.ensures.into_iter_gives (YieldsList-from_slice_split _ (λ b. eqb b newline)
    c.args.text.now c.split-line-items.ensures.rest c.split-line-items.ensures.done c.split-line-items.ensures.closure (λ x b q k. search rules)))
    c.loop-line.yielded _ c.loop-line.yielded_by _ _ c.in-None.is c.next.ensures.steps).1 in
    let place = c.loop-line.invariant.place in
    let none = drop_all c.loop-line.here all (omega arith) in
    let empty = nil_from_length c.loop-line.pending.items (search rules) in
    (c.loop-line.invariant.draft, (leads_end all c.loop-line.draft.entries.items (rw (none, empty) at c.loop-line.invariant.leads)).0)

pub returns-clause-only : goal.returns-clause-only
returns-clause-only c = λ es h policy.
    let all = lines_of c.args.text.now in
    let read = (YieldsList-end (YieldsList-at c.into_iter-line-iterator.ensures.into_iter_gives (YieldsList-from_slice_split _ (λ b. eqb b newline)
    c.args.text.now c.split-line-items.ensures.rest c.split-line-items.ensures.done c.split-line-items.ensures.closure (λ x b q k. search rules)))
    c.loop-line.yielded _ c.loop-line.yielded_by _ _ c.in-None.is c.next.ensures.steps).1 in
    let place = c.loop-line.invariant.place in
    let none = drop_all c.loop-line.here all (omega arith) in
    let empty = nil_from_length c.loop-line.pending.items (search rules) in
    (leads_end all c.loop-line.draft.entries.items (rw (none, empty) at c.loop-line.invariant.leads)).1 es h

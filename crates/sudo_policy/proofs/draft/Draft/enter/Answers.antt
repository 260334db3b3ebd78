use Rattle.std.proofs.Common.{◌≡◌, length, refl, arith, rules}
use Rattle.std.proofs.lemmas.Result.{err_from_is_err_and}
use Rattle.sudo_policy.specs.declared.fault.LineFault.TheVariants as fault
use Rattle.sudo_policy.specs.private.Lengths.{stopped}
use Rattle.sudo_policy.specs.Printing.{line_text}
use Rattle.sudo_policy.proofs.PolicyFronts.{next_placed}
use Rattle.sudo_policy.proofs.Growing.{whole_push, limits_hold}
use Rattle.sudo_policy.proofs.draft.Draft.enter.Goals as goal
use Rattle.sudo_policy.proofs.draft.Draft.enter.Goals.{then-place-ge-MOST_ENTRIES-via-then-place-ge-MOST_ENTRIES}
use Rattle.sudo_policy.proofs.draft.Draft.enter.Goals.{then-place-ge-MOST_ENTRIES-via-else-place-ge-MOST_ENTRIES+then-more-self}
use Rattle.sudo_policy.proofs.draft.Draft.enter.Goals.{then-place-ge-MOST_ENTRIES-via-else-place-ge-MOST_ENTRIES+else-more-self+then-len-self}

pub returns-in_err-more-clause-only : goal.returns-in_err-more-clause-only
returns-in_err-more-clause-only c = λ one.
    let d = c.args.self.now in
    let p = err_from_is_err_and c.from_residual.result c.from_residual.ensures.1 in
    let memory : c.in_err-more.field-0.0 ≡ fault.NoMemory =
    c.in_err-more.ensures.only d.entries.items c.requires.draft.scope (next_placed d.entries.items c.args.entry.now one.placed) in
    rw (p.1, p.2) memory

pub returns-then-place-ge-MOST_ENTRIES-clause-only : goal.returns-then-place-ge-MOST_ENTRIES-clause-only
returns-then-place-ge-MOST_ENTRIES-clause-only c = λ one.
    let d = c.args.self.now in
    let place : c.len-place.result ≡ length d.entries.items = search rules in
    let entered = c.in_ok-more.ensures.found d.entries.items c.requires.draft.scope place in
    let limits = limits_hold d.entries.items c.args.entry.now d.scope c.enter.new.self d.weight c.in_ok-more.more d.text_len
    (length (line_text c.args.entry.now)) c.requires.draft entered refl one in
    let stops : c.line_len-len.result ≡ stopped (length (line_text c.args.entry.now)) = c.line_len-len.ensures in
    absurd (elim c.then-place-ge-MOST_ENTRIES.branch [
      | then-place-ge-MOST_ENTRIES-via-then-place-ge-MOST_ENTRIES w ↦ omega arith
      | then-place-ge-MOST_ENTRIES-via-else-place-ge-MOST_ENTRIES+then-more-self w ↦ omega arith
      | then-place-ge-MOST_ENTRIES-via-else-place-ge-MOST_ENTRIES+else-more-self+then-len-self w ↦ omega arith
    ])

pub returns-clause-found : goal.returns-clause-found
returns-clause-found c =
    let d = c.args.self.now in
    let place : c.len-place.result ≡ length d.entries.items = search rules in
    let entered = c.in_ok-more.ensures.found d.entries.items c.requires.draft.scope place in
    let stops : c.line_len-len.result ≡ stopped (length (line_text c.args.entry.now)) = c.line_len-len.ensures in
    let len : c.line_len-len.result ≡ length (line_text c.args.entry.now) = omega (arith, stops) in
    whole_push d.entries.items c.args.entry.now d.scope c.enter.new.self d.weight c.in_ok-more.more d.text_len
    c.line_len-len.result c.requires.draft c.requires.entry entered len (omega arith) (omega arith) (omega arith)

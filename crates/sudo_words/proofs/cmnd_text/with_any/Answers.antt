use Rattle.std.proofs.Common.{◌∙◌, List, ℕ, ap, sym}
use Rattle.sudo_words.specs.declared.cmnd.Cmnd.TheVariants.{Dir}
use Rattle.sudo_words.proofs.ReadingLemmas.{dir_only, no_memory}
use Rattle.sudo_words.proofs.cmnd_text.with_any.Goals as goal

pub returns-in_err-read-clause-only : goal.returns-in_err-read-clause-only
returns-in_err-read-clause-only c = λ d h e any.
    let slash = rw c.as_bytes.ensures.value at (sym c.ends_in_slash.ensures ∙ c.if-ends_in_slash.true) in
    no_memory c.from_residual.result c.in_err-read.field-0.0 _ c.from_residual.ensures.1 (c.in_err-read.ensures.only (dir_only c.args.head.now d h slash e).0)

pub returns-then-ends_in_slash-clause-only : goal.returns-then-ends_in_slash-clause-only
returns-then-ends_in_slash-clause-only c = λ d h e any.
    let slash = rw c.as_bytes.ensures.value at (sym c.ends_in_slash.ensures ∙ c.if-ends_in_slash.true) in
    ap (λ (w : List ℕ). Dir w) c.in_ok-read.ensures.found.0 ∙ (dir_only c.args.head.now d h slash e).1

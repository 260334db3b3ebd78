use Rattle.std.proofs.Common.{List, reverse, sym, subst}
use Rattle.std.specs.List.{AllByRecursion}
use Rattle.sudo_policy.specs.declared.entry.Entry.{Entry}
use Rattle.sudo_decide.specs.Decision.{DecidesBy}
use Rattle.sudo_compiled.specs.Compiled.{answer}
use Rattle.sudo_compiled.specs.private.Writing.{CoversEntry}
use Rattle.sudo_compiled.proofs.compiled.compile_owned.Goals as goal

pub returns : goal.returns
returns c = λ i.
    let P : Entry → Type 0 = CoversEntry (reverse c.args.p) c.in_ok-known.known in
    let whole : AllByRecursion P c.args.p = subst (λ (es : List Entry). AllByRecursion (CoversEntry (reverse es) c.in_ok-known.known) es)
    c.entries.ensures.value c.in_ok-known.ensures in
    let each = subst (AllByRecursion P) (sym c.into_entries.ensures.value) whole in
    subst (λ (es : List Entry). DecidesBy (reverse c.args.p) es i (answer c.in_ok-rules.rules.items i)) c.into_entries.ensures.value
    (c.in_ok-rules.ensures (reverse c.args.p) i each)

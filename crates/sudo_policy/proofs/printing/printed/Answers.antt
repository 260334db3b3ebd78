use Rattle.std.proofs.Common.{◌++◌, ◌∙◌, List, ℕ, ap, take, subst, sym}
use Rattle.sudo_policy.specs.declared.entry.Entry.{Entry}
use Rattle.sudo_policy.specs.Policy.{IsEntry}
use Rattle.sudo_policy.specs.Printing.{canon, line_text}
use Rattle.sudo_policy.proofs.PolicyFronts.{canon_more}
use Rattle.sudo_policy.proofs.Printed.{each_at}
use Rattle.sudo_policy.proofs.printing.printed.Goals as goal

pub push_line-requires : goal.push_line-requires
push_line-requires c =
    subst IsEntry (sym c.entry-item.is) (each_at IsEntry c.args.entries.now c.loop-entry.entry-index c.entry-item.result c.requires c.loop-entry-test.true)

pub loop-entry-preserved : goal.loop-entry-preserved
loop-entry-preserved c =
    let es = c.args.entries.now in
    let i = c.loop-entry.entry-index in
    c.in_ok-push_line.ensures
    ∙ ap (λ (t : List ℕ). t ++ line_text c.entry-item.result) c.loop-entry.invariant
    ∙ ap (λ (e : Entry). canon (take i es) ++ line_text e) c.entry-item.is
    ∙ canon_more es i c.entry-item.result c.loop-entry-test.true

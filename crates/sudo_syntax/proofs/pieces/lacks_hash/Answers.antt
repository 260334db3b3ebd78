use Rattle.std.proofs.Common.{◌∙◌, ◌&&◌, sym, ap₂, refl}
use Rattle.std.proofs.lemmas.List.Folds.{list_all_more}
use Rattle.sudo_policy.specs.Lines.{is_no_hash}
use Rattle.sudo_syntax.proofs.pieces.lacks_hash.Goals as goal

pub loop-byte-preserved : goal.loop-byte-preserved
loop-byte-preserved c =
    ap₂ (λ a b. a && b) c.loop-byte.invariant refl
    ∙ sym (list_all_more is_no_hash c.args.line.now _ 0 c.loop-byte-test.true)

use Rattle.std.proofs.Common.{◌∙◌, ◌&&◌, sym, ap₂}
use Rattle.std.proofs.lemmas.List.Folds.{list_all_more}
use Rattle.sudo_policy.specs.Lex.{is_text_byte}
use Rattle.sudo_syntax.proofs.token.is_text.Goals as goal

pub loop-byte-preserved : goal.loop-byte-preserved
loop-byte-preserved c =
    ap₂ (λ a b. a && b) c.loop-byte.invariant c.is_text_byte-each.ensures
    ∙ sym (list_all_more is_text_byte c.args.bytes.now _ 0 c.loop-byte-test.true)

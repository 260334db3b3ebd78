use Rattle.std.proofs.Common.{◌≡◌, ℕ, ◌==◌, ◌<◌, Bool, true, false, map, cond, get_or, refl, ap, ◌∙◌, arith}
use Rattle.std.proofs.lemmas.List.FromFn.{get_or-map-range_with_len}
use Rattle.std.specs.List.{range_with_len}
use Rattle.sudo_policy.specs.Lex.{is_word_byte}
use Rattle.sudo_syntax.specs.declared.token.TheConstants.{WORD_BYTES}
use Rattle.sudo_syntax.proofs.token.is_word_byte.Goals as goal

abbrev mark : ℕ → ℕ
mark b = cond (is_word_byte b) 1 0

-- the table has the mark of each byte
table_is : WORD_BYTES ≡ map mark (range_with_len 0 256)
table_is = refl

marked : (t : Bool) → (cond t 1 0 == 1) ≡ t
marked true = refl
marked false = refl

at_byte : (b : ℕ) → b < 256 → (get_or WORD_BYTES b 0 == 1) ≡ is_word_byte b
at_byte b h =
    ap (λ (n : ℕ). n == 1) (ap (λ t. get_or t b 0) table_is ∙ get_or-map-range_with_len mark 0 256 b b 0 h (omega arith))
    ∙ marked (is_word_byte b)

pub returns : goal.returns
returns c = rw c.from.ensures (at_byte c.args.b (omega arith))

use Rattle.sudo_syntax.proofs.LineLemmas.{no_byte_fault}
use Rattle.sudo_syntax.proofs.read.read_policy.Goals as goal

pub returns-in_err-check_bytes-clause-only : goal.returns-in_err-check_bytes-clause-only
returns-in_err-check_bytes-clause-only c = λ es s. absurd (no_byte_fault c.args.text.now _ _ s.short s.bytes c.in_err-check_bytes.ensures.kind)

use Rattle.std.proofs.Common.{List, ℕ, subst, sym}
use Rattle.std.proofs.lemmas.Result.{IfOk-weaker}
use Rattle.sudo_policy.specs.Spelling.{Spells}
use Rattle.sudo_policy.proofs.Canon.{canon_spells}
use Rattle.sudo_policy.proofs.printing.print_policy.Goals as goal

pub returns-clause-read_back : goal.returns-clause-read_back
returns-clause-read_back c =
    IfOk-weaker c.printed.result _ _ (λ s e. subst (λ (t : List ℕ). Spells t c.args.policy.now)
    (sym (rw c.entries.ensures.value at e)) (canon_spells c.args.policy.now c.entries.ensures.policy)) c.printed.ensures

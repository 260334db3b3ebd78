use Rattle.std.proofs.Common.{Ok, Err}
use Rattle.std.specs.Prelude.{OnOk, IsOk}
use Rattle.std.specs.declared.result.Result.{Result}
use Rattle.sudo_policy.proofs.draft.Draft.add.Goals as goal

-- what is known if neither of two steps fails, where the second fails whenever the first does
both_known : {X Y E : Type 0} (P Q R : Type 0) (first : Result X E) (both : Result Y E) → OnOk first P → OnOk both (IsOk first × Q) → (P → Q → R) → OnOk both R
both_known P Q R (Ok x) (Ok y) p q k = k p q.1
both_known P Q R (Err e) (Ok y) p q k = let none = q.0 in cc
both_known P Q R first (Err e) p q k = tt

pub returns-clause-found : goal.returns-clause-found
returns-clause-found c =
    both_known _ _ _ c.enter-entered.result c.push_entered.result c.enter-entered.ensures.found c.push_entered.ensures.found
    (λ whole pushed. let entries = rw c.enter-entered.ensures.entries at pushed in record { draft = rw entries whole; entries = entries })

use Rattle.std.proofs.Common.{true, [], refl, inl, inr, arith}
use Rattle.std.specs.Prelude.{codes}
use Rattle.sudo_words.specs.Word.{is_keyword}
use Rattle.sudo_decide.specs.declared.decision.Decision.TheVariants.{Deny}
use Rattle.sudo_decide.specs.Decision.{Decides}
use Rattle.sudo_beyond.specs.Worked.{all_except_bob, runs_other}
use Rattle.sudo_beyond.proofs.DecisionLemmas.{not_both}
use Rattle.sudo_beyond.proofs.laws.worked_beyond.Goals as goal

pub returns-clause-somebody : goal.returns-clause-somebody
unfolding is_keyword
returns-clause-somebody c = record {
  form = record { user = refl; host = refl; runas = refl; path = refl; args = tt; few_args = omega arith; at = omega arith };
  scope = record { user = tt; host = tt; runas = tt };
  gap = record {
    allowed = inl (inl (record { before = []; rule = _; after = []; answer = true; entries_are = refl; speaks = refl; silent = tt; decision = refl }));
    refused = inr (record { silent = (refl, tt); decision = refl });
  };
}

-- the last item of the first policy's list says no to bob
bob_denied : Decides all_except_bob (runs_other (codes "bob")) Deny
bob_denied = inr (record { silent = (refl, tt); decision = refl })

pub returns-clause-bob : goal.returns-clause-bob
returns-clause-bob c = λ beyond. not_both all_except_bob (runs_other (codes "bob")) beyond.gap.allowed bob_denied

pub returns-clause-standing : goal.returns-clause-standing
returns-clause-standing c = refl

pub returns-clause-next : goal.returns-clause-next
returns-clause-next c = refl

pub returns-clause-last : goal.returns-clause-last
returns-clause-last c = refl

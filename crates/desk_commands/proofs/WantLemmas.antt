-- What the refusals and the answers of a job tell of want.
use Rattle.std.proofs.Common.{◌≡◌, ◌<◌, ℕ, zero, suc, List, [], ◌∷◌, length, slice_index_or, Result, Ok, Err, arith, subst, sym}
use Rattle.std.specs.Prelude.{IsErrAnd}
use Rattle.desk.specs.Delivery.{WasWanting, WasWantingAmong}
use Rattle.desk.specs.declared.ack.Ack.{Ack}
use Rattle.desk.specs.declared.refusal.Refusal.{Refusal}
use Rattle.desk_commands.specs.Taking.{HadMemory}
use Rattle.desk_commands.specs.Wanting.{IsWanting}
use Rattle.desk_commands.specs.declared.answer.Answer.{Answer}
use Rattle.desk_commands.specs.declared.refusal.JobRefusal.{JobRefusal}
use Rattle.desk_commands.specs.private.Outcomes.{ShowsWantIn, WantsIn}
use Rattle.desk_args.specs.declared.task.Job.{Job}
use Rattle.desk_args.specs.declared.task.Job.TheVariants.{Deliver}
use Rattle.desk_args.specs.declared.task.Places.{Places}

-- ---- a refusal that is passed on

-- a refusal that is this reason, which is one of want
pub wanting_as : {A : Type 0} (reason : JobRefusal) (r : Result A JobRefusal) → IsErrAnd r (λ e. e ≡ reason) → IsWanting reason → IsErrAnd r IsWanting
wanting_as reason (Ok x) is want = absurd is
wanting_as reason (Err e) is want = subst IsWanting (sym is) want

-- a refusal that another call answered
pub wanting_still : {A B : Type 0} (reason : JobRefusal) (s : Result B JobRefusal) (r : Result A JobRefusal)
    → s ≡ Err reason → IsErrAnd r (λ e. e ≡ reason) → IsErrAnd s IsWanting → IsErrAnd r IsWanting
wanting_still {B = B} reason s r was is want = wanting_as reason r is (subst (λ (t : Result B JobRefusal). IsErrAnd t IsWanting) was want)

-- what `deliver` comes to
pub shown_refused : (r : Result Answer JobRefusal) → IsErrAnd r IsWanting → ShowsWantIn r
shown_refused (Ok a) want = absurd want
shown_refused (Err e) want = want

-- ---- what a job comes to

pub wants_delivered : (job : Job) (places : Places) (relay : List ℕ) (r : Result Answer JobRefusal) → job ≡ Deliver places relay → ShowsWantIn r → WantsIn job r
wants_delivered job places relay (Ok a) is want = subst (λ j. WantsIn j (Ok a)) (sym is) want
wants_delivered job places relay (Err e) is want = want

pub wants_refused : (job : Job) (r : Result Answer JobRefusal) → IsErrAnd r IsWanting → WantsIn job r
wants_refused job (Ok a) want = absurd want
wants_refused job (Err e) want = want

-- ---- lines at which nothing was wanting

none_at : (answers : List (Result Ack Refusal)) (a : Result Ack Refusal) (k : ℕ)
    → HadMemory answers → k < length answers → slice_index_or answers k a ≡ a → WasWanting a → ⊥
none_at [] a k had lt is want = absurd (omega arith)
none_at (x ∷ xs) a zero had lt is want = had.0 (subst WasWanting (sym is) want)
none_at (x ∷ xs) a (suc k) had lt is want = none_at xs a k had.1 (omega arith) is want

pub none_wanting : (answers : List (Result Ack Refusal)) → HadMemory answers → WasWantingAmong answers → ⊥
none_wanting answers had among = none_at answers among.0 among.1.0 had among.1.1 among.1.2 among.2

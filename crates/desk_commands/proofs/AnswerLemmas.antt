-- What a job comes to, and what is written of the result.
use Rattle.std.proofs.Common.{◌≡◌, ◌≢◌, ◌⊎◌, ℕ, List, [], Option, Result, Ok, Err, IfErr, IfOk, inl, inr, string_bytes, subst, sym}
use Rattle.std.specs.Io.KnownBytes.{Appends}
use Rattle.desk_commands.specs.Answers.{HasCause, IsAnswer, IsCause}
use Rattle.desk_commands.specs.Kept.{AroundJob}
use Rattle.desk_commands.specs.Leaving.{BeganAnswer}
use Rattle.desk_commands.specs.Telling.{AppendsFront}
use Rattle.desk_commands.specs.declared.answer.Answer.{Answer}
use Rattle.desk_commands.specs.declared.refusal.JobRefusal.{JobRefusal}
use Rattle.desk_commands.specs.Wanting.{TellsWant}
use Rattle.desk_commands.specs.private.Outcomes.{IsOutcome, WantsIn}
use Rattle.desk_commands.proofs.OverLemmas.{nothing_said}
use Rattle.desk_args.specs.declared.status.ExitStatus.{ExitStatus}
use Rattle.desk_args.specs.declared.status.ExitStatus.TheVariants.{Refused}
use Rattle.desk_args.specs.declared.task.Job.{Job}

-- what is answered to this job, with nothing said beside it
pub quietly : (r : Result Answer JobRefusal) (job own : Job) (files : List (List ℕ)) (k : AroundJob) (input err : Option (List ℕ)) → job ≡ own
    → IfOk r (λ a. IsAnswer own files k input a.status (string_bytes a.text) []) → IfErr r (IsCause own files k input)
    → IsOutcome job files k input r err err
quietly (Ok a) job own files k input err is found cause =
    subst (λ j. IsOutcome j files k input (Ok a) err err) (sym is) (record { found = ([], found, nothing_said err); cause = tt })
quietly (Err e) job own files k input err is found cause =
    subst (λ j. IsOutcome j files k input (Err e) err err) (sym is) (record { found = tt; cause = cause })

-- what comes of this job
pub of_job : (r : Result Answer JobRefusal) (job own : Job) (files : List (List ℕ)) (k : AroundJob) (input before after : Option (List ℕ)) → job ≡ own
    → IsOutcome own files k input r before after → IsOutcome job files k input r before after
of_job r job own files k input before after is outcome = subst (λ j. IsOutcome j files k input r before after) (sym is) outcome

module _ (job : Job) (files : List (List ℕ)) (k : AroundJob) (input : Option (List ℕ))
    (out_before out_after err_before err_between err_after : Option (List ℕ)) where
  -- what is written of this result, where the job is not refused
  pub concluded : (r : Result Answer JobRefusal) (status : ExitStatus) → IsOutcome job files k input r err_before err_between
      → IfOk r (λ a. status ≢ Refused → (status ≡ a.status) × Appends out_before out_after (string_bytes a.text) × (err_after ≡ err_between))
      → IfErr r (λ _. (status ≡ Refused) × (out_after ≡ out_before)) → (Up Clean Still : Type 0)
      → IfOk r (λ _. Up → Clean → WantsIn job r ⊎ Still)
      → status ≢ Refused → (text : List ℕ) × (said : List ℕ) × IsAnswer job files k input status text said
      × Appends out_before out_after text × Appends err_before err_after said × (Up → Clean → TellsWant job text ⊎ Still)
  concluded (Ok a) status outcome written none Up Clean Still up taken =
      let w = written taken in
      let found = outcome.found in (
        string_bytes a.text,
        found.0,
        subst (λ s. IsAnswer job files k input s (string_bytes a.text) found.0) (sym w.0) found.1,
        w.1,
        subst (λ known. Appends err_before known found.0) (sym w.2) found.2,
        up,
      )
  concluded (Err e) status outcome written none Up Clean Still up taken = absurd (taken none.0)

  -- what is there of this result, where the job is refused
  pub not_concluded : (r : Result Answer JobRefusal) (status : ExitStatus) → IsOutcome job files k input r err_before err_between
      → IfOk r (λ a. AppendsFront out_before out_after (string_bytes a.text)) → IfErr r (λ _. (status ≡ Refused) × (out_after ≡ out_before))
      → ((out_after ≡ out_before) × HasCause job files k input) ⊎ BeganAnswer job files k input out_before out_after
  not_concluded (Ok a) status outcome front none = inr (a.status, string_bytes a.text, outcome.found.0, outcome.found.1, front)
  not_concluded (Err e) status outcome front none = inl (none.1, (e, outcome.cause))

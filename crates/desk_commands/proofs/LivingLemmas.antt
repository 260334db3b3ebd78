-- After an answer over an honest disk the keeper is up, unless the answer tells of a want.
use Rattle.std.proofs.Common.{◌⊎◌, inl, inr, Result, Ok, Err, IfOk}
use Rattle.desk_store.specs.declared.keeper.Keeper.{Ghosts}
use Rattle.desk_commands.specs.Answers.{IsOnDesk}
use Rattle.desk_commands.specs.declared.answer.Answer.{Answer}
use Rattle.desk_commands.specs.declared.refusal.JobRefusal.{JobRefusal}
use Rattle.desk_commands.specs.private.Outcomes.{LivesAfter, WantsIn}
use Rattle.desk_args.specs.declared.task.Job.{Job}

-- a desk was opened or rebuilt, and asked
pub lives_then : {K : Type 0} (g : Ghosts K) (made after : K) (Want : Type 0) (r : Result Answer JobRefusal) → (g.is_clean made → g.is_up made)
    → (g.is_clean after → g.is_clean made) → (g.is_up made → g.is_clean after → Want ⊎ g.is_up after) → LivesAfter g after Want r
lives_then g made after Want (Ok a) live was_clean up = λ clean. up (live (was_clean clean)) clean
lives_then g made after Want (Err e) live was_clean up = tt

-- the want by another name
pub lives_as : {K : Type 0} (g : Ghosts K) (after : K) (Want Told : Type 0) (r : Result Answer JobRefusal) → (Want → Told)
    → LivesAfter g after Want r → LivesAfter g after Told r
lives_as g after Want Told (Ok a) told lives = λ clean. elim (lives clean) [ inl want ↦ inl (told want) | inr up ↦ inr up ]
lives_as g after Want Told (Err e) told lives = tt

-- by the job, or by what the keeper was before it
pub lives_either : {K : Type 0} (g : Ghosts K) (before after : K) (job : Job) (r : Result Answer JobRefusal)
    → (g.is_up before → g.is_clean after → WantsIn job r ⊎ g.is_up after) → (IsOnDesk job → LivesAfter g after (WantsIn job r) r)
    → IfOk r (λ _. (IsOnDesk job ⊎ g.is_up before) → g.is_clean after → WantsIn job r ⊎ g.is_up after)
lives_either g before after job (Ok a) up lives = λ either clean. elim either [ inl asked ↦ lives asked clean | inr was ↦ up was clean ]
lives_either g before after job (Err e) up lives = tt

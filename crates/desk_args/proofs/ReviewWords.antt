-- Words with `review` say no job if the value of AT is not a moment.
use Rattle.std.specs.Prelude.{◌≡◌, ℕ, List, Some, true, false, codes, refl}
use Rattle.std.specs.Str.{bytes_eq}
use Rattle.std.proofs.Common.{subst, sym}
use Rattle.clap.specs.Words.{Row, Text}
use Rattle.desk_args.specs.CommandLine.{HasMoment, SaysJob}
use Rattle.desk_args.specs.declared.task.Job.{Job}
use Rattle.desk_args.specs.declared.task.Job.TheVariants.{Beyond, Check, Decide, Deliver, Print, Rebuild, Review, Serve}

apart : (name : Text) → bytes_eq name (codes "review") ≡ false → codes "review" ≡ name → ⊥
apart name other same =
    let both : true ≡ false = subst (λ (word : Text). bytes_eq word (codes "review") ≡ false) (sym same) other in
    cc

pub no_review : (rows : List Row) → ((m : ℕ) → HasMoment (codes "AT") rows m → ⊥) → (j : Job) → SaysJob (Some (codes "review", rows)) j → ⊥
no_review rows none (Check file) says = apart (codes "check") refl says.0
no_review rows none (Decide file run) says = apart (codes "decide") refl says.0
no_review rows none (Beyond a b scope) says = apart (codes "beyond") refl says.0
no_review rows none (Deliver places relay) says = apart (codes "deliver") refl says.0
no_review rows none (Print places host after) says = apart (codes "print") refl says.0
no_review rows none (Review places at) says = none at says.2
no_review rows none (Rebuild places) says = apart (codes "rebuild") refl says.0
no_review rows none (Serve places addr questions requests) says = apart (codes "serve") refl says.0

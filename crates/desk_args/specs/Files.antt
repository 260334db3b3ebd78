-- Which files a job reads.
use Rattle.std.specs.Prelude.{List, [], ◌∷◌}
use Rattle.std.specs.Option.{option_map, option_to_list}
use Rattle.clap.specs.Words.{Text}
use Rattle.desk_args.specs.declared.named.FilePaths.{FilePaths}
use Rattle.desk_args.specs.declared.task.Job.{Job}
use Rattle.desk_args.specs.declared.task.Job.TheVariants.{Beyond, Check, Decide, Deliver}
use Rattle.desk_args.specs.declared.task.Job.TheVariants.{Print, Rebuild, Review, Serve}

-- the paths of the files that a job reads, in the order of the job's words: a job on a desk reads
-- its roster and its base
abbrev pub paths_of : Job → List Text
paths_of (Check file) = file ∷ []
paths_of (Decide file run) = file ∷ []
paths_of (Beyond a b scope) = a ∷ b ∷ []
paths_of (Deliver places relay) = places.roster ∷ places.base ∷ []
paths_of (Print places host after) = places.roster ∷ places.base ∷ []
paths_of (Review places at) = places.roster ∷ places.base ∷ []
paths_of (Rebuild places) = places.roster ∷ places.base ∷ []
paths_of (Serve places addr questions requests) = places.roster ∷ places.base ∷ []

-- the first path, and the second if there is one
abbrev pub listed : FilePaths → List Text
listed p = p.first.now ∷ option_to_list (option_map (λ path. path.now) p.second)

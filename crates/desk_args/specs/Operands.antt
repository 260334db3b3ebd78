-- Command lines without an option: each word is positional.
use Rattle.std.specs.Prelude.{◌≡◌, ◌==◌, ◌≤◌, Bool, true, not, List, [], ◌∷◌, None, codes, length}
use Rattle.std.specs.List.{list_all}
use Rattle.clap.specs.Words.{Text}
use Rattle.sudo_words.specs.Moment.{IsStamp}
use Rattle.sudo_words.specs.Word.{is_arg, is_file_path, is_host_name, is_name}
use Rattle.sudo_decide.specs.declared.invocation.Invocation.{Invocation}
use Rattle.desk_args.specs.CommandLine.{SaysAddress, SaysStore}
use Rattle.desk_args.specs.declared.task.Job.{Job}
use Rattle.desk_args.specs.declared.task.Job.TheVariants.{Beyond, Check, Decide, Deliver}
use Rattle.desk_args.specs.declared.task.Job.TheVariants.{Print, Rebuild, Review, Serve}
use Rattle.desk_args.specs.declared.task.Places.{Places}
use Rattle.desk_args.specs.declared.task.Sync.TheVariants.{Once}

-- A word is an operand where it does not begin with `-`, or is `-` alone (POSIX.1-2017, XBD 12.2,
-- guidelines 4 and 13).
abbrev pub is_operand : Text → Bool
is_operand [] = true
is_operand (b ∷ []) = true
is_operand (b ∷ c ∷ rest) = not (b == 45)

-- each word of a run is of its form, and the run has at most 64 arguments
pub record HasForms (run : Invocation) : Type 0 where
  pub user : is_name run.user ≡ true
  pub host : is_host_name run.host ≡ true
  pub runas : is_name run.runas ≡ true
  pub path : is_file_path run.path ≡ true
  pub args : list_all is_arg run.args ≡ true
  pub few : length run.args ≤ 64

-- the word says where messages are kept, and a commit syncs once
abbrev pub SaysPlace : Text → Places → Type 0
SaysPlace word places = SaysStore word places.store × (places.sync ≡ Once)

-- the words after the program's name say the job, each by its position
abbrev pub SaysByPlace : List Text → Job → Type 0
SaysByPlace words (Check file) = words ≡ codes "check" ∷ file ∷ []
SaysByPlace words (Decide file run) =
    (at : Text) × IsStamp at run.at × HasForms run
    × (words ≡ codes "decide" ∷ file ∷ run.user ∷ run.host ∷ run.runas ∷ at ∷ run.path ∷ run.args)
SaysByPlace words (Beyond a b scope) = (words ≡ codes "beyond" ∷ a ∷ b ∷ [])
    × (scope ≡ record { user = None; host = None; runas = None })
SaysByPlace words (Deliver places relay) =
    (store : Text) × SaysPlace store places
    × (words ≡ codes "deliver" ∷ places.roster ∷ places.base ∷ store ∷ relay ∷ [])
SaysByPlace words (Print places host after) =
    (store : Text) × SaysPlace store places
    × (words ≡ codes "print" ∷ places.roster ∷ places.base ∷ store ∷ host ∷ [])
    × (is_host_name host ≡ true) × (after ≡ None)
SaysByPlace words (Review places at) =
    (store text : Text) × SaysPlace store places
    × IsStamp text at × (words ≡ codes "review" ∷ places.roster ∷ places.base ∷ store ∷ text ∷ [])
SaysByPlace words (Rebuild places) =
    (store : Text) × SaysPlace store places
    × (words ≡ codes "rebuild" ∷ places.roster ∷ places.base ∷ store ∷ [])
SaysByPlace words (Serve places addr questions requests) =
    (store text : Text) × SaysPlace store places × SaysAddress text addr
    × (words ≡ codes "serve" ∷ places.roster ∷ places.base ∷ store ∷ text ∷ [])
    × (questions ≡ None) × (requests ≡ None)

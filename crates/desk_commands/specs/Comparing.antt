-- What `beyond` answers.
use Rattle.std.specs.Prelude.{◌≡◌, ◌⊎◌, ℕ, List, ◌∷◌, ◌++◌, Option, Some, None, MatchOption, codes}
use Rattle.std.specs.List.{flat_map}
use Rattle.sudo_words.specs.Moment.{stamp}
use Rattle.sudo_policy.specs.Spelling.{Spells}
use Rattle.sudo_policy.specs.declared.entry.Entry.{Entry}
use Rattle.sudo_decide.specs.declared.invocation.Invocation.{Invocation}
use Rattle.sudo_beyond.specs.Answer as review
use Rattle.sudo_beyond.specs.Beyond.{LiesBeyond, SomethingBeyond}
use Rattle.sudo_beyond.specs.declared.fault.BeyondFault.TheVariants as faults
use Rattle.sudo_decide.specs.declared.scope.Scope.{Scope}
use Rattle.desk_commands.specs.Files.{IsFaultOf}
use Rattle.desk_commands.specs.declared.refusal.JobRefusal.{JobRefusal}
use Rattle.desk_commands.specs.declared.refusal.JobRefusal.TheVariants as reasons
use Rattle.desk_args.specs.declared.status.ExitStatus.{ExitStatus}
use Rattle.desk_args.specs.declared.status.ExitStatus.TheVariants.{Done, Found}

-- each word after a space
abbrev pub spaced : List (List ℕ) → List ℕ
spaced words = flat_map (λ word. codes " " ++ word) words

-- `ann db1 root 20260105093000Z /bin/ls -l`: user, host, target, moment, path and arguments, each
-- as its value is
abbrev pub case_text : Invocation → List ℕ
case_text i = i.user ++ spaced (i.host ∷ i.runas ∷ stamp i.at ∷ i.path ∷ i.args)

-- `none`, which is done; or the case, which is found; and a newline
abbrev pub IsShown : Option Invocation → ExitStatus → List ℕ → Type 0
IsShown None status text = (status ≡ Done) × (text ≡ codes "none\n")
IsShown (Some i) status text = (status ≡ Found) × (text ≡ case_text i ++ codes "\n")

-- `beyond` compares the policies a and b that two files spell. It answers `none`, and then a allows
-- no invocation at all in the scope that b refuses; or it answers with an invocation that a allows
-- and b refuses, which is the first of at most 1,000,000 cases.
pub record ComparesFiles (scope : Scope) (a_file b_file : List ℕ)
    (status : ExitStatus) (text : List ℕ) : Type 0 where
  pub a : List Entry
  pub b : List Entry
  pub found : Option Invocation
  pub a_spelled : Spells a_file a
  pub b_spelled : Spells b_file b
  pub exact : MatchOption found (SomethingBeyond scope a b → ⊥) (LiesBeyond scope a b)
  pub first : review.IsFirstBeyond scope a b found
  pub shown : IsShown found status text

-- ---- what else a comparison may end with

-- the file spells a policy
abbrev pub HoldsPolicy : List ℕ → Type 0
HoldsPolicy file = (es : List Entry) × Spells file es

-- the files spell policies that have more than 1,000,000 cases
pub record HaveTooManyCases (scope : Scope) (a_file b_file : List ℕ) : Type 0 where
  pub a : List Entry
  pub b : List Entry
  pub a_spelled : Spells a_file a
  pub b_spelled : Spells b_file b
  pub many : review.AreTooMany scope a b

-- `beyond` may be refused for this, before its answer is written. The second file is looked at
-- where the first spells a policy.
abbrev pub EndsComparing : Scope → (a_file b_file : List ℕ) → JobRefusal → Type 0
EndsComparing scope a_file b_file reasons.FileFailed = ⊥
EndsComparing scope a_file b_file reasons.BadWord = ⊥
EndsComparing scope a_file b_file reasons.NoMemory = Unit {0}
EndsComparing scope a_file b_file (reasons.Roster fault) = ⊥
EndsComparing scope a_file b_file (reasons.Policy fault) =
    IsFaultOf a_file fault ⊎ (HoldsPolicy a_file × IsFaultOf b_file fault)
EndsComparing scope a_file b_file (reasons.Beyond faults.TooManyCases) =
    HaveTooManyCases scope a_file b_file
EndsComparing scope a_file b_file (reasons.Beyond faults.NoMemory) = Unit {0}
EndsComparing scope a_file b_file (reasons.Desk refusal) = ⊥

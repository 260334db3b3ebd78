-- What a compiled policy answers: the last rule that speaks decides, as in any policy, and there is
-- no alias to follow (sudoers(5), "SUDOERS FILE FORMAT").
use Rattle.std.specs.Prelude.{◌≡◌, ℕ, Bool, true, ◌&&◌, List, map, Option}
use Rattle.std.specs.Prelude.{Some, None, if◌then◌else◌, unwrap_or}
use Rattle.std.specs.Option.{option_map}
use Rattle.std.specs.Str.{bytes_eq}
use Rattle.sudo_words.specs.declared.cmnd.Cmnd.{Cmnd}
use Rattle.sudo_words.specs.Command.{matches}
use Rattle.sudo_policy.specs.declared.entry.Signed.{Signed}
use Rattle.sudo_decide.specs.declared.decision.Decision.{Decision}
use Rattle.sudo_decide.specs.declared.decision.Decision.TheVariants.{Deny}
use Rattle.sudo_decide.specs.declared.invocation.Invocation.{Invocation}
use Rattle.sudo_decide.specs.Decision.{is_yes, last_given, list_answer, is_within, decision_of}
use Rattle.sudo_compiled.specs.declared.plain.Plain.{Plain}
use Rattle.sudo_compiled.specs.declared.plain.Plain.TheVariants as plains
use Rattle.sudo_compiled.specs.declared.plain.PlainRule.{PlainRule}

-- ---- lists: `ALL` says yes, and a name where it is the one asked for

abbrev pub plain_answer : List ℕ → Plain → Option Bool
plain_answer asked plains.All = Some true
plain_answer asked (plains.Name name) = if bytes_eq name asked then Some true else None

abbrev pub plains_say : List ℕ → List (Signed Plain) → Option Bool
plains_say asked list = list_answer (plain_answer asked) list

-- a command says yes where it matches the path with these arguments
abbrev pub match_answer : List ℕ → List (List ℕ) → Cmnd → Option Bool
match_answer path args cmnd = if matches cmnd path args then Some true else None

abbrev pub cmnds_say : List ℕ → List (List ℕ) → List (Signed Cmnd) → Option Bool
cmnds_say path args list = list_answer (match_answer path args) list

-- ---- rules

abbrev pub plain_takes_part : PlainRule → ℕ → Bool
plain_takes_part r at = is_within r.not_before r.not_after at

abbrev pub plain_is_about : PlainRule → Invocation → Bool
plain_is_about r i = is_yes (plains_say i.user r.users)
    && is_yes (plains_say i.host r.hosts) && is_yes (plains_say i.runas r.runas)

abbrev pub plain_says : PlainRule → Invocation → Option Bool
plain_says r i =
    if plain_takes_part r i.at && plain_is_about r i then cmnds_say i.path i.args r.cmnds else None

abbrev pub plain_outcome : PlainRule → Bool → Decision
plain_outcome r answer = decision_of r.tags answer

-- what a rule decides, where it speaks
abbrev pub spoken : Invocation → PlainRule → Option Decision
spoken i r = option_map (plain_outcome r) (plain_says r i)

-- ---- the last rule that speaks decides, and silence denies

abbrev pub last_spoken : List PlainRule → Invocation → Option Decision
last_spoken rules i = last_given (map (spoken i) rules)

abbrev pub answer : List PlainRule → Invocation → Decision
answer rules i = unwrap_or (last_spoken rules i) Deny

-- ---- the same user, host and target

pub record SameNames (i j : Invocation) : Type 0 where
  pub user : j.user ≡ i.user
  pub host : j.host ≡ i.host
  pub runas : j.runas ≡ i.runas

-- the rules answer alike whatever a user runs as this target on this host, and whenever
abbrev pub AnswerAlikeFor : List PlainRule → List PlainRule → Invocation → Type 0
AnswerAlikeFor rules others i = (j : Invocation) → SameNames i j → answer rules j ≡ answer others j

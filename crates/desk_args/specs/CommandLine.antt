-- The command line, and what it says to do.
use Rattle.std.specs.Prelude.{◌≡◌, ◌≢◌, ◌⊎◌, ℕ, ◌<◌, ◌≤◌, ◌&&◌, ◌==◌, Bool, true, false, not}
use Rattle.std.specs.Prelude.{List, [], ◌∷◌, ◌++◌, Option, Some, None, codes, is_some, length}
use Rattle.std.specs.Prelude.{nat_le, nat_lt, unwrap_or}
use Rattle.std.specs.Char.{is_ascii_digit}
use Rattle.std.specs.List.{ends_with, list_all, list_any, starts_with}
use Rattle.std.specs.Str.Parse.{digits_value}
use Rattle.clap.specs.Words.{App, Row, Rule, Text, first_of, all_of, fault_of, new_app}
use Rattle.clap.specs.Words.{new_rule, subcommand_of, with_rule, with_subcommand}
use Rattle.clap.specs.declared.builder.ArgAction.TheVariants.{Set, Append}
use Rattle.sudo_words.specs.Moment.{IsStamp}
use Rattle.sudo_words.specs.Word.{is_arg, is_file_path, is_host_name, is_name}
use Rattle.sudo_decide.specs.declared.invocation.Invocation.{Invocation}
use Rattle.sudo_decide.specs.declared.scope.Scope.{Scope}
use Rattle.desk_args.specs.declared.task.Address.{Address}
use Rattle.desk_args.specs.declared.task.Address.TheVariants.{Tcp, Unix}
use Rattle.desk_args.specs.declared.task.Places.{Places}
use Rattle.desk_args.specs.declared.task.Store.{Store}
use Rattle.desk_args.specs.declared.task.Store.TheVariants.{Memory, File}
use Rattle.desk_args.specs.declared.task.Sync.{Sync}
use Rattle.desk_args.specs.declared.task.Sync.TheVariants.{Once, Twice}
use Rattle.desk_args.specs.declared.task.Job.{Job}
use Rattle.desk_args.specs.declared.task.Job.TheVariants.{Beyond, Check, Decide, Deliver}
use Rattle.desk_args.specs.declared.task.Job.TheVariants.{Print, Rebuild, Review, Serve}

-- ---- the program's commands

-- an argument that has one value and may not be left out
abbrev pub wanted : Text → Rule
wanted id = record (new_rule id) { action = Some Set; required = true }

-- an argument that has any number of values
abbrev pub several : Text → Rule
several id = record (new_rule id) { action = Some Append }

-- an option with one value, which may be left out: `--long VALUE`
abbrev pub optional : (id long : Text) → Rule
optional id long = record (new_rule id) { long = Some long; action = Some Set }

-- the command with these arguments as well, each wanted
abbrev pub with_wanted : App → List Text → App
with_wanted command [] = command
with_wanted command (id ∷ ids) = with_wanted (with_rule command (wanted id)) ids

-- the arguments of each command that have one value each and may not be left out
abbrev pub check_args : List Text
check_args = codes "FILE" ∷ []

abbrev pub decide_args : List Text
decide_args =
    codes "FILE" ∷ codes "USER" ∷ codes "HOST" ∷ codes "RUNAS" ∷ codes "AT" ∷ codes "PATH" ∷ []

abbrev pub beyond_args : List Text
beyond_args = codes "A" ∷ codes "B" ∷ []

-- how often a commit syncs: an option of each command on a desk
abbrev pub sync : Rule
sync = optional (codes "SYNC") (codes "sync")

-- where the parts of a desk are: all that `rebuild` wants
abbrev pub place_args : List Text
place_args = codes "ROSTER" ∷ codes "BASE" ∷ codes "STORE" ∷ []

-- the arguments of any other command on a desk: the last is its own
abbrev pub desk_args : Text → List Text
desk_args id = codes "ROSTER" ∷ codes "BASE" ∷ codes "STORE" ∷ id ∷ []

-- `check FILE`
abbrev pub check : App
check = with_wanted (new_app (codes "check")) check_args

-- `decide FILE USER HOST RUNAS AT PATH [ARGS..]`
abbrev pub decide : App
decide = with_rule (with_wanted (new_app (codes "decide")) decide_args) (several (codes "ARGS"))

-- `beyond A B [--user USER] [--host HOST] [--runas RUNAS]`
abbrev pub beyond : App
beyond =
    with_rule (with_rule (with_rule (with_wanted (new_app (codes "beyond")) beyond_args)
    (optional (codes "USER") (codes "user"))) (optional (codes "HOST") (codes "host")))
    (optional (codes "RUNAS") (codes "runas"))

-- a command on a desk, with an argument of its own
abbrev pub on_desk : (name id : Text) → App
on_desk name id = with_rule (with_wanted (new_app name) (desk_args id)) sync

-- `deliver ROSTER BASE STORE RELAY [--sync SYNC]`
abbrev pub deliver : App
deliver = on_desk (codes "deliver") (codes "RELAY")

-- `print ROSTER BASE STORE HOST [--sync SYNC] [--after AFTER]`
abbrev pub print : App
print =
    with_rule (on_desk (codes "print") (codes "HOST")) (optional (codes "AFTER") (codes "after"))

-- `review ROSTER BASE STORE AT [--sync SYNC]`
abbrev pub review : App
review = on_desk (codes "review") (codes "AT")

-- `rebuild ROSTER BASE STORE [--sync SYNC]`
abbrev pub rebuild : App
rebuild = with_rule (with_wanted (new_app (codes "rebuild")) place_args) sync

-- `serve ROSTER BASE STORE ADDR [--sync SYNC] [--requests REQUESTS] [--questions QUESTIONS]`
abbrev pub serve : App
serve =
    with_rule (with_rule (on_desk (codes "serve") (codes "ADDR"))
    (optional (codes "REQUESTS") (codes "requests")))
    (optional (codes "QUESTIONS") (codes "questions"))

-- the command with these commands under it as well
abbrev pub with_subcommands : App → List App → App
with_subcommands command [] = command
with_subcommands command (sub ∷ more) = with_subcommands (with_subcommand command sub.top) more

-- the commands on policies
abbrev pub on_policies : List App
on_policies = check ∷ decide ∷ beyond ∷ []

-- the commands on a desk
abbrev pub on_desks : List App
on_desks = deliver ∷ print ∷ review ∷ rebuild ∷ serve ∷ []

-- the program, which is run by one of its commands
abbrev pub program : App
program =
    let top = new_app (codes "desk") in
    record top { top = record top.top { subcommand_required = true; has_version = true } }

-- `desk COMMAND`
abbrev pub desk_app : App
desk_app = with_subcommands (with_subcommands program on_policies) on_desks

-- ---- the values of a command's arguments

-- the argument has this value
abbrev pub HasValue : Text → List Row → Text → Type 0
HasValue id rows text = first_of id rows ≡ Some text

-- the argument has this value, which is of the form
abbrev pub HasWord : (Text → Bool) → Text → List Row → Text → Type 0
HasWord form id rows text = HasValue id rows text × (form text ≡ true)

-- the argument's value is the moment's canonical text
abbrev pub HasMoment : Text → List Row → ℕ → Type 0
HasMoment id rows moment = (text : Text) × HasValue id rows text × IsStamp text moment

-- the option's value is the moment's canonical text, or it is left out
abbrev pub HasMomentIfGiven : Text → List Row → Option ℕ → Type 0
HasMomentIfGiven id rows None = first_of id rows ≡ None
HasMomentIfGiven id rows (Some moment) = HasMoment id rows moment

-- the values of an argument that may be left out, in order
abbrev pub given_values : Text → List Row → List Text
given_values id rows = unwrap_or (all_of id rows) []

-- at most so many values, each of the form
abbrev pub HasWords : (Text → Bool) → ℕ → Text → List Row → List Text → Type 0
HasWords form most id rows texts =
    (given_values id rows ≡ texts) × (list_all form texts ≡ true) × (length texts ≤ most)

-- the run that the values of `decide` describe
pub record SaysRun (rows : List Row) (run : Invocation) : Type 0 where
  pub user : HasWord is_name (codes "USER") rows run.user
  pub host : HasWord is_host_name (codes "HOST") rows run.host
  pub runas : HasWord is_name (codes "RUNAS") rows run.runas
  pub at : HasMoment (codes "AT") rows run.at
  pub path : HasWord is_file_path (codes "PATH") rows run.path
  pub args : HasWords is_arg 64 (codes "ARGS") rows run.args

-- the option has this value, which is of the form, or it is left out
abbrev pub HasOption : (Text → Bool) → Text → List Row → Option Text → Type 0
HasOption form id rows None = first_of id rows ≡ None
HasOption form id rows (Some text) = HasWord form id rows text

-- 1 to 7 digits
abbrev pub is_digits : Text → Bool
is_digits text = nat_lt 0 (length text) && (nat_le (length text) 7 && list_all is_ascii_digit text)

-- such a number, from 1 to 1,000,000
abbrev pub is_count : Text → Bool
is_count text =
    is_digits text && (nat_lt 0 (digits_value 10 text) && nat_le (digits_value 10 text) 1_000_000)

-- the option has this number as its value, or it is left out
abbrev pub HasCount : Text → List Row → Option ℕ → Type 0
HasCount id rows None = first_of id rows ≡ None
HasCount id rows (Some n) =
    (text : Text) × HasWord is_count id rows text × (n ≡ digits_value 10 text)

-- the scope that the options of `beyond` give: what is left out is not fixed
pub record IsScopeOf (rows : List Row) (scope : Scope) : Type 0 where
  pub user : HasOption is_name (codes "USER") rows scope.user
  pub host : HasOption is_host_name (codes "HOST") rows scope.host
  pub runas : HasOption is_name (codes "RUNAS") rows scope.runas

-- `-` means that messages are kept in memory, and any other text is the path of a database
abbrev pub SaysStore : Text → Store → Type 0
SaysStore text Memory = text ≡ codes "-"
SaysStore text (File path) = (text ≡ path) × (path ≢ codes "-")

-- the argument's value says that messages are kept there
abbrev pub HasStore : Text → List Row → Store → Type 0
HasStore id rows store = (text : Text) × HasValue id rows text × SaysStore text store

-- The option's value says how often a commit syncs. Where it is left out, a commit syncs once.
abbrev pub SaysSync : Option Text → Sync → Type 0
SaysSync given Once = (given ≡ None) ⊎ (given ≡ Some (codes "once"))
SaysSync given Twice = given ≡ Some (codes "twice")

-- the option's value, or its absence, says how often a commit syncs
abbrev pub HasSync : Text → List Row → Sync → Type 0
HasSync id rows sync = SaysSync (first_of id rows) sync

-- the places that the values give: the paths of the roster and of the base, where messages are
-- kept, and how often a commit syncs them
pub record ArePlaces (rows : List Row) (places : Places) : Type 0 where
  pub roster : HasValue (codes "ROSTER") rows places.roster
  pub base : HasValue (codes "BASE") rows places.base
  pub store : HasStore (codes "STORE") rows places.store
  pub sync : HasSync (codes "SYNC") rows places.sync

-- ---- where `serve` listens

-- a port: 1 to 5 digits, which write at most 65,535
abbrev pub is_port : Text → Bool
is_port text =
    nat_lt 0 (length text)
    && (nat_le (length text) 5
    && (list_all is_ascii_digit text && nat_le (digits_value 10 text) 65_535))

-- A host that is not empty, a colon and a port. The colon is the text's last, since a port has
-- none. Whether the host can be listened at is seen when the desk is to listen there.
pub record IsHostAndPort (text : Text) : Type 0 where
  pub host : Text
  pub port : Text
  pub is : text ≡ host ++ codes ":" ++ port
  pub named : host ≢ []
  pub numbered : is_port port ≡ true

-- The path of a Unix socket: it begins with a slash and does not end with one, it has no null byte,
-- and at most 107 bytes, which is what the address of such a socket holds (unix(7)).
abbrev pub is_socket_path : Text → Bool
is_socket_path path =
    starts_with (λ a b. a == b) path (codes "/")
    && (not (ends_with (λ a b. a == b) path (codes "/"))
    && (not (list_any (λ b. b == 0) path) && nat_le (length path) 107))

-- the text begins with `unix:/`
abbrev pub BeginsAsSocket : Text → Type 0
BeginsAsSocket text = (rest : Text) × (text ≡ codes "unix:/" ++ rest)

-- `unix:` and the path of a socket, or a host and a port. What begins with `unix:/` is never the
-- second, also where it ends in a colon and a port.
abbrev pub SaysAddress : Text → Address → Type 0
SaysAddress text (Tcp place) =
    (text ≡ place) × IsHostAndPort text × (BeginsAsSocket text → ⊥)
SaysAddress text (Unix path) = (text ≡ codes "unix:" ++ path) × (is_socket_path path ≡ true)

-- the text says no address
abbrev pub SaysNoAddress : Text → Type 0
SaysNoAddress text = (addr : Address) → SaysAddress text addr → ⊥

-- the argument's value says to listen there
abbrev pub HasAddress : Text → List Row → Address → Type 0
HasAddress id rows addr = (text : Text) × HasValue id rows text × SaysAddress text addr

-- the option's value says to listen there as well, or it is left out
abbrev pub HasAddressIfGiven : Text → List Row → Option Address → Type 0
HasAddressIfGiven id rows None = first_of id rows ≡ None
HasAddressIfGiven id rows (Some addr) = HasAddress id rows addr

-- ---- what the line says

-- the command of this name, with its values, says the job
abbrev pub SaysJob : Option (Text × List Row) → Job → Type 0
SaysJob None job = ⊥
SaysJob (Some line) (Check file) = (line.0 ≡ codes "check") × HasValue (codes "FILE") line.1 file
SaysJob (Some line) (Decide file run) =
    (line.0 ≡ codes "decide") × HasValue (codes "FILE") line.1 file × SaysRun line.1 run
SaysJob (Some line) (Beyond a b scope) =
    (line.0 ≡ codes "beyond") × HasValue (codes "A") line.1 a
    × HasValue (codes "B") line.1 b × IsScopeOf line.1 scope
SaysJob (Some line) (Deliver places relay) =
    (line.0 ≡ codes "deliver") × ArePlaces line.1 places × HasValue (codes "RELAY") line.1 relay
SaysJob (Some line) (Print places host after) =
    (line.0 ≡ codes "print") × ArePlaces line.1 places
    × HasWord is_host_name (codes "HOST") line.1 host
    × HasMomentIfGiven (codes "AFTER") line.1 after
SaysJob (Some line) (Review places at) =
    (line.0 ≡ codes "review") × ArePlaces line.1 places × HasMoment (codes "AT") line.1 at
SaysJob (Some line) (Rebuild places) = (line.0 ≡ codes "rebuild") × ArePlaces line.1 places
SaysJob (Some line) (Serve places addr questions requests) =
    (line.0 ≡ codes "serve") × ArePlaces line.1 places
    × HasAddress (codes "ADDR") line.1 addr
    × HasAddressIfGiven (codes "QUESTIONS") line.1 questions
    × HasCount (codes "REQUESTS") line.1 requests

-- By clap's rules the words are a command of the program, without a fault, and their values say the
-- job.
pub record IsCommandLine (words : List Text) (job : Job) : Type 0 where
  pub faultless : fault_of desk_app words ≡ []
  pub says : SaysJob (subcommand_of desk_app words) job

-- ---- a value that is not of its form

-- the argument has a value that is not of the form
pub record HasBadWord (form : Text → Bool) (id : Text) (rows : List Row) : Type 0 where
  pub text : Text
  pub value : HasValue id rows text
  pub bad : form text ≡ false

-- the argument has a value that is not the canonical text of a moment
pub record HasBadMoment (id : Text) (rows : List Row) : Type 0 where
  pub text : Text
  pub value : HasValue id rows text
  pub bad : (moment : ℕ) → IsStamp text moment → ⊥

-- the argument has a value that says no address
pub record HasBadAddress (id : Text) (rows : List Row) : Type 0 where
  pub text : Text
  pub value : HasValue id rows text
  pub bad : SaysNoAddress text

-- the option has a value, which does not say how often a commit syncs
pub record HasBadSync (id : Text) (rows : List Row) : Type 0 where
  pub text : Text
  pub value : HasValue id rows text
  pub bad : (sync : Sync) → SaysSync (Some text) sync → ⊥

-- too many values, or one that is not of the form
abbrev pub HasBadWords : (Text → Bool) → ℕ → Text → List Row → Type 0
HasBadWords form most id rows =
    (most < length (given_values id rows)) ⊎ (list_all form (given_values id rows) ≡ false)

-- one of the values of `decide` is not of its form
pub data HasBadValue (rows : List Row) : Type 0 where
  bad_user : HasBadWord is_name (codes "USER") rows → HasBadValue rows
  bad_host : HasBadWord is_host_name (codes "HOST") rows → HasBadValue rows
  bad_runas : HasBadWord is_name (codes "RUNAS") rows → HasBadValue rows
  bad_at : HasBadMoment (codes "AT") rows → HasBadValue rows
  bad_path : HasBadWord is_file_path (codes "PATH") rows → HasBadValue rows
  bad_args : HasBadWords is_arg 64 (codes "ARGS") rows → HasBadValue rows

-- one of the options of `beyond` has a value that is not of its form
pub data HasBadScope (rows : List Row) : Type 0 where
  bad_user : HasBadWord is_name (codes "USER") rows → HasBadScope rows
  bad_host : HasBadWord is_host_name (codes "HOST") rows → HasBadScope rows
  bad_runas : HasBadWord is_name (codes "RUNAS") rows → HasBadScope rows

-- one of the values of `print` is not of its form
pub data HasBadPlace (rows : List Row) : Type 0 where
  bad_target : HasBadWord is_host_name (codes "HOST") rows → HasBadPlace rows
  bad_after : HasBadMoment (codes "AFTER") rows → HasBadPlace rows

-- one of the values of `serve` is not of its form
pub data HasBadServing (rows : List Row) : Type 0 where
  bad_addr : HasBadAddress (codes "ADDR") rows → HasBadServing rows
  bad_questions : HasBadAddress (codes "QUESTIONS") rows → HasBadServing rows
  bad_requests : HasBadWord is_count (codes "REQUESTS") rows → HasBadServing rows

-- the command is one on a desk
abbrev pub IsDeskCommand : Text → Type 0
IsDeskCommand name =
    (name ≡ codes "deliver") ⊎ (name ≡ codes "print") ⊎ (name ≡ codes "review")
    ⊎ (name ≡ codes "rebuild") ⊎ (name ≡ codes "serve")

-- the command's name, with a value that is not of its form
abbrev pub SaysBadly : Option (Text × List Row) → Type 0
SaysBadly None = ⊥
SaysBadly (Some line) =
    ((line.0 ≡ codes "decide") × HasBadValue line.1)
    ⊎ ((line.0 ≡ codes "beyond") × HasBadScope line.1)
    ⊎ ((line.0 ≡ codes "print") × HasBadPlace line.1)
    ⊎ ((line.0 ≡ codes "review") × HasBadMoment (codes "AT") line.1)
    ⊎ ((line.0 ≡ codes "serve") × HasBadServing line.1)
    ⊎ (IsDeskCommand line.0 × HasBadSync (codes "SYNC") line.1)

-- By clap's rules the words are a command of the program, without a fault, but a value is not of
-- its form.
pub record IsBadLine (words : List Text) : Type 0 where
  pub faultless : fault_of desk_app words ≡ []
  pub says : SaysBadly (subcommand_of desk_app words)

-- ---- what clap's rules leave to the program

-- the argument has a value
abbrev pub HasSome : Text → List Row → Type 0
HasSome id rows = is_some (first_of id rows) ≡ true

-- each of these arguments has a value
abbrev pub HaveSome : List Text → List Row → Type 0
HaveSome [] rows = Unit {0}
HaveSome (id ∷ ids) rows = HasSome id rows × HaveSome ids rows

-- the command is one of the program's, with a value for each argument that it wants
abbrev pub HasAllValues : Option (Text × List Row) → Type 0
HasAllValues None = ⊥
HasAllValues (Some line) =
    ((line.0 ≡ codes "check") × HaveSome check_args line.1)
    ⊎ ((line.0 ≡ codes "decide") × HaveSome decide_args line.1)
    ⊎ ((line.0 ≡ codes "beyond") × HaveSome beyond_args line.1)
    ⊎ ((line.0 ≡ codes "deliver") × HaveSome (desk_args (codes "RELAY")) line.1)
    ⊎ ((line.0 ≡ codes "print") × HaveSome (desk_args (codes "HOST")) line.1)
    ⊎ ((line.0 ≡ codes "review") × HaveSome (desk_args (codes "AT")) line.1)
    ⊎ ((line.0 ≡ codes "rebuild") × HaveSome place_args line.1)
    ⊎ ((line.0 ≡ codes "serve") × HaveSome (desk_args (codes "ADDR")) line.1)

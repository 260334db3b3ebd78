-- What lists of clap's arguments and commands stand for, as the program makes them.
use Rattle.std.specs.Prelude.{◌≡◌, false, List, [], ◌∷◌}
use Rattle.std.specs.List.{AllZip}
use Rattle.clap.specs.Words.{App, Rule, app_of, rule_of, with_rule}
use Rattle.clap.specs.declared.builder.Command.{Command}
use Rattle.clap.specs.declared.builder.Command.TheViews.{out-Command as fields_of}
use Rattle.clap.specs.declared.builder.arg.Arg.{Arg}

-- the argument has this rule, and is not global
abbrev pub HasRule : Arg → Rule → Type 0
HasRule arg rule = (rule_of arg ≡ rule) × (arg.global ≡ false)

-- the arguments have these rules, in order
abbrev pub HasRules : List Arg → List Rule → Type 0
HasRules args rules = AllZip HasRule args rules

-- the command is this one, and none of its arguments is global
abbrev pub IsCommand : App → Command → Type 0
IsCommand app command = (app_of command ≡ app) × ((fields_of command).has_globals ≡ false)

-- the commands are these, in order
abbrev pub AreCommands : List Command → List App → Type 0
AreCommands commands apps = AllZip (λ command app. IsCommand app command) commands apps

-- the command with these rules as well, in order
abbrev pub with_rules : App → List Rule → App
with_rules app [] = app
with_rules app (rule ∷ rules) = with_rules (with_rule app rule) rules

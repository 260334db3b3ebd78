-- What clap's commands stand for once lists of arguments and of commands were added.
use Rattle.std.proofs.Common.{◌++◌, ◌+◌, ◌<◌, ℕ, List, [], ◌∷◌, map, take, get_or, length, append_assoc, ap, refl, ◌∙◌}
use Rattle.std.proofs.lemmas.List.{take_more, map-append}
use Rattle.std.specs.List.{AllZip}
use Rattle.clap.specs.Words.{AddsArg, AddsInTurn, AddsSubcommand, App, Rule, rule_of, shape_of, with_rule, with_subcommand}
use Rattle.clap.specs.declared.builder.Command.{Command}
use Rattle.clap.specs.declared.builder.arg.Arg.{Arg}
use Rattle.desk_args.specs.CommandLine as line
use Rattle.desk_args.specs.private.Commands.{AreCommands, HasRule, HasRules, IsCommand, with_rules}

-- A relation that holds of two lists, place by place, still holds after each gets one more item, if it holds of these two.
pub one_more : {A B : Type 0} (R : A → B → Type 0) (xs : List A) (ys : List B) (x : A) (y : B) → AllZip R xs ys → R x y → AllZip R (xs ++ x ∷ []) (ys ++ y ∷ [])
one_more R [] [] x y all holds = (holds, tt)
one_more R [] (b ∷ ys) x y all holds = absurd all
one_more R (a ∷ xs) [] x y all holds = absurd all
one_more R (a ∷ xs) (b ∷ ys) x y (first, all) holds = (first, one_more R xs ys x y all holds)

-- With the argument of the next item, the arguments of the items so far are those of one item more.
pub next_pushed : {X : Type 0} (rule : X → Rule) (args : List Arg) (before : List Rule) (items : List X) (i : ℕ) (other : X) (arg : Arg)
    → i < length items → HasRules args (before ++ map rule (take i items)) → HasRule arg (rule (get_or items i other))
    → HasRules (args ++ arg ∷ []) (before ++ map rule (take (i + 1) items))
next_pushed rule args before items i other arg less have has =
    rw (
      take_more items i other less,
      map-append rule (take i items) (get_or items i other ∷ []),
      ← append_assoc before (map rule (take i items)) (rule (get_or items i other) ∷ []),
    ) (one_more HasRule args _ arg _ have has)

-- A command to which arguments were added has their rules as well.
pub rules_added : (before after : Command) (app : App) (args : List Arg) (rules : List Rule) → AddsInTurn AddsArg before args after → HasRules args rules
    → IsCommand app before → IsCommand (with_rules app rules) after
rules_added before after app [] [] same all is = rw (← same) is
rules_added before after app [] (rule ∷ rules) same all is = absurd all
rules_added before after app (arg ∷ args) [] adds all is = absurd all
rules_added before after app (arg ∷ args) (rule ∷ rules) (between, adds, more) ((has, local), all) (is, plain) =
    rules_added between after (with_rule app rule) args rules more all
    (adds.shape local ∙ (ap (λ (a : App). with_rule a (rule_of arg)) is ∙ ap (with_rule app) has), rw (adds.globals, plain, local) refl)

-- A command to which commands were added has them under it as well.
pub commands_added : (before after : Command) (app : App) (commands : List Command) (apps : List App) → AddsInTurn AddsSubcommand before commands after
    → AreCommands commands apps → IsCommand app before → IsCommand (line.with_subcommands app apps) after
commands_added before after app [] [] same all is = rw (← same) is
commands_added before after app [] (sub ∷ apps) same all is = absurd all
commands_added before after app (command ∷ commands) [] adds all is = absurd all
commands_added before after app (command ∷ commands) (sub ∷ apps) (between, adds, more) ((has, local), all) (is, plain) =
    commands_added between after (with_subcommand app sub.top) commands apps more all (
      adds.shape local ∙ (ap (λ (a : App). with_subcommand a (shape_of command)) is ∙ ap (λ (a : App). with_subcommand app a.top) has),
      rw (adds.globals, plain, local) refl,
    )

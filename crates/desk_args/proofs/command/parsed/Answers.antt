use Rattle.std.proofs.Common.{[], map, ap, sym, subst, ◌∙◌, inl, inr}
use Rattle.std.specs.Prelude.{string_bytes}
use Rattle.clap.specs.Words.{App, HasKind, Kinds, fault_of, is_simple, is_simple_and_free, subcommand_of}
use Rattle.desk_args.proofs.Commands.{desk_free, desk_simple}
use Rattle.desk_args.proofs.command.parsed.Goals as goal

pub returns-in-Ok-clause-faultless : goal.returns-in-Ok-clause-faultless
returns-in-Ok-clause-faultless c =
    let app = c.in_ok-command.ensures.0 in
    sym (ap (λ (a : App). fault_of a (map string_bytes c.args.words.now)) app) ∙ c.in-Ok.ensures.kinds (ap is_simple_and_free app ∙ desk_free)

pub returns-in-Ok-clause-matches : goal.returns-in-Ok-clause-matches
returns-in-Ok-clause-matches c =
    let app = c.in_ok-command.ensures.0 in
    (c.in-Ok.ensures.matches (ap is_simple app ∙ desk_simple)).1
    ∙ ap (λ (a : App). subcommand_of a (map string_bytes c.args.words.now)) app

pub returns-in-Err-clause-only : goal.returns-in-Err-clause-only
returns-in-Err-clause-only c = λ e.
    let app = c.in_ok-command.ensures.0 in
    let has = c.in-Err.ensures.kinds (ap is_simple_and_free app ∙ desk_free) in
    let at : HasKind [] c.in-Err.error =
    subst (λ (ks : Kinds). HasKind ks c.in-Err.error) (ap (λ (a : App). fault_of a (map string_bytes c.args.words.now)) app ∙ e) has in
    elim at [ inl oom ↦ c.fault_of_error.ensures.memory oom | inr among ↦ absurd among ]

use Rattle.std.proofs.Common.{◌≡◌, ℕ, List, ◌++◌, length, ap, ◌∙◌}
use Rattle.sudo_words.specs.declared.cmnd.Cmnd.{Cmnd}
use Rattle.sudo_decide.specs.Reach.{rules_in}
use Rattle.sudo_beyond.specs.declared.run.Run.{Run}
use Rattle.sudo_beyond.specs.Standing.{commands}
use Rattle.sudo_beyond.specs.Cases.{turns}
use Rattle.sudo_beyond.specs.private.Gathering.{listings}
use Rattle.sudo_beyond.proofs.size.Size.of.Goals as goal

pub returns-clause-size : goal.returns-clause-size
returns-clause-size c =
    let p = c.args.p.now in
    let all : c.push_commands.new.cmnds.items ≡ commands p =
    c.in_ok-push_commands.ensures.commands ∙ ap (λ (xs : List Cmnd). xs ++ commands p) c.new-cmnds.ensures.items in
    let listed : c.in_ok-listed.listed.items ≡ listings (commands p) =
    c.in_ok-listed.ensures ∙ ap (λ (xs : List Cmnd). listings xs) (c.deref.ensures.value ∙ all) in
    let moments : c.push_turns.new.moments.items ≡ turns (rules_in p) =
    c.in_ok-push_turns.ensures ∙ ap (λ (xs : List ℕ). xs ++ turns (rules_in p)) c.new-moments.ensures.items in
    record {
      commands_are = ap (λ (xs : List Cmnd). length xs) (c.as_slice.ensures.value ∙ all);
      listings_are = ap (λ (xs : List Run). length xs) (c.as_slice-2.ensures.value ∙ listed);
      turns_are = ap (λ (xs : List ℕ). length xs) (c.as_slice-3.ensures.value ∙ moments);
    }

use Rattle.std.proofs.Common.{◌≡◌, ◌∙◌, arith, false, sym}
use Rattle.std.proofs.lemmas.Grind.{common_steps}
use Rattle.roster.specs.Rules.{are_known}
use Rattle.roster.proofs.Texts.{known_of_draft}
use Rattle.roster.proofs.read.tested.Goals as goal

pub returns-then-not-known-clause-least : goal.returns-then-not-known-clause-least
returns-then-not-known-clause-least c =
    let unknown : are_known c.args.draft.now ≡ false =
    known_of_draft c.args.content.now c.args.draft.now c.requires.content ∙ sym c.in_ok-known.ensures ∙ c.if-not-known.true in
    grind (arith, common_steps)

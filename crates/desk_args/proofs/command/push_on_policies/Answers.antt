use Rattle.std.proofs.Common.{◌≡◌, ◌++◌, List, OnOk, [], ◌∷◌, append_assoc, refl, subst}
use Rattle.clap.specs.Words.{App}
use Rattle.desk_args.specs.private.Commands.{AreCommands}
use Rattle.desk_args.proofs.command.push_on_policies.Goals as goal

-- Three items that are added one after the other are added at once.
three_more : (apps : List App) (a b c : App) → apps ++ a ∷ [] ++ b ∷ [] ++ c ∷ [] ≡ apps ++ (a ∷ b ∷ c ∷ [])
three_more apps a b c = rw (append_assoc (apps ++ a ∷ []) (b ∷ []) (c ∷ []), append_assoc apps (a ∷ []) (b ∷ c ∷ [])) refl

pub returns : goal.returns
returns c apps are =
    let one = c.in_ok-push_made.ensures apps _ are c.check.ensures in
    let two = c.in_ok-push_made-2.ensures _ _ one c.decide.ensures in
    subst (λ all. OnOk c.push_made-3.result (AreCommands c.push_made-3.new.commands.items all)) (three_more apps _ _ _)
    (c.push_made-3.ensures _ _ two c.beyond.ensures)

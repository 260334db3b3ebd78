use Rattle.std.proofs.Common.{◌≡◌, ◌++◌, List, OnOk, [], ◌∷◌, append_assoc, refl, subst}
use Rattle.clap.specs.Words.{App}
use Rattle.desk_args.specs.private.Commands.{AreCommands}
use Rattle.desk_args.proofs.command.push_on_desks.Goals as goal

-- Five items that are added one after the other are added at once.
five_more : (apps : List App) (a b c d e : App)
    → apps ++ a ∷ [] ++ b ∷ [] ++ c ∷ [] ++ d ∷ [] ++ e ∷ [] ≡ apps ++ (a ∷ b ∷ c ∷ d ∷ e ∷ [])
five_more apps a b c d e =
    rw (
      append_assoc (apps ++ a ∷ [] ++ b ∷ [] ++ c ∷ []) (d ∷ []) (e ∷ []),
      append_assoc (apps ++ a ∷ [] ++ b ∷ []) (c ∷ []) (d ∷ e ∷ []),
      append_assoc (apps ++ a ∷ []) (b ∷ []) (c ∷ d ∷ e ∷ []),
      append_assoc apps (a ∷ []) (b ∷ c ∷ d ∷ e ∷ []),
    ) refl

pub returns : goal.returns
returns c apps are =
    let one = c.in_ok-push_made.ensures apps _ are c.deliver.ensures in
    let two = c.in_ok-push_made-2.ensures _ _ one c.print.ensures in
    let three = c.in_ok-push_made-3.ensures _ _ two c.review.ensures in
    let four = c.in_ok-push_made-4.ensures _ _ three c.rebuild.ensures in
    subst (λ all. OnOk c.push_made-5.result (AreCommands c.push_made-5.new.commands.items all)) (five_more apps _ _ _ _ _)
    (c.push_made-5.ensures _ _ four c.serve.ensures)

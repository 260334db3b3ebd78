use Rattle.std.proofs.Common.{◌++◌, ◌∙◌, List, ℕ, ap}
use Rattle.std.specs.Prelude.{codes, string_bytes}
use Rattle.sudo_words.specs.Command.{cmnd_text}
use Rattle.grants.specs.private.Lines.{when}
use Rattle.grants.proofs.WrittenLines.{line_is}
use Rattle.grants.proofs.lines.push_line.Goals as goal

pub returns : goal.returns
returns c =
    let window = c.args.window.now in
    let cmnd = c.args.cmnd.now in
    c.in_ok-push_str.ensures.bytes
    ∙ ap (λ (t : List ℕ). t ++ codes "\n") c.in_ok-push_command.ensures
    ∙ ap (λ (t : List ℕ). (t ++ cmnd_text cmnd) ++ codes "\n") c.in_ok-push_when.ensures
    ∙ ap (λ (t : List ℕ). ((t ++ when window.start window.end) ++ cmnd_text cmnd) ++ codes "\n") c.in_ok-push_who.ensures
    ∙ line_is (string_bytes c.args.text.now) c.args.host.now c.args.request.now window.start window.end cmnd

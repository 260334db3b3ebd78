use Rattle.std.proofs.Common.{◌≡◌, ◌++◌, map, take}
use Rattle.std.specs.Prelude.{string_bytes}
use Rattle.grants.specs.GrantRules.{grant_rule}
use Rattle.grants.specs.private.Lines.{lines_text}
use Rattle.grants.proofs.lines.push_commands.Given as goal

abbrev pub invariant-loop-cmnd : goal.invariant-loop-cmnd
invariant-loop-cmnd l =
    string_bytes l.text ≡ string_bytes l.fn.text ++ lines_text (map (grant_rule l.host l.request l.window.start l.window.end) (take l.cmnd-index l.cmnd-items))

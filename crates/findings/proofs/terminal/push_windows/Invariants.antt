use Rattle.std.proofs.Common.{◌≡◌, ◌++◌, None, drop, string_bytes}
use Rattle.std.specs.Prelude.{option_map}
use Rattle.findings.specs.Terminal.{window_lines}
use Rattle.findings.proofs.terminal.push_windows.Given as goal

abbrev pub invariant-loop-window : goal.invariant-loop-window
invariant-loop-window l =
    string_bytes l.out ++ window_lines (option_map (λ h. h.now) l.above) (drop l.window-index l.list)
    ≡ string_bytes l.fn.out ++ window_lines None l.list

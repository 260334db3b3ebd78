use Rattle.std.proofs.Common.{◌≡◌, ◌++◌, true, map, drop, string_bytes}
use Rattle.findings.specs.Document.{host_window_json, joined}
use Rattle.findings.proofs.document.push_host_windows.Given as goal

abbrev pub invariant-loop-window : goal.invariant-loop-window
invariant-loop-window l =
    string_bytes l.out ++ joined l.is_first (map host_window_json (drop l.window-index l.list))
    ≡ string_bytes l.fn.out ++ joined true (map host_window_json l.list)

use Rattle.std.proofs.Common.{◌++◌, ◌+◌, Some, None, drop, string_bytes, refl}
use Rattle.findings.specs.Terminal.{window_lines}
use Rattle.findings.proofs.JoinedLemmas.{drop_next}
use Rattle.findings.proofs.LineLemmas.{window_more}
use Rattle.findings.proofs.terminal.push_windows.Goals as goal

pub loop-window-preserved : goal.loop-window-preserved
loop-window-preserved c =
    let l = c.loop-window in
    let ws = c.args.list.now in
    let i = l.window-index in
    let w = c.window-item.result in
    window_more _ (Some w.host) (string_bytes l.out) (string_bytes c.push_host.new.out) (string_bytes c.push_host_window.new.out)
    (string_bytes c.args.out.now ++ window_lines None ws) w (drop i ws) (drop (i + 1) ws) l.invariant
    (drop_next ws i w c.loop-window-test.true c.window-item.is) refl c.in_ok-push_host.ensures c.in_ok-push_host_window.ensures

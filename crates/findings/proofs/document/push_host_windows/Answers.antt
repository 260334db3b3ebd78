use Rattle.std.proofs.Common.{◌++◌, true, map, string_bytes}
use Rattle.findings.specs.Document.{host_window_json, joined}
use Rattle.findings.proofs.JoinedLemmas.{joined_more}
use Rattle.findings.proofs.document.push_host_windows.Goals as goal

pub loop-window-preserved : goal.loop-window-preserved
loop-window-preserved c =
    let l = c.loop-window in
    joined_more host_window_json c.args.list.now l.window-index l.is_first (string_bytes l.out)
    (string_bytes c.args.out.now ++ joined true (map host_window_json c.args.list.now)) l.invariant c.window-item.result
    (string_bytes c.push_comma.new.out) (string_bytes c.push_host_window.new.out) c.loop-window-test.true c.window-item.is
    c.in_ok-push_comma.ensures c.in_ok-push_host_window.ensures

use Rattle.std.proofs.Common.{◌≡◌, ◌++◌, true, map, drop, string_bytes}
use Rattle.findings.specs.Terminal.{beside_heading, headed, wrapped}
use Rattle.findings.proofs.columns.push_line.Given as goal

abbrev pub invariant-loop-word : goal.invariant-loop-word
invariant-loop-word l =
    string_bytes l.out ++ wrapped l.place.room l.place.is_first (map (λ w. w.now) (drop l.word-index l.words))
    ≡ (string_bytes l.fn.out ++ headed l.heading) ++ wrapped beside_heading true (map (λ w. w.now) l.words)

use Rattle.std.proofs.Common.{◌≡◌, map, drop, string_bytes}
use Rattle.findings.specs.Asking.{Heard, hear_all, nothing_heard}
use Rattle.findings.specs.private.Hearing.{Hears}
use Rattle.findings.proofs.words.asked_by.Given as goal

-- What is heard so far, with the rest of the words, is what all words say.
abbrev pub invariant-loop-word : goal.invariant-loop-word
invariant-loop-word l =
    (h : Heard) × Hears l.said h × (hear_all h (map string_bytes (drop l.word-index l.words)) ≡ hear_all nothing_heard (map string_bytes l.words))

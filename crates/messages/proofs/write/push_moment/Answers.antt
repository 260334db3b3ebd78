use Rattle.std.proofs.Common.{◌++◌, List, ℕ, ap, ◌∙◌, string_bytes}
use Rattle.std.specs.Prelude.{codes}
use Rattle.messages.specs.Wire.{moment_text}
use Rattle.messages.proofs.PlainTexts.{escaped_moment, between_quotes, last_pushed}
use Rattle.messages.proofs.write.push_moment.Goals as goal

pub returns : goal.returns
returns c =
    let quote = λ (s : List ℕ). s ++ codes "\"" in
    let front = string_bytes c.args.out.now ++ c.args.head.now in
    let opened = c.in_ok-push_str-2.ensures.bytes ∙ ap quote c.in_ok-push_str.ensures.bytes in
    let stamped = c.in_ok-push_stamp.ensures ∙ ap (λ (s : List ℕ). s ++ moment_text c.args.moment) opened in
    last_pushed c.push_str-3.result _ (string_bytes c.push_stamp.new.out) (codes "\"") _ c.push_str-3.ensures.bytes
    (ap quote stamped ∙ between_quotes front (moment_text c.args.moment) (escaped_moment c.args.moment c.requires))

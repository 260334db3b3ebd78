use Rattle.std.proofs.Common.{◌++◌, List, string_bytes, ap, ◌∙◌}
use Rattle.std.specs.List.{flat_map}
use Rattle.messages.specs.Fields.{RequestFields, VerdictFields}
use Rattle.roster.specs.Fields.{Reading}
use Rattle.findings.specs.Judging.{effect_on}
use Rattle.findings.specs.Terminal.{request_lines, verdict_line}
use Rattle.findings.proofs.LineLemmas.{lines_of, lines_written}
use Rattle.findings.proofs.terminal.push_entry.Goals as goal

pub returns : goal.returns
returns c =
    let f = c.args.roster.now.says in
    let e = c.args.entry.now in
    let until = c.args.until.now in
    let j = c.in_ok-judged.judged in
    let g = j.roster.now.says in
    let d = j.entry.now in
    let same = c.in_ok-judged.ensures.same in
    let denial = c.in_ok-denial.denial in
    let old = string_bytes c.args.out.now in
    let one = string_bytes c.push_status.new.out in
    let two = string_bytes c.push_requests.new.out in
    let three = string_bytes c.push_verdicts.new.out in
    let new = string_bytes c.push_lacks.new.out in
    lines_written f e until j.complete denial old one two three new c.in_ok-judged.ensures.complete
    (lines_of until j.complete denial two three new e.about.verdicts.items f g d e (ap (λ (r : Reading). r.says) same.0) same.1 (
      c.in_ok-denial.ensures,
      c.in_ok-push_verdicts.ensures
          ∙ ap (λ (vs : List VerdictFields). two ++ flat_map (λ v. verdict_line (effect_on g d j.complete v) v) vs) c.as_slice-2.ensures.value,
      c.in_ok-push_lacks.ensures,
    ))
    c.in_ok-push_status.ensures
    (c.in_ok-push_requests.ensures ∙ ap (λ (qs : List RequestFields). one ++ flat_map request_lines qs) c.as_slice.ensures.value)

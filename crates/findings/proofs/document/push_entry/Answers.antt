use Rattle.std.proofs.Common.{◌++◌, List, string_bytes, ap, ◌∙◌}
use Rattle.messages.specs.Fields.{RequestFields, VerdictFields}
use Rattle.roster.specs.Fields.{Reading}
use Rattle.findings.specs.Document.{requests_json, verdicts_json}
use Rattle.findings.specs.Judging.{effect_on}
use Rattle.findings.proofs.PieceLemmas.{entry_written, written_of}
use Rattle.findings.proofs.document.push_entry.Goals as goal

pub returns : goal.returns
returns c =
    let f = c.args.roster.now.says in
    let e = c.args.entry.now in
    let until = c.args.until.now in
    let j = c.in_ok-judged.judged in
    let g = j.roster.now.says in
    let d = j.entry.now in
    let same = c.in_ok-judged.ensures.same in
    let denial = c.in_ok-denial.denial in
    let old = string_bytes c.args.out.now in
    let one = string_bytes c.push_status.new.out in
    let two = string_bytes c.push_requests.new.out in
    let three = string_bytes c.push_verdicts.new.out in
    let four = string_bytes c.push_lacks.new.out in
    let new = string_bytes c.push_str.new.self in
    entry_written f e until j.complete denial old one two three four new c.in_ok-judged.ensures.complete
    (written_of until j.complete denial old one two three four new e.about.verdicts.items f g d e (ap (λ (r : Reading). r.says) same.0) same.1 (
      c.in_ok-denial.ensures,
      c.in_ok-push_verdicts.ensures ∙ ap (λ (vs : List VerdictFields). two ++ verdicts_json (effect_on g d j.complete) vs) c.as_slice-2.ensures.value,
      c.in_ok-push_lacks.ensures,
    ))
    c.in_ok-push_status.ensures
    (c.in_ok-push_requests.ensures ∙ ap (λ (qs : List RequestFields). one ++ requests_json qs) c.as_slice.ensures.value)
    c.in_ok-push_str.ensures.bytes

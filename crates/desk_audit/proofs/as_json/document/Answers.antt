use Rattle.std.proofs.Common.{◌∙◌, List, subst, string_bytes}
use Rattle.std.specs.Prelude.{filter}
use Rattle.roster.specs.Fields.{Reading}
use Rattle.findings.specs.Document.{IsDocument}
use Rattle.findings.specs.Picks.{is_told}
use Rattle.findings.specs.declared.entry.AuditEntry.{AuditEntry}
use Rattle.desk_audit.proofs.as_json.document.Goals as goal

pub returns-clause-document : goal.returns-clause-document
returns-clause-document g c = λ set up lists.
    let answer = c.in_ok-audit.ensures in
    let entries = c.in_ok-audit.field-0.items in
    let pick = c.args.pick.now in
    let text = string_bytes c.in_ok-json.field-0 in
    let told = c.deref.ensures.value ∙ c.among-entries.ensures.told in
    let roster = c.roster.ensures ∙ answer.asks.settings.roster in
    record {
      entries = entries;
      audit = answer.audit set up lists;
      document = subst (λ (r : Reading). IsDocument r.says pick (filter (is_told pick) entries) text) roster
          (subst (λ (es : List AuditEntry). IsDocument c.roster.result.now.says pick es text) told c.in_ok-json.ensures);
    }

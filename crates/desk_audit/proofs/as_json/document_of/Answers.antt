use Rattle.std.proofs.Common.{◌∙◌, List, subst, string_bytes}
use Rattle.roster.specs.Fields.{Reading}
use Rattle.findings.specs.Document.{IsDocument}
use Rattle.findings.specs.Picks.{all}
use Rattle.findings.specs.declared.entry.AuditEntry.{AuditEntry}
use Rattle.findings.specs.declared.pick.Pick.{Pick}
use Rattle.desk_audit.proofs.as_json.document_of.Goals as goal

pub returns-clause-document : goal.returns-clause-document
returns-clause-document g c = λ set up lists.
    let answer = c.in_ok-entries.ensures in
    let entries = c.in_ok-entries.entries.items in
    let text = string_bytes c.in_ok-json.field-0 in
    let roster = c.roster.ensures ∙ answer.asks.settings.roster in
    record {
      entries = entries;
      of_name = answer.of_name set up lists;
      document = subst (λ (r : Reading). IsDocument r.says all entries text) roster
          (subst (λ (p : Pick). IsDocument c.roster.result.now.says p entries text) c.all.ensures
          (subst (λ (es : List AuditEntry). IsDocument c.roster.result.now.says c.all.result es text) c.deref.ensures.value c.in_ok-json.ensures));
    }

use Rattle.std.proofs.Common.{◌∙◌, List, subst, string_bytes}
use Rattle.std.specs.Prelude.{filter}
use Rattle.roster.specs.Fields.{Reading}
use Rattle.findings.specs.Document.{IsDocument}
use Rattle.findings.specs.Picks.{is_open, told_at}
use Rattle.findings.specs.declared.entry.AuditEntry.{AuditEntry}
use Rattle.findings.specs.declared.pick.Pick.{Pick}
use Rattle.desk_audit.proofs.as_json.open_document.Goals as goal

pub returns-clause-document : goal.returns-clause-document
returns-clause-document g c = λ set up lists.
    let answer = c.in_ok-audit.ensures in
    let entries = c.in_ok-audit.field-0.items in
    let at = c.args.at in
    let text = string_bytes c.in_ok-json.field-0 in
    let told = c.deref.ensures.value ∙ c.open_among-entries.ensures in
    let roster = c.roster.ensures ∙ answer.asks.settings.roster in
    record {
      entries = entries;
      audit = answer.audit set up lists;
      document = subst (λ (r : Reading). IsDocument r.says (told_at at) (filter (is_open at) entries) text) roster
          (subst (λ (p : Pick). IsDocument c.roster.result.now.says p (filter (is_open at) entries) text) c.told_at.ensures
          (subst (λ (es : List AuditEntry). IsDocument c.roster.result.now.says c.told_at.result es text) told c.in_ok-json.ensures));
    }

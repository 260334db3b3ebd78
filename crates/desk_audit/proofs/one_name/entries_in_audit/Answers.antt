use Rattle.std.proofs.Common.{List, sym, subst}
use Rattle.messages.specs.declared.request_name.RequestName.{RequestName}
use Rattle.findings.specs.declared.entry.AuditEntry.{AuditEntry}
use Rattle.desk_audit.specs.Documents.{AreOfName}
use Rattle.desk_audit.proofs.OneText.{named_entries}
use Rattle.desk_audit.proofs.one_name.entries_in_audit.Goals as goal

pub returns-clause-of_name : goal.returns-clause-of_name
returns-clause-of_name g c = λ set up lists.
    let f = c.args.desk.now.roster.says in
    let asker = c.args.asker.now in
    let no = c.args.no in
    let name : RequestName = record { by = asker; no = no } in
    subst (λ (es : List AuditEntry). AreOfName f set name es) (sym c.named_among.ensures)
    (named_entries f set asker no c.in_ok-audit.field-0.items (c.in_ok-audit.ensures.audit set up lists))

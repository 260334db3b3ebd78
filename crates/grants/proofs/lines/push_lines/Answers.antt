use Rattle.std.proofs.Common.{◌≡◌, false, sym, subst, ◌∙◌}
use Rattle.std.specs.Prelude.{IfOk, string_bytes}
use Rattle.std.proofs.lemmas.Result.{IfOk-weaker}
use Rattle.messages.specs.Fields.{IsRequest}
use Rattle.grants.specs.GrantLines.{AreAdded, rules_left}
use Rattle.grants.specs.Summaries.{Kept}
use Rattle.grants.specs.private.Lines.{may_have}
use Rattle.grants.proofs.WrittenLines.{none_written, written}
use Rattle.grants.proofs.lines.push_lines.Goals as goal

pub returns-then-may_have-clause-ok : goal.returns-then-may_have-clause-ok
returns-then-may_have-clause-ok c = λ set s.
    let host = c.args.host.now in
    let status = c.status.result in
    let old = string_bytes c.args.text.now in
    let new = string_bytes c.push_left.new.text in
    let is = subst (λ (x : Kept). IsRequest x.request) c.s.view_is c.may_have.ensures.request in
    let added = subst (λ (x : Kept). IfOk c.push_left.result (λ count. AreAdded (rules_left c.args.after host x.request status) old new count))
    c.s.view_is c.push_left.ensures.ok in
    IfOk-weaker c.push_left.result _ _ (written c.args.roster.now.says set c.args.s.now s is host c.args.after status (c.status.ensures set s) old new) added

pub returns-else-may_have-clause-ok : goal.returns-else-may_have-clause-ok
returns-else-may_have-clause-ok c = λ set s.
    let host = c.args.host.now in
    let is = subst (λ (x : Kept). IsRequest x.request) c.s.view_is c.may_have.ensures.request in
    let gone = subst (λ (x : Kept). may_have c.args.after host x.request ≡ false) c.s.view_is (sym c.may_have.ensures.value ∙ c.if-may_have.false) in
    let some = c.has_status.ensures set s in
    none_written c.args.roster.now.says set c.args.s.now s is host c.args.after some.0 some.1 gone (string_bytes c.args.text.now)

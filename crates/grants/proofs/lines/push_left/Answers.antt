use Rattle.std.proofs.Common.{◌≡◌, List, true, false, sym, ap, subst, ◌∙◌}
use Rattle.std.specs.Prelude.{IfOk, string_bytes}
use Rattle.sudo_policy.specs.declared.entry.Rule.{Rule}
use Rattle.grants.specs.GrantLines.{AreAdded, rules_left}
use Rattle.grants.specs.private.Lines.{is_left}
use Rattle.grants.specs.declared.outcome.Status.{Status}
use Rattle.grants.proofs.WrittenLines.{all_left, none_left, none_added}
use Rattle.grants.proofs.lines.push_left.Goals as goal

pub returns-in-Granted-clause-ok : goal.returns-in-Granted-clause-ok
returns-in-Granted-clause-ok c =
    let host = c.args.host.now in
    let q = c.args.request.now in
    let w = c.in-Granted.window in
    let old = string_bytes c.args.text.now in
    let new = string_bytes c.push_whole.new.text in
    let left : is_left c.args.after.now w.end ≡ true = sym c.is_left.ensures ∙ c.if-is_left.true in
    let all = ap (λ (s : Status). rules_left c.args.after.now host q s) c.in-Granted.is ∙ all_left host q c.args.after.now w c.requires left in
    subst (λ (rules : List Rule). IfOk c.push_whole.result (λ count. AreAdded rules old new count)) (sym all) c.push_whole.ensures.ok

pub returns-in_default-clause-ok : goal.returns-in_default-clause-ok
returns-in_default-clause-ok c =
    let host = c.args.host.now in
    let q = c.args.request.now in
    let w = c.in-Granted.window in
    let old = string_bytes c.args.text.now in
    let over : is_left c.args.after.now w.end ≡ false = sym c.is_left.ensures ∙ c.if-is_left.false in
    let none = ap (λ (s : Status). rules_left c.args.after.now host q s) c.in-Granted.is ∙ none_left host q c.args.after.now w c.requires over in
    subst (λ (rules : List Rule). AreAdded rules old old 0) (sym none) (none_added old)

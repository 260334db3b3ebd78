use Rattle.std.proofs.Common.{◌≡◌, List, false, sym, subst, ◌∙◌}
use Rattle.sudo_policy.specs.declared.entry.Entry.{Entry}
use Rattle.sudo_policy.specs.Alias.{item_alias, user_def, user_defs, is_defined}
use Rattle.sudo_policy.proofs.Growing.{lacks}
use Rattle.sudo_policy.proofs.policy.Policy.user_alias.Goals as goal

pub returns-in_err-alias : goal.returns-in_err-alias
returns-in_err-alias c =
    let es = c.self.inside.draft.entries.items in
    let name = c.args.name.now in
    let none : is_defined (user_defs es) name ≡ false =
    lacks item_alias user_def es c.self.inside.draft.scope.users name c.self.invariant.scope.users (sym c.get.ensures ∙ c.in_err-alias.was) in
    rw c.from_residual.ensures (subst (λ (xs : List Entry). is_defined (user_defs xs) name ≡ false) c.self.view_is none)

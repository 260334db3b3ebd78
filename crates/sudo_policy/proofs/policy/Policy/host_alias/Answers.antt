use Rattle.std.proofs.Common.{◌≡◌, ◌<◌, List, false, length, get_or, sym, ap, subst, ◌∙◌}
use Rattle.sudo_policy.specs.declared.entry.Entry.{Entry}
use Rattle.sudo_policy.specs.Alias.{DefinedAt, item_alias, host_def, host_defs, is_defined}
use Rattle.sudo_policy.proofs.Growing.{defined_there, lacks}
use Rattle.sudo_policy.proofs.policy.Policy.host_alias.Goals as goal

pub returns-in_err-alias : goal.returns-in_err-alias
returns-in_err-alias c =
    let es = c.self.inside.draft.entries.items in
    let name = c.args.name.now in
    let none : is_defined (host_defs es) name ≡ false =
    lacks item_alias host_def es c.self.inside.draft.scope.hosts name c.self.invariant.scope.hosts (sym c.get.ensures ∙ c.in_err-alias.was) in
    rw c.from_residual.ensures (subst (λ (xs : List Entry). is_defined (host_defs xs) name ≡ false) c.self.view_is none)

pub returns-in-Some-HostAlias : goal.returns-in-Some-HostAlias
returns-in-Some-HostAlias c =
    let es = c.self.inside.draft.entries.items in
    let name = c.args.name.now in
    let arm = c.in-Some-HostAlias in
    let entry = arm.field-0.now in
    let place = c.in_ok-alias.alias.place in
    let within = subst (λ (xs : List Entry). place < length xs) c.deref.ensures.value arm.ensures.lookup.3.0 in
    let is = subst (λ (xs : List Entry). entry ≡ get_or xs place entry) c.deref.ensures.value arm.ensures.lookup.1 in
    let there : DefinedAt host_def es place name arm.list =
    defined_there item_alias host_def es c.self.inside.draft.scope.hosts name c.in_ok-alias.alias entry arm.field-0-0 arm.list
    c.self.invariant.scope.hosts (sym c.get.ensures ∙ c.in_ok-alias.was) within is (ap host_def arm.field-0-is) in
    rw c.as_slice.ensures (subst (λ (xs : List Entry). DefinedAt host_def xs place name arm.list) c.self.view_is there)

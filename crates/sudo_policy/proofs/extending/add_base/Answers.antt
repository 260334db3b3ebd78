use Rattle.std.proofs.Common.{◌≡◌, ◌<◌, ℕ, length, get_or, List, [], ◌∷◌, ◌++◌, ◌+◌, take, drop, ap, sym, subst, ◌∙◌}
use Rattle.std.proofs.lemmas.Result.{err_from_is_err_and}
use Rattle.std.proofs.lemmas.List.{take_more, take-append-drop}
use Rattle.sudo_policy.specs.declared.entry.Entry.{Entry}
use Rattle.sudo_policy.specs.declared.fault.LineFault.TheVariants as fault
use Rattle.sudo_policy.specs.Policy.{IsEntry, IsPolicy}
use Rattle.std.specs.List.{AllByRecursion}
use Rattle.sudo_policy.proofs.Printed.{each_at}
use Rattle.sudo_policy.proofs.PolicyFronts.{policy_front}
use Rattle.sudo_policy.proofs.extending.add_base.Goals as goal

-- the entries so far, and a copy of the next one
copied_more : (es seen : List Entry) (i : ℕ) (item copy : Entry) → i < length es
    → item ≡ get_or es i item → copy ≡ item → seen ≡ take i es → take (i + 1) es ≡ seen ++ copy ∷ []
copied_more es seen i item copy within is same seen_is =
    take_more es i item within
    ∙ ap (λ (e : Entry). take i es ++ e ∷ []) (sym is ∙ sym same)
    ∙ ap (λ (xs : List Entry). xs ++ copy ∷ []) (sym seen_is)

pub add-requires-clause-entry : goal.add-requires-clause-entry
add-requires-clause-entry c =
    let each = subst (AllByRecursion IsEntry) (sym c.entries-entry-items.ensures.value) c.entries-entry-items.ensures.policy.each in
    let at = each_at IsEntry c.entries-entry-items.result.now c.loop-entry.entry-index c.entry-item.result each c.loop-entry-test.true in
    subst IsEntry (sym (c.in_ok-clone.ensures.cases ∙ c.entry-item.is)) at

pub loop-entry-preserved : goal.loop-entry-preserved
loop-entry-preserved c =
    let added = c.in_ok-add.ensures.found in
    let more = copied_more c.entries-entry-items.result.now c.loop-entry.draft.entries.items c.loop-entry.entry-index c.entry-item.result c.in_ok-clone.field-0
    c.loop-entry-test.true c.entry-item.is c.in_ok-clone.ensures.cases c.loop-entry.invariant.entries in
    record { draft = added.draft; entries = added.entries ∙ sym more }

pub returns-in_err-add-clause-only : goal.returns-in_err-add-clause-only
returns-in_err-add-clause-only c =
    let es = c.entries-entry-items.result.now in
    let i = c.loop-entry.entry-index in
    let policy : IsPolicy es = subst IsPolicy (sym c.entries-entry-items.ensures.value) c.entries-entry-items.ensures.policy in
    let front : IsPolicy (take (i + 1) es) = policy_front (take (i + 1) es) (drop (i + 1) es) (subst IsPolicy (sym (take-append-drop (i + 1) es)) policy) in
    let more = copied_more es c.loop-entry.draft.entries.items i c.entry-item.result c.in_ok-clone.field-0
    c.loop-entry-test.true c.entry-item.is c.in_ok-clone.ensures.cases c.loop-entry.invariant.entries in
    let p = err_from_is_err_and c.from_residual-in_err-add.result c.from_residual-in_err-add.ensures.1 in
    let memory : c.in_err-add.field-0.0 ≡ fault.NoMemory = c.in_err-add.ensures.only (subst IsPolicy more front) in
    rw (p.1, p.2) memory

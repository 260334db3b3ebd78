use Rattle.std.proofs.Common.{◌≡◌, ℕ, ℤ, List, map, ap, subst, ◌∙◌}
use Rattle.std.specs.List.{list_any}
use Rattle.std.specs.List.Sorted.{IsPermutation}
use Rattle.store_opening.specs.private.Names.{differs, is_at, name_of}
use Rattle.store_opening.proofs.IndexLemmas.{asked_permuted, asks_by, disputes_by}
use Rattle.store_opening.proofs.known.Known.new.Goals as goal

pub returns-clause-index : goal.returns-clause-index
returns-clause-index c =
    let all = c.args.all.now in
    let asked = c.texts_in_order-asked.result.items in
    let found = c.in_ok-disputed.field-0.items in
    let bare = c.in_ok-names_of.field-0.items in
    let are = asked_permuted all c.in_ok-all_told.field-0.items asked c.texts_in_order-asked.ensures.same c.in_ok-all_told.ensures in
    let bare_is : bare ≡ map name_of asked = c.in_ok-names_of.ensures ∙ ap (map name_of) c.as_slice-2.ensures.value in
    let differ : (asker : List ℕ) (number : ℤ) → list_any (is_at asker number) found ≡ differs asker number asked =
    λ asker number. c.in_ok-disputed.ensures asker number ∙ ap (differs asker number) c.as_slice.ensures.value in
    record {
      names_rise = c.in_order-names.ensures.sorted;
      disputed_rise = c.in_order-disputed.ensures.sorted;
      asks = asks_by all asked are c.in_order-names.result.items
          (subst (λ l. IsPermutation l c.in_order-names.result.items) bare_is c.in_order-names.ensures.same);
      disputes = disputes_by all asked are c.texts_in_order-asked.ensures.sorted found c.in_order-disputed.result.items differ c.in_order-disputed.ensures.same;
    }

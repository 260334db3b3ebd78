-- Which words are `ALL`, names and aliases.
use Rattle.std.proofs.Common.{◌≡◌, ℕ, Bool, true, false, List, refl, sym, ap, subst, ◌∙◌}
use Rattle.std.specs.Prelude.{codes}
use Rattle.std.proofs.lemmas.Bool.{false≢true}
use Rattle.sudo_words.specs.Word.{is_alias_name, is_reserved}
use Rattle.sudo_policy.specs.declared.entry.Item.{Item}
use Rattle.sudo_policy.specs.declared.entry.Item.TheVariants as items
use Rattle.sudo_policy.specs.Printing.{item_text}
use Rattle.sudo_policy.specs.Policy.{IsItem}
use Rattle.sudo_syntax.specs.private.Fronts.{begins_upper}

-- `ALL` is not an alias
pub all_reserved : is_alias_name (codes "ALL") ≡ true → ⊥
unfolding is_reserved
all_reserved h = false≢true h

-- nor a name
pub item_all : (has : List ℕ → Bool) → ((w : List ℕ) → has w ≡ true → begins_upper w ≡ false)
    → (i : Item (List ℕ)) → IsItem has i → codes "ALL" ≡ item_text i → items.All ≡ i
item_all has low items.All is e = refl
item_all has low (items.Name w) is e = absurd (false≢true (sym (low w is) ∙ ap begins_upper (sym e)))
item_all has low (items.Alias w) is e = absurd (all_reserved (subst (λ (x : List ℕ). is_alias_name x ≡ true) (sym e) is))

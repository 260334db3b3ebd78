use Rattle.std.proofs.Common.{◌≡◌, true, List, ℕ, ap, refl}
use Rattle.std.specs.Ordering.{is_lt}
use Rattle.std.specs.declared.cmp.Ordering.{Ordering}
use Rattle.std.specs.declared.cmp.Ordering.TheVariants.{Less, Equal, Greater}
use Rattle.sudo_words.specs.Lists.{text_order}
use Rattle.messages.proofs.NameOrder.{less_from_lower, lower_from_less}
use Rattle.review.proofs.report_laws.orders_agree.Goals as goal

less_from : (o : Ordering) → is_lt o ≡ true → o ≡ Less
less_from Less lt = refl
less_from Equal lt = absurd cc
less_from Greater lt = absurd cc

pub returns-clause-names : goal.returns-clause-names
returns-clause-names c = λ a b. (lower_from_less a b, less_from_lower a b)

pub returns-clause-texts : goal.returns-clause-texts
returns-clause-texts c = λ (a b : List ℕ). ((λ less. ap is_lt less), less_from (text_order a b))

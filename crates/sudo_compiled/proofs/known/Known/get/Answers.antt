use Rattle.std.proofs.Common.{◌≡◌, Bor, List, ℕ, Option, None, Some, refl, ap, ◌∙◌}
use Rattle.std.specs.HashMap.{get_by_text}
use Rattle.std.specs.Option.{option_map, option_copied}
use Rattle.sudo_compiled.proofs.known.Known.get.Goals as goal

lent_map : {X Y : Type 0} (f : X → Y) (o : Option (Bor X)) → option_map (λ x. f x.now) o ≡ option_map f (option_copied o)
lent_map f None = refl
lent_map f (Some x) = refl

pub returns : goal.returns
returns g c =
    lent_map (λ x. x.value.items) c.get.result ∙ ap (λ (o : _). option_map (λ x. x.value.items) o)
    (c.get.ensures.value ∙ ap (λ (bs : List ℕ). get_by_text c.args.self.now.lists bs) c.as_str.ensures.value)

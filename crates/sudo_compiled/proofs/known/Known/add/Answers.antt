use Rattle.std.proofs.Common.{◌≡◌, List, ℕ, cond, Some, ap, ◌∙◌}
use Rattle.std.specs.Option.{option_map}
use Rattle.std.specs.Prelude.{string_bytes}
use Rattle.std.specs.HashMap.{get_by_text}
use Rattle.std.specs.Str.{bytes_eq}
use Rattle.std.proofs.lemmas.Map.Text.{hash_map_updates_text}
use Rattle.sudo_compiled.specs.private.Writing.{list_at}
use Rattle.sudo_compiled.proofs.WrittenLists.{map_cond}
use Rattle.sudo_compiled.proofs.known.Known.add.Goals as goal

pub returns : goal.returns
returns g c = λ n.
    let old = c.args.self.now in
    let name = c.args.name.now in
    let list = c.in_ok-list.list in
    let named : string_bytes c.in_ok-from_str.field-0 ≡ name = c.in_ok-from_str.ensures.ok ∙ c.as_str.ensures.value in
    ap (λ (o : _). option_map (λ x. x.value.items) o)
    (hash_map_updates_text (string_bytes c.in_ok-from_str.field-0) old.lists c.insert.new.self _ c.in_ok-insert.ensures.updates n)
    ∙ map_cond (λ x. x.value.items) (bytes_eq (string_bytes c.in_ok-from_str.field-0) n) list (get_by_text old.lists n)
    ∙ ap (λ (bs : List ℕ). cond (bytes_eq bs n) (Some list.value.items) (list_at old n)) named
    ∙ ap (λ (v : _). cond (bytes_eq name n) (Some v.items) (list_at old n)) c.in_ok-list.ensures.ok

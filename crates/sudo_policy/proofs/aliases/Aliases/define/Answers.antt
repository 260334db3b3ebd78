use Rattle.std.proofs.Common.{◌≡◌, ◌+◌, List, ℕ, Some, ap, ◌∙◌, refl, arith}
use Rattle.std.specs.Prelude.{string_bytes}
use Rattle.std.specs.Map.{update}
use Rattle.std.specs.Str.{bytes_eq}
use Rattle.std.proofs.lemmas.Map.Text.{hash_map_updates_text}
use Rattle.sudo_policy.specs.declared.aliases.Alias.{Alias}
use Rattle.sudo_policy.specs.Alias.{depth_of}
use Rattle.sudo_policy.specs.private.Measures.{alias_at, depth_in}
use Rattle.sudo_policy.proofs.aliases.Aliases.define.Goals as goal

pub returns-clause-found : goal.returns-clause-found
returns-clause-found g c =
    let of = g.T.Aliased.alias_of in
    let old = c.args.self.now in
    let name = c.args.name.now in
    let list = c.args.list.now in
    let found = c.in_ok-measure.ensures.found in
    let measure = c.in_ok-measure.measure in
    let alias : Alias = record { place = c.args.place; measure = record { weight = measure.weight; depth = measure.depth + 1 } } in
    let named : string_bytes c.in_ok-from_str.field-0 ≡ name = c.in_ok-from_str.ensures.ok ∙ c.as_str.ensures.value in
    let deep : measure.depth + 1 ≡ depth_of of (depth_in old) list = omega (arith, found.1.depth) in
    record {
      definable = found.0;
      alias = alias;
      kept = record {
        place_is = refl;
        weight = found.1.weight;
        depth = deep;
      };
      updates = λ n.
          hash_map_updates_text (string_bytes c.in_ok-from_str.field-0) old.known c.insert.new.self _ c.in_ok-insert.ensures.updates n
          ∙ ap (λ (bs : List ℕ). update bytes_eq (alias_at old) bs (Some alias) n) named;
    }

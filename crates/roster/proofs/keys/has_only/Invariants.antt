use Rattle.std.proofs.Common.{◌≡◌}
use Rattle.std.specs.List.{list_any}
use Rattle.std.specs.Str.{bytes_eq}
use Rattle.toml.specs.View.{members_view}
use Rattle.roster.specs.Document.{each_key}
use Rattle.roster.proofs.keys.has_only.Given as goal

abbrev pub invariant-loop-key : goal.invariant-loop-key
invariant-loop-key l =
    each_key (λ k. list_any (λ w. bytes_eq w.now k) l.keys) (members_view l.key-iterator)
    ≡ each_key (λ k. list_any (λ w. bytes_eq w.now k) l.keys) (members_view l.table.entries)

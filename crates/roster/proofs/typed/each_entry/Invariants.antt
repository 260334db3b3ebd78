use Rattle.std.proofs.Common.{◌≡◌, drop}
use Rattle.toml.specs.View.{items_view}
use Rattle.roster.specs.Document.{each_item, duty_entry}
use Rattle.roster.proofs.Loop.{with_front}
use Rattle.roster.proofs.typed.each_entry.Given as goal

abbrev pub invariant-loop-value : goal.invariant-loop-value
invariant-loop-value l =
    with_front l.entries.items (each_item duty_entry (items_view (drop l.value-index l.values))) ≡ each_item duty_entry (items_view l.values)

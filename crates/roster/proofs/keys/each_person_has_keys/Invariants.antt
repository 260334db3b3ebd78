use Rattle.std.proofs.Common.{◌≡◌}
use Rattle.toml.specs.View.{members_view}
use Rattle.roster.specs.Document.{each_value, have_entry_keys}
use Rattle.roster.proofs.keys.each_person_has_keys.Given as goal

abbrev pub invariant-loop-key : goal.invariant-loop-key
invariant-loop-key l = each_value have_entry_keys (members_view l._key-iterator) ≡ each_value have_entry_keys (members_view l.table.entries)

use Rattle.std.proofs.Common.{◌∙◌}
use Rattle.toml.specs.View.{table_view}
use Rattle.roster.proofs.KeyLemmas.{each_key_same, entry_keys}
use Rattle.roster.proofs.keys.has_only_entry_keys.Goals as goal

pub returns : goal.returns
returns c = c.has_only.ensures ∙ each_key_same _ _ entry_keys (table_view c.args.table.now)

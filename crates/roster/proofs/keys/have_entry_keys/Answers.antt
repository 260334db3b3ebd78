use Rattle.std.proofs.Common.{List, ◌∙◌, sym, ap}
use Rattle.toml.specs.View.{view, items_view}
use Rattle.toml.specs.declared.value.Value.{Value}
use Rattle.toml.proofs.Views.{view-Array}
use Rattle.roster.specs.Document.{each_one, has_entry_keys, have_entry_keys}
use Rattle.roster.proofs.KeyLemmas.{each_one_all}
use Rattle.roster.proofs.keys.have_entry_keys.Goals as goal

pub returns-in-Array : goal.returns-in-Array
returns-in-Array c =
    c.each_entry_has_keys.ensures ∙ each_one_all has_entry_keys c.deref.result.now
    ∙ ap (λ (vs : List Value). each_one has_entry_keys (items_view vs)) c.deref.ensures.value
    ∙ ap have_entry_keys (sym (view-Array c.in-Array.values)) ∙ ap (λ (v : Value). have_entry_keys (view v)) (sym c.in-Array.is)

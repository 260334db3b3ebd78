use Rattle.std.proofs.Common.{◌≡◌, ◌∙◌, true, sym}
use Rattle.std.proofs.lemmas.Result.{err_from_is_err_and}
use Rattle.toml.specs.View.{table_view}
use Rattle.roster.specs.Document.{has_known_keys}
use Rattle.roster.proofs.FaultLemmas.{of_wrong_type}
use Rattle.roster.proofs.read.content_by_document.Goals as goal

pub returns-in_err-draft-clause-least : goal.returns-in_err-draft-clause-least
returns-in_err-draft-clause-least c =
    let p = err_from_is_err_and c.from_residual.result c.from_residual.ensures.1 in
    let known : has_known_keys (table_view c.args.table.now) ≡ true = sym c.has_known_keys.ensures ∙ c.if-not-has_known_keys.false in
    rw (p.1, p.2) (λ n.
    let h = c.in_err-draft.ensures.reads n in
    rw h.0 (of_wrong_type c.args.text.now (table_view c.args.table.now) c.requires known h.1))

pub content_by_draft-requires-clause-draft : goal.content_by_draft-requires-clause-draft
content_by_draft-requires-clause-draft c = record {
  document = table_view c.args.table.now;
  toml = c.requires;
  keys = sym c.has_known_keys.ensures ∙ c.if-not-has_known_keys.false;
  types = c.in_ok-draft.ensures.reads;
}

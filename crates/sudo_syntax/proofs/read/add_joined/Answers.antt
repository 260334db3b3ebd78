use Rattle.std.proofs.Common.{◌≡◌, [], List, length, refl, sym, ap, subst, ◌∙◌, rules}
use Rattle.std.proofs.lemmas.List.{append-nil, nil_from_length}
use Rattle.std.proofs.lemmas.Result.{err_from_is_err_and}
use Rattle.sudo_policy.specs.Lex.{Tok, Lexes}
use Rattle.sudo_syntax.specs.private.Tokens.{toks}
use Rattle.sudo_policy.specs.Spelling.{SpellsEntries}
use Rattle.sudo_syntax.proofs.EntryLemmas.{tree_from}
use Rattle.sudo_syntax.proofs.TreeForms.{tree_entries}
use Rattle.sudo_syntax.proofs.read.add_joined.Goals as goal

pub returns-then-is_empty-clause-found : goal.returns-then-is_empty-clause-found
returns-then-is_empty-clause-found c =
    let few : length c.in_ok-tokens.tokens.items ≡ 0 = search rules in
    let bare = ap toks (nil_from_length c.in_ok-tokens.tokens.items few) in (
      [],
      ([], subst (Lexes c.args.line.now) bare c.in_ok-tokens.ensures.found, refl),
      (λ es s. subst (λ (ts : List Tok). SpellsEntries ts es) (sym (c.in_ok-tokens.ensures.only s.0 s.1) ∙ bare) s.2),
      record { draft = c.requires; entries = sym (append-nil c.args.draft.now.entries.items) },
    )

pub returns-in_err-line-clause-only : goal.returns-in_err-line-clause-only
returns-in_err-line-clause-only c =
    let p = err_from_is_err_and c.from_residual-in_err-line.result c.from_residual-in_err-line.ensures.1 in
    let some : length c.in_ok-tokens.tokens.items ≡ 0 → ⊥ = search rules in
    rw (p.1, p.2) (λ es s policy.
    let same = sym (c.in_ok-tokens.ensures.only s.0 s.1) in
    let tree = tree_from c.in_ok-tokens.tokens.items es some (subst (λ (ts : List Tok). SpellsEntries ts es) same s.2) in
    c.in_err-line.ensures.only tree.0 (rw c.deref.ensures.value tree.1))

pub add_line-requires-clause-entries : goal.add_line-requires-clause-entries
add_line-requires-clause-entries c = tree_entries _ c.in_ok-line.line c.in_ok-line.ensures.found

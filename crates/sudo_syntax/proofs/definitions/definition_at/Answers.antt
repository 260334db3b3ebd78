use Rattle.std.proofs.Common.{◌∙◌}
use Rattle.std.proofs.lemmas.Result.{err_from_is_err_and}
use Rattle.sudo_syntax.specs.private.Tokens.{toks}
use Rattle.sudo_syntax.proofs.ListLemmas.{ends_list, behind_name, same_def}
use Rattle.sudo_syntax.proofs.definitions.definition_at.Goals as goal

pub returns-in_default-clause-only : goal.returns-in_default-clause-only
returns-in_default-clause-only g c = λ d rest ends s. absurd (c.in_default.ensures.found s.name_spaced s.spaced d.name s.next s.toks)

pub returns-in_err-name-clause-only : goal.returns-in_err-name-clause-only
returns-in_err-name-clause-only g c = λ d rest ends s.
    let p = err_from_is_err_and c.from_residual.result c.from_residual.ensures.1 in
    let at = c.in-Some.ensures.found in
    let name = behind_name _ (toks c.args.tokens.now) d rest at.0 at.1 c.in-Some.name.now (toks c.in-Some.next.now) at.2 s in
    rw (p.1, p.2) (c.in_err-name.ensures.only name.1)

pub returns-in_err-list-clause-only : goal.returns-in_err-list-clause-only
returns-in_err-list-clause-only g c = λ d rest ends s.
    let p = err_from_is_err_and c.from_residual-in_err-list.result c.from_residual-in_err-list.ensures.1 in
    let at = c.in-Some.ensures.found in
    let name = behind_name _ (toks c.args.tokens.now) d rest at.0 at.1 c.in-Some.name.now (toks c.in-Some.next.now) at.2 s in
    let list = ends_list rest ends in
    rw (p.1, p.2) (c.in_err-list.ensures.only d.list rest (c.requires rest list.0) list.1 name.2)

pub returns-clause-found : goal.returns-clause-found
returns-clause-found g c =
    let at = c.in-Some.ensures.found in
    let name = c.in_ok-name.ensures.found in
    record {
      name_spaced = at.0;
      spaced = at.1;
      next = toks c.in-Some.next.now;
      toks = rw name.0 at.2;
      name = rw name.0 name.1;
      list = c.in_ok-list.ensures.found;
    }

pub returns-clause-only : goal.returns-clause-only
returns-clause-only g c = λ d rest ends s.
    let at = c.in-Some.ensures.found in
    let name = behind_name _ (toks c.args.tokens.now) d rest at.0 at.1 c.in-Some.name.now (toks c.in-Some.next.now) at.2 s in
    let list = ends_list rest ends in
    let read = c.in_ok-list.ensures.only d.list rest (c.requires rest list.0) list.1 name.2 in
    (same_def d c.in_ok-name.name c.in_ok-list.list (c.in_ok-name.ensures.found.0 ∙ name.0) read.0, read.1)

use Rattle.std.proofs.Common.{List, sym, subst}
use Rattle.std.proofs.lemmas.Result.{err_from_is_err_and}
use Rattle.sudo_policy.specs.Lex.{Tok}
use Rattle.sudo_policy.specs.Grammar.{SpellsDates, SpellsTags, SpellsCmnd}
use Rattle.sudo_syntax.proofs.SpecLemmas.{cmnd_closes_tags, tags_close_dates, dates_close_runas, same_spec}
use Rattle.sudo_syntax.proofs.spec.CmndSpecSpelled.at.Goals as goal

pub returns-in_err-runas-clause-only : goal.returns-in_err-runas-clause-only
returns-in_err-runas-clause-only c = λ v r f h.
    let p = err_from_is_err_and c.from_residual.result c.from_residual.ensures.1 in
    rw (p.1, p.2) (c.in_err-runas.ensures.only v.runas h.after_runas
    (dates_close_runas h.after_runas h.dates h.after_dates h.tags h.after_tags v.cmnd r h.dated h.tagged h.cmnd) h.runas)

pub returns-in-Err-clause-only : goal.returns-in-Err-clause-only
returns-in-Err-clause-only c = λ v r f h.
    let first = c.in_ok-runas.ensures.only v.runas h.after_runas
    (dates_close_runas h.after_runas h.dates h.after_dates h.tags h.after_tags v.cmnd r h.dated h.tagged h.cmnd) h.runas in
    let dated = subst (λ (t : List Tok). SpellsDates t h.dates h.after_dates) (sym first.1) h.dated in
    absurd (c.in-Err.ensures.only v.not_before v.not_after h.after_dates
    (tags_close_dates h.after_dates h.tags h.after_tags v.cmnd r f h.tagged h.cmnd) (h.dates, dated, h.bounds))

pub returns-in_err-cmnd-clause-only : goal.returns-in_err-cmnd-clause-only
returns-in_err-cmnd-clause-only c = λ v r f h.
    let first = c.in_ok-runas.ensures.only v.runas h.after_runas
    (dates_close_runas h.after_runas h.dates h.after_dates h.tags h.after_tags v.cmnd r h.dated h.tagged h.cmnd) h.runas in
    let dated = subst (λ (t : List Tok). SpellsDates t h.dates h.after_dates) (sym first.1) h.dated in
    let bounds = c.in-Ok.ensures.only v.not_before v.not_after h.after_dates
    (tags_close_dates h.after_dates h.tags h.after_tags v.cmnd r f h.tagged h.cmnd) (h.dates, dated, h.bounds) in
    let tagged = subst (λ (t : List Tok). SpellsTags t h.tags h.after_tags) (sym bounds.2) h.tagged in
    let tags = c.tags_at.ensures.only v.tags h.after_tags (cmnd_closes_tags h.after_tags v.cmnd r h.cmnd) (h.tags, tagged, h.given) in
    let cmnd = subst (λ (t : List Tok). SpellsCmnd t v.cmnd r) (sym tags.1) h.cmnd in
    let p = err_from_is_err_and c.from_residual-in_err-cmnd.result c.from_residual-in_err-cmnd.ensures.1 in
    rw (p.1, p.2) (c.in_err-cmnd.ensures.only v.cmnd r f cmnd)

pub returns-clause-only : goal.returns-clause-only
returns-clause-only c = λ v r f h.
    let first = c.in_ok-runas.ensures.only v.runas h.after_runas
    (dates_close_runas h.after_runas h.dates h.after_dates h.tags h.after_tags v.cmnd r h.dated h.tagged h.cmnd) h.runas in
    let dated = subst (λ (t : List Tok). SpellsDates t h.dates h.after_dates) (sym first.1) h.dated in
    let bounds = c.in-Ok.ensures.only v.not_before v.not_after h.after_dates
    (tags_close_dates h.after_dates h.tags h.after_tags v.cmnd r f h.tagged h.cmnd) (h.dates, dated, h.bounds) in
    let tagged = subst (λ (t : List Tok). SpellsTags t h.tags h.after_tags) (sym bounds.2) h.tagged in
    let tags = c.tags_at.ensures.only v.tags h.after_tags (cmnd_closes_tags h.after_tags v.cmnd r h.cmnd) (h.tags, tagged, h.given) in
    let cmnd = subst (λ (t : List Tok). SpellsCmnd t v.cmnd r) (sym tags.1) h.cmnd in
    let last = c.in_ok-cmnd.ensures.only v.cmnd r f cmnd in
    (same_spec v _ _ _ _ _ first.0 bounds.0 bounds.1 tags.0 last.0, last.1)

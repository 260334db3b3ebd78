use Rattle.std.proofs.Common.{◌≡◌, ◌&&◌, ◌∙◌, ap, sym, subst, true, false}
use Rattle.std.proofs.lemmas.Bool.{and_parts}
use Rattle.store_opening.specs.private.Compare.{are_kept}
use Rattle.store_opening.specs.private.Judged.{ShowsContents}
use Rattle.sqlite.specs.Held.{state}
use Rattle.sqlite.specs.Effect.{Database}
use Rattle.store_schema.specs.declared.part.DeskPart.TheVariants as part
use Rattle.store_schema.specs.Shapes.{FindsPart, HasCommon}
use Rattle.store_opening.specs.private.Selecting.{ShowsRows}
use Rattle.store_opening.proofs.OpenedLemmas.{damaged_in, desk_in, other_in}
use Rattle.store_opening.proofs.ReadLemmas.{before, still}
use Rattle.store_opening.proofs.found_in.look_within.Goals as goal

pub keeps_rows-requires-clause-rests : goal.keeps_rows-requires-clause-rests
keeps_rows-requires-clause-rests g c = c.contents_in.ensures.reads.rests

pub keeps_rows-requires-clause-common : goal.keeps_rows-requires-clause-common
keeps_rows-requires-clause-common g c =
    still (λ (d : Database). HasCommon d.schema) c.contents_in.ensures.reads c.requires.common

pub keeps_rows-requires-clause-verdicts : goal.keeps_rows-requires-clause-verdicts
keeps_rows-requires-clause-verdicts g c =
    still (λ (d : Database). FindsPart d.schema part.Verdicts) c.contents_in.ensures.reads c.requires.verdicts

pub returns-in_default-clause-found : goal.returns-in_default-clause-found
returns-in_default-clause-found g c up =
    let it = c.in_ok-contents.ensures.found up in
    let first = c.contents_in.ensures.reads.was_up up in
    other_in (state g.S.Store c.args.conn.now).now (c.requires.common first)
    (c.requires.verdicts first) it.0 it.1 it.2 (subst (ShowsContents 2 it.0 it.1) c.in_default.is it.3)

pub returns-then-not-both-clause-damaged : goal.returns-then-not-both-clause-damaged
returns-then-not-both-clause-damaged g c up stray =
    let old = state g.S.Store c.args.conn.now in
    let was = c.keeps_rows.ensures.reads.was_up up in
    let first = c.contents_in.ensures.reads.was_up was in
    let it = c.in_ok-contents.ensures.found was in
    let are = subst (ShowsContents 2 it.0 it.1) c.in-Some.is it.3 in
    let rows = c.in_ok-kept.ensures.kept up in
    let shown = before (λ (d : Database). ShowsRows d rows.0 rows.1 rows.2) c.contents_in.ensures.reads was rows.3 in
    let same = rows.4 ∙ ap (λ ms. are_kept ms rows.0 rows.1 rows.2) c.as_slice.ensures.value in
    let test : (c.is_alone-alone.result && are_kept c.in-Some.contents.messages.items rows.0 rows.1 rows.2) ≡ false =
    sym (ap (λ b. c.is_alone-alone.result && b) same) ∙ sym c.if-not-both.ensures in
    damaged_in old.now (c.is_alone-alone.ensures.live first.is_open).0 (c.requires.common first) (c.requires.verdicts first) (c.requires.unmarked first)
    it.0 it.1 rows.0 rows.1 rows.2 c.is_alone-alone.result it.2 shown c.is_alone-alone.ensures.alone c.in-Some.contents are test

pub returns-clause-found : goal.returns-clause-found
returns-clause-found g c up =
    let old = state g.S.Store c.args.conn.now in
    let was = c.keeps_rows.ensures.reads.was_up up in
    let first = c.contents_in.ensures.reads.was_up was in
    let it = c.in_ok-contents.ensures.found was in
    let are = subst (ShowsContents 2 it.0 it.1) c.in-Some.is it.3 in
    let rows = c.in_ok-kept.ensures.kept up in
    let shown = before (λ (d : Database). ShowsRows d rows.0 rows.1 rows.2) c.contents_in.ensures.reads was rows.3 in
    let same = rows.4 ∙ ap (λ ms. are_kept ms rows.0 rows.1 rows.2) c.as_slice.ensures.value in
    let test : (c.is_alone-alone.result && are_kept c.in-Some.contents.messages.items rows.0 rows.1 rows.2) ≡ true =
    sym (ap (λ b. c.is_alone-alone.result && b) same) ∙ sym c.if-not-both.ensures in
    let both = and_parts _ _ test in
    desk_in old.now (c.is_alone-alone.ensures.live first.is_open).0 (c.requires.common first) (c.requires.verdicts first) (c.requires.unmarked first)
    it.0 it.1 rows.0 rows.1 rows.2 c.is_alone-alone.result it.2 shown c.is_alone-alone.ensures.alone c.in-Some.contents are both.0 both.1

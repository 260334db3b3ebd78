use Rattle.std.proofs.Common.{List, take, sym, subst}
use Rattle.std.specs.List.{Contains}
use Rattle.std.proofs.lemmas.List.{take_all}
use Rattle.std.proofs.lemmas.List.Elements.{Contains-get_or}
use Rattle.messages.specs.declared.name_row.NameRow.{NameRow}
use Rattle.sudo_decide.proofs.AnswerLemmas.{take_one_more}
use Rattle.outcomes.specs.private.ByName.{GathersRows}
use Rattle.outcomes.proofs.RowLemmas.{no_rows, none_alone, rows_gathered, shown_none}
use Rattle.outcomes.proofs.IndexLemmas.{listed_none}
use Rattle.outcomes.proofs.gathering.summaries_of.Goals as goal

pub loop-row-init : goal.loop-row-init
loop-row-init c = (
  listed_none c.args.index.now c.new-summaries.result c.new-summaries.ensures.empty,
  none_alone c.new-summaries.result c.new-summaries.ensures.ordered c.new-summaries.ensures.empty,
  λ set show. no_rows set c.new-summaries.result c.new-summaries.ensures.ordered c.new-summaries.ensures.empty,
)

pub loop-row-preserved : goal.loop-row-preserved
loop-row-preserved c = (
  c.put_row.ensures.listed c.loop-row.invariant.0,
  c.in_ok-put_row.ensures.alone c.loop-row.invariant.1,
  λ set show.
      let rows = c.args.rows.now in
      let i = c.loop-row.row-index in
      let item = c.row-item.result in
      let among : Contains rows item = subst (Contains rows) (sym c.row-item.is) (Contains-get_or rows i item c.loop-row-test.true) in
      let more = c.in_ok-put_row.ensures.rows set (take i rows) (shown_none set rows show) (show.each item among) (c.loop-row.invariant.2 set show) in
      subst (λ (seen : List NameRow). GathersRows set seen c.put_row.new.summaries) (sym (take_one_more rows i item c.loop-row-test.true c.row-item.is)) more,
)

pub returns-clause-alone : goal.returns-clause-alone
returns-clause-alone c = c.loop-row.invariant.1

pub returns-clause-listed : goal.returns-clause-listed
returns-clause-listed c = c.loop-row.invariant.0

pub returns-clause-known : goal.returns-clause-known
returns-clause-known c = λ set show.
    let rows = c.args.rows.now in
    let all = subst (λ (seen : List NameRow). GathersRows set seen c.loop-row.summaries)
    (take_all c.loop-row.row-index rows c.loop-row-test.false) (c.loop-row.invariant.2 set show) in
    rows_gathered set rows c.loop-row.summaries show all

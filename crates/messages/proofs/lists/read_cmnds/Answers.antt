use Rattle.std.proofs.Common.{◌≤◌, length, map, get_or, sym, ap, ◌∙◌, take_all, arith}
use Rattle.std.proofs.lemmas.List.{length-map, map_push}
use Rattle.std.proofs.lemmas.List.Elements.{All-get_or, All-same, All-push}
use Rattle.std.proofs.lemmas.Result.{err_from_is_err_and}
use Rattle.json.specs.Value.{items_view}
use Rattle.sudo_words.specs.Command.{IsLawful, cmnd_text}
use Rattle.sudo_words.specs.declared.cmnd.Cmnd.TheVariants as commands
use Rattle.messages.proofs.ListTexts.{length-strings, view-cmnd_at, one_more_text, read_more, read_all}
use Rattle.messages.proofs.lists.read_cmnds.Goals as goal

pub returns-in_err-cmnd-clause-only : goal.returns-in_err-cmnd-clause-only
returns-in_err-cmnd-clause-only c = λ cs each same.
    let i = c.loop-item.item-index in
    let here = view-cmnd_at c.args.items.now cs i c.item-item.result commands.All same c.loop-item-test.true c.item-item.is in
    let lawful = All-get_or IsLawful cs i commands.All here.0 each in
    let p = err_from_is_err_and c.from_residual-in_err-cmnd.result c.from_residual-in_err-cmnd.ensures.1 in
    rw (p.1, p.2) (c.in_err-cmnd.ensures.only (get_or cs i commands.All) lawful here.1)

pub loop-item-preserved : goal.loop-item-preserved
loop-item-preserved c = record {
  found = All-same IsLawful _ _ c.in_ok-push.ensures.items
      (All-push IsLawful c.loop-item.cmnds.items c.in_ok-cmnd.cmnd c.loop-item.invariant.found c.in_ok-cmnd.ensures.found);
  texts = one_more_text c.args.items.now (map cmnd_text c.loop-item.cmnds.items) _ c.item-item.result
      (cmnd_text c.in_ok-cmnd.cmnd) c.loop-item.item-index c.loop-item-test.true c.item-item.is c.in_ok-cmnd.ensures.text
      (ap (map cmnd_text) c.in_ok-push.ensures.items ∙ map_push cmnd_text c.loop-item.cmnds.items c.in_ok-cmnd.cmnd) c.loop-item.invariant.texts;
  only = λ cs each same.
      let i = c.loop-item.item-index in
      let here = view-cmnd_at c.args.items.now cs i c.item-item.result commands.All same c.loop-item-test.true c.item-item.is in
      let lawful = All-get_or IsLawful cs i commands.All here.0 each in
      read_more _ c.loop-item.cmnds.items c.in_ok-cmnd.cmnd commands.All cs i c.in_ok-push.ensures.items
      (c.loop-item.invariant.only cs each same) here.0 (c.in_ok-cmnd.ensures.only (get_or cs i commands.All) lawful here.1);
}

pub returns-clause-only : goal.returns-clause-only
returns-clause-only c = λ cs each same.
    let long = length-strings c.args.items.now (map cmnd_text cs) same in
    let past : length cs ≤ c.loop-item.item-index = omega (arith, length-map cs cmnd_text) in
    read_all c.loop-item.cmnds.items cs c.loop-item.item-index (c.loop-item.invariant.only cs each same) past

pub returns-clause-texts : goal.returns-clause-texts
returns-clause-texts c =
    ap items_view (sym (take_all c.loop-item.item-index c.args.items.now (omega arith))) ∙ c.loop-item.invariant.texts

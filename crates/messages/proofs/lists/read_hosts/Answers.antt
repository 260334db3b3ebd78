use Rattle.std.proofs.Common.{◌≡◌, ◌≤◌, List, ℕ, [], length, get_or, true, sym, ap, ◌∙◌, take_all, arith}
use Rattle.std.proofs.lemmas.List.Elements.{All-get_or, All-same, All-push}
use Rattle.std.proofs.lemmas.Result.{err_from_is_err_and}
use Rattle.json.specs.Value.{items_view}
use Rattle.sudo_words.specs.Word.{is_host_name}
use Rattle.messages.proofs.ListTexts.{length-strings, view-at, one_more_text, read_more, read_all}
use Rattle.messages.proofs.lists.read_hosts.Goals as goal

pub returns-in_err-host-clause-only : goal.returns-in_err-host-clause-only
returns-in_err-host-clause-only c = λ hs each same.
    let i = c.loop-item.item-index in
    let here = view-at c.args.items.now hs i c.item-item.result same c.loop-item-test.true c.item-item.is in
    let host = All-get_or (λ (h : List ℕ). is_host_name h ≡ true) hs i [] here.0 each in
    let p = err_from_is_err_and c.from_residual-in_err-host.result c.from_residual-in_err-host.ensures.1 in
    rw (p.1, p.2) (c.in_err-host.ensures.only (get_or hs i []) host here.1)

pub loop-item-preserved : goal.loop-item-preserved
loop-item-preserved c = record {
  found = All-same (λ (h : List ℕ). is_host_name h ≡ true) _ _ c.in_ok-push.ensures.items
      (All-push (λ (h : List ℕ). is_host_name h ≡ true) c.loop-item.hosts.items c.in_ok-host.host c.loop-item.invariant.found c.in_ok-host.ensures.found);
  texts = one_more_text c.args.items.now c.loop-item.hosts.items _ c.item-item.result c.in_ok-host.host c.loop-item.item-index
      c.loop-item-test.true c.item-item.is c.in_ok-host.ensures.text c.in_ok-push.ensures.items c.loop-item.invariant.texts;
  only = λ hs each same.
      let i = c.loop-item.item-index in
      let here = view-at c.args.items.now hs i c.item-item.result same c.loop-item-test.true c.item-item.is in
      let host = All-get_or (λ (h : List ℕ). is_host_name h ≡ true) hs i [] here.0 each in
      read_more _ c.loop-item.hosts.items c.in_ok-host.host [] hs i c.in_ok-push.ensures.items
      (c.loop-item.invariant.only hs each same) here.0 (c.in_ok-host.ensures.only (get_or hs i []) host here.1);
}

pub returns-clause-only : goal.returns-clause-only
returns-clause-only c = λ hs each same.
    let long = length-strings c.args.items.now hs same in
    let past : length hs ≤ c.loop-item.item-index = omega arith in
    read_all c.loop-item.hosts.items hs c.loop-item.item-index (c.loop-item.invariant.only hs each same) past

pub returns-clause-texts : goal.returns-clause-texts
returns-clause-texts c =
    ap items_view (sym (take_all c.loop-item.item-index c.args.items.now (omega arith))) ∙ c.loop-item.invariant.texts

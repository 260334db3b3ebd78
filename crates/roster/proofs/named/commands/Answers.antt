use Rattle.std.proofs.Common.{◌≡◌, ◌+◌, ◌++◌, [], ◌∷◌, map, ◌∙◌, ap, take, take_all, sym, arith, subst}
use Rattle.std.specs.Prelude.{All}
use Rattle.std.proofs.lemmas.List.{take_more, map_push}
use Rattle.std.proofs.lemmas.List.Elements.{All-get_or, All-same, All-push}
use Rattle.sudo_words.specs.Command.{IsLawful, cmnd_text}
use Rattle.roster.specs.private.LookupOrders.{cmnd_order}
use Rattle.roster.specs.private.LookupOrders.{IsInOrder}
use Rattle.roster.specs.Rules.{IsCmndText}
use Rattle.sudo_words.proofs.Exits.{is_err}
use Rattle.roster.proofs.named.commands.Goals as goal

pub returns-in_err-command : goal.returns-in_err-command
returns-in_err-command c =
    rw (is_err c.from_residual.result c.from_residual.ensures.1) (λ n. let h = c.in_err-command.ensures n in
    (h.0, λ all. h.1 (rw c.text-item.is (All-get_or IsCmndText c.args.texts.now c.loop-text.text-index c.text-item.result (omega arith) all))))

pub loop-text-preserved : goal.loop-text-preserved
loop-text-preserved c =
    let xs = c.args.texts.now in
    let i = c.loop-text.text-index in
    let x = c.text-item.result in
    let l = c.loop-text in
    let one = c.in_ok-command.command in
    let found = c.in_ok-command.ensures in
    let front = take i xs in
    let at : take (i + 1) xs ≡ front ++ x ∷ [] = take_more xs i x (omega arith) ∙ ap (λ y. front ++ y ∷ []) (sym c.text-item.is) in
    record {
      lawful = All-same IsLawful _ _ c.in_ok-push.ensures.items (All-push IsLawful l.commands.items one l.invariant.lawful found.1.0);
      same = ap (map cmnd_text) c.in_ok-push.ensures.items ∙ map_push cmnd_text l.commands.items one
          ∙ ap (λ ts. ts ++ cmnd_text one ∷ []) l.invariant.same ∙ ap (λ y. front ++ y ∷ []) (sym found.1.1) ∙ sym at;
      named = All-same IsCmndText _ _ at (All-push IsCmndText front x l.invariant.named found.0);
    }

pub returns : goal.returns
returns c =
    let all : take c.loop-text.text-index c.args.texts.now ≡ c.args.texts.now = take_all c.loop-text.text-index c.args.texts.now (omega arith) in
    let ordered : IsInOrder cmnd_order c.new-commands-2.result c.in_ok-ordered.ordered = c.in_ok-ordered.ensures in (
      subst (All IsCmndText) all c.loop-text.invariant.named,
      (rw c.new-commands-2.ensures c.loop-text.invariant.lawful, rw c.new-commands-2.ensures (c.loop-text.invariant.same ∙ all), ordered),
    )

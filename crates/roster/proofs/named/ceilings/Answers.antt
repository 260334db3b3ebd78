use Rattle.std.proofs.Common.{◌≡◌, ◌+◌, ◌++◌, [], ◌∷◌, map, ◌∙◌, ap, take, take_all, sym, arith, subst}
use Rattle.std.specs.Prelude.{All}
use Rattle.std.proofs.lemmas.List.{take_more, map_push}
use Rattle.std.proofs.lemmas.List.Elements.{All-get_or, All-same, All-push}
use Rattle.sudo_words.specs.Command.{IsLawful}
use Rattle.roster.specs.Fields.{entry_in_texts}
use Rattle.roster.specs.Rules.{IsCmndText, IsNamedCeiling}
use Rattle.sudo_words.proofs.Exits.{is_err}
use Rattle.roster.proofs.named.ceilings.Goals as goal

pub returns-in_err-ceiling : goal.returns-in_err-ceiling
returns-in_err-ceiling c =
    rw (is_err c.from_residual.result c.from_residual.ensures.1) (λ n. let h = c.in_err-ceiling.ensures n in (
      h.0,
      λ all. h.1 (rw c.text-item.is (All-get_or (IsNamedCeiling IsCmndText) c.args.texts.now c.loop-text.text-index c.text-item.result (omega arith) all)),
    ))

pub loop-text-preserved : goal.loop-text-preserved
loop-text-preserved c =
    let xs = c.args.texts.now in
    let i = c.loop-text.text-index in
    let x = c.text-item.result in
    let l = c.loop-text in
    let one = c.in_ok-ceiling.ceiling in
    let found = c.in_ok-ceiling.ensures in
    let front = take i xs in
    let at : take (i + 1) xs ≡ front ++ x ∷ [] = take_more xs i x (omega arith) ∙ ap (λ y. front ++ y ∷ []) (sym c.text-item.is) in
    record {
      lawful = All-same (IsNamedCeiling IsLawful) _ _ c.in_ok-push.ensures.items
          (All-push (IsNamedCeiling IsLawful) l.ceilings.items one l.invariant.lawful found.1.0);
      same = ap (map entry_in_texts) c.in_ok-push.ensures.items ∙ map_push entry_in_texts l.ceilings.items one
          ∙ ap (λ ts. ts ++ entry_in_texts one ∷ []) l.invariant.same ∙ ap (λ y. front ++ y ∷ []) found.1.1 ∙ sym at;
      named = All-same (IsNamedCeiling IsCmndText) _ _ at (All-push (IsNamedCeiling IsCmndText) front x l.invariant.named found.0);
    }

pub returns : goal.returns
returns c =
    let all : take c.loop-text.text-index c.args.texts.now ≡ c.args.texts.now = take_all c.loop-text.text-index c.args.texts.now (omega arith) in
    rw c.new.ensures (subst (All (IsNamedCeiling IsCmndText)) all c.loop-text.invariant.named, (c.loop-text.invariant.lawful, c.loop-text.invariant.same ∙ all))

use Rattle.std.proofs.Common.{◌∙◌, [], ◌∷◌, ◌++◌, List, ℕ, map, ap, sym}
use Rattle.std.specs.Prelude.{string_bytes}
use Rattle.std.specs.BTreeMap.{values}
use Rattle.std.proofs.lemmas.List.{map-append}
use Rattle.messages.specs.Fields.{VerdictFields}
use Rattle.messages.specs.Wire.{verdict_text}
use Rattle.outcomes.specs.private.ByName.{in_turn}
use Rattle.outcomes.proofs.ByNameLemmas.{turn_more}
use Rattle.outcomes.proofs.GivenLists.{turn_split}
use Rattle.outcomes.proofs.parked.texts_of.Goals as goal

pub loop-verdicts-preserved : goal.loop-verdicts-preserved
loop-verdicts-preserved c =
    let l = c.loop-verdicts in
    let list = c.in-Some.verdicts.now in
    let before = l.invariant in (
      before.0 ++ list ∷ [],
      turn_split before.0 l.verdicts-iterator c.next.new.self (values c.args.waiting.now) list before.1 c.in-Some.ensures.steps,
      c.in_ok-push_texts.ensures
          ∙ ap (λ (vs : List VerdictFields). map string_bytes l.texts.items ++ map verdict_text vs) c.deref.ensures.value
          ∙ ap (λ (ts : List (List ℕ)). ts ++ map verdict_text list.items) before.2
          ∙ sym (map-append verdict_text (in_turn before.0) list.items)
          ∙ ap (map verdict_text) (sym (turn_more before.0 list)),
    )

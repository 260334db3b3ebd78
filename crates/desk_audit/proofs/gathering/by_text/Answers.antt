use Rattle.std.proofs.Common.{◌≡◌, ◌∷◌, ◌++◌, [], ◌∙◌, length, List, ap, append_assoc, arith, sym, rules}
use Rattle.std.specs.Vec.Iter.{into_iter_items}
use Rattle.messages.specs.declared.message.Message.{Message}
use Rattle.desk_audit.proofs.ByTextLemmas.{all_put, none_by_text, one_more_text}
use Rattle.desk_audit.proofs.gathering.by_text.Goals as goal

pub loop-message-init : goal.loop-message-init
loop-message-init c = record {
  seen = [];
  split = search rules;
  are = none_by_text c.new-all.result c.new-all.ensures.ordered c.new-all.ensures.empty;
  rest = search rules;
}

pub loop-message-preserved : goal.loop-message-preserved
loop-message-preserved c =
    let l = c.loop-message in
    let was = l.invariant in
    let next : into_iter_items l.message-iterator ≡ c.in-Some.message ∷ into_iter_items c.next.new.self = c.in-Some.ensures.steps.0 in
    let m = c.in-Some.message in
    record {
      seen = was.seen ++ m ∷ [];
      split = append_assoc was.seen (m ∷ []) _ ∙ ap (λ (ms : List Message). was.seen ++ ms) (sym next) ∙ was.split;
      are = one_more_text l.all c.insert.new.self c.in_ok-text.text m c.in_ok-text.ensures c.in_ok-insert.ensures.updates c.in_ok-insert.ensures.ordered
          was.seen was.are;
      rest =
          let before = was.rest in
          let gone = c.in-Some.ensures.steps.1 in
          let short = ap length next in
          omega arith;
    }

pub loop-message-preserved-in_ok-insert : goal.loop-message-preserved-in_ok-insert
loop-message-preserved-in_ok-insert c =
    let l = c.loop-message in
    let was = l.invariant in
    let next : into_iter_items l.message-iterator ≡ c.in-Some.message ∷ into_iter_items c.next.new.self = c.in-Some.ensures.steps.0 in
    let m = c.in-Some.message in
    record {
      seen = was.seen ++ m ∷ [];
      split = append_assoc was.seen (m ∷ []) _ ∙ ap (λ (ms : List Message). was.seen ++ ms) (sym next) ∙ was.split;
      are = one_more_text l.all c.insert.new.self c.in_ok-text.text m c.in_ok-text.ensures c.in_ok-insert.ensures.updates c.in_ok-insert.ensures.ordered
          was.seen was.are;
      rest =
          let before = was.rest in
          let gone = c.in-Some.ensures.steps.1 in
          let short = ap length next in
          omega arith;
    }

pub loop-message-preserved-in_ok-insert-2 : goal.loop-message-preserved-in_ok-insert-2
loop-message-preserved-in_ok-insert-2 c =
    let l = c.loop-message in
    let was = l.invariant in
    let next : into_iter_items l.message-iterator ≡ c.in-Some.message ∷ into_iter_items c.next.new.self = c.in-Some.ensures.steps.0 in
    let m = c.in-Some.message in
    record {
      seen = was.seen ++ m ∷ [];
      split = append_assoc was.seen (m ∷ []) _ ∙ ap (λ (ms : List Message). was.seen ++ ms) (sym next) ∙ was.split;
      are = one_more_text l.all c.insert.new.self c.in_ok-text.text m c.in_ok-text.ensures c.in_ok-insert.ensures.updates c.in_ok-insert.ensures.ordered
          was.seen was.are;
      rest =
          let before = was.rest in
          let gone = c.in-Some.ensures.steps.1 in
          let short = ap length next in
          omega arith;
    }

pub returns : goal.returns
returns c =
    let was = c.loop-message.invariant in
    all_put c.args.list.items was.seen _ c.loop-message.all _ was.split was.are was.rest c.in-None.ensures.steps.0

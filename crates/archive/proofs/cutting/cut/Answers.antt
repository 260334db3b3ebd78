use Rattle.std.proofs.Common.{◌≡◌, ◌∷◌, ◌++◌, [], ◌∙◌, length, List, ap, append_assoc, arith, sym, subst, rules}
use Rattle.std.specs.Vec.Iter.{into_iter_items}
use Rattle.messages.specs.declared.message.Message.{Message}
use Rattle.archive.specs.private.Ends.{AreEnds}
use Rattle.archive.proofs.Splits.{splits_all, splits_more, splits_none}
use Rattle.archive.proofs.cutting.cut.Goals as goal

pub loop-message-init : goal.loop-message-init
loop-message-init c = record {
  seen = [];
  split = search rules;
  ends = subst (λ (ms : List Message). AreEnds ms c.in_ok-ends.ends) c.deref.ensures.value c.in_ok-ends.ensures;
  are = splits_none c.args.messages.items c.args.moment _ _ c.new.ensures.items c.new-2.ensures.items;
  rest = search rules;
}

pub loop-message-preserved : goal.loop-message-preserved
loop-message-preserved c =
    let l = c.loop-message in
    let was = l.invariant in
    let next : into_iter_items l.message-iterator ≡ c.in-Some.message ∷ into_iter_items c.next.new.self = c.in-Some.ensures.steps.0 in
    let m = c.in-Some.message in
    record {
      seen = was.seen ++ m ∷ [];
      split = append_assoc was.seen (m ∷ []) _ ∙ ap (λ (ms : List Message). was.seen ++ ms) (sym next) ∙ was.split;
      ends = was.ends;
      are = splits_more c.args.messages.items c.args.moment was.seen _ _ _ _ m c.in_ok-over.over (c.in_ok-over.ensures c.args.messages.items was.ends)
          c.in_ok-put.ensures.goes c.put.ensures.goes_alone c.in_ok-put.ensures.stays c.put.ensures.stays_alone was.are;
      rest =
          let before = was.rest in
          let gone = c.in-Some.ensures.steps.1 in
          let short = ap length next in
          omega arith;
    }

pub returns : goal.returns
returns c =
    let was = c.loop-message.invariant in
    let all = splits_all c.args.messages.items c.args.moment was.seen _ _ _ _ was.split was.rest c.in-None.ensures.steps.0 was.are in
    record { kept = all.kept_are; archived = all.archived_are; whole = all.whole }

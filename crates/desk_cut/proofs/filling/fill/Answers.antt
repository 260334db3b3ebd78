use Rattle.std.proofs.Common.{◌∙◌, List, take, refl, sym, subst}
use Rattle.messages.specs.declared.message.Message.{Message}
use Rattle.store_tables.specs.Sets.{SameSet}
use Rattle.sudo_decide.proofs.AnswerLemmas.{take_one_more}
use Rattle.desk_cut.specs.Growing.{WithAll}
use Rattle.desk_cut.proofs.GrowingLemmas.{with_more, with_none}
use Rattle.desk_cut.proofs.filling.fill.Goals as goal

pub loop-message-init : goal.loop-message-init
loop-message-init g c = record {
  up = λ up. up;
  clean = λ clean. clean;
  desk = c.requires;
  roster = λ up. refl;
  held = λ up. with_none (g.K.Keeper.holds c.args.keeper.now);
  live = λ up clean. up;
}

pub loop-message-preserved : goal.loop-message-preserved
loop-message-preserved g c =
    let K = g.K.Keeper in
    let l = c.loop-message in
    let list = c.args.messages.now in
    let i = l.message-index in
    let item = c.message-item.result in
    let new = c.add.new.keeper in
    record {
      up = λ up. l.invariant.up (c.add.ensures.up up);
      clean = λ clean. l.invariant.clean (c.add.ensures.clean clean);
      desk = c.add.ensures.desk;
      roster = λ up. c.add.ensures.roster up ∙ l.invariant.roster (c.add.ensures.up up);
      held = λ up. subst (λ (seen : List Message). SameSet (WithAll (K.holds c.args.keeper.now) seen) (K.holds new))
          (sym (take_one_more list i item c.loop-message-test.true c.message-item.is))
          (with_more (K.holds c.args.keeper.now) (K.holds l.keeper) (K.holds new) (take i list) item (l.invariant.held (c.add.ensures.up up))
          (c.in_ok-add.ensures.added up));
      live = λ up clean. c.in_ok-add.ensures.live clean;
    }

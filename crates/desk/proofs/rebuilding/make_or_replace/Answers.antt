use Rattle.std.proofs.Common.{refl, inl, inr}
use Rattle.store_tables.specs.Sets.{SameSet}
use Rattle.desk_store.proofs.SameLeft.{same_left}
use Rattle.desk_store.proofs.OutcomeLemmas.{ok_no_err}
use Rattle.desk_store.proofs.ServingLemmas.{not_err, served_after, served_at_ok}
use Rattle.desk.proofs.CrashLemmas.{kept_by_rebuilding, made_by_rebuilding, replaced_by_rebuilding}
use Rattle.desk.proofs.LeftLemmas.{adds_as, adds_none, none_then_adds}
use Rattle.desk.proofs.OpeningLemmas.{told_desk, told_empty, told_no_desk, told_old}
use Rattle.desk.proofs.RebuildingLemmas.{same_sets}
use Rattle.desk.proofs.RefusalLemmas.{handed_on, told_no_base, told_want}
use Rattle.desk.proofs.rebuilding.make_or_replace.Goals as goal

-- ---- a look that failed

pub returns-in_err-look-clause-crash : goal.returns-in_err-look-clause-crash
returns-in_err-look-clause-crash g c up clean left may =
    let K = g.K.Keeper in
    let k = c.args.keeper.now in
    kept_by_rebuilding (K.is_empty k) (K.is_desk k) (K.is_old k) (K.roster k) c.args.text.now (K.holds k) left (c.look.ensures.crash up clean left may)

pub returns-in_err-look-clause-refused : goal.returns-in_err-look-clause-refused
returns-in_err-look-clause-refused g c up = told_want c.in_err-look.field-0.0 c.from_residual.result _ c.from_residual.ensures.1

pub returns-in_err-look-clause-err : goal.returns-in_err-look-clause-err
returns-in_err-look-clause-err g c = told_want c.in_err-look.field-0.0 c.from_residual.result _ c.from_residual.ensures.1

pub returns-in_err-look-clause-fits : goal.returns-in_err-look-clause-fits
returns-in_err-look-clause-fits g c = told_no_base c.in_err-look.field-0.0 c.from_residual.result c.from_residual.ensures.1

pub returns-in_err-look-clause-served : goal.returns-in_err-look-clause-served
returns-in_err-look-clause-served g c =
    handed_on c.in_err-look.field-0.0 c.look.result c.from_residual.result c.in_err-look.was c.from_residual.ensures.1 c.look.ensures.served

-- ---- no part of a desk

pub returns-in_ok-make-in-Empty-clause-served : goal.returns-in_ok-make-in-Empty-clause-served
returns-in_ok-make-in-Empty-clause-served g c =
    served_at_ok _ _ (λ is. ok_no_err _ _ is) (served_after c.in_ok-look.ensures.served c.in_ok-make-in-Empty.ensures.served)

pub returns-in_err-make-in-Empty-clause-served : goal.returns-in_err-make-in-Empty-clause-served
returns-in_err-make-in-Empty-clause-served g c =
    let err = c.in_err-make-in-Empty in
    let told = c.from_residual-in_err-make-in-Empty in
    served_after c.in_ok-look.ensures.served (handed_on err.field-0.0 c.make.result told.result err.was told.ensures.1 c.make.ensures.served)

pub returns-in_ok-make-in-Empty-clause-keeps : goal.returns-in_ok-make-in-Empty-clause-keeps
returns-in_ok-make-in-Empty-clause-keeps g c up =
    let K = g.K.Keeper in
    let k = c.args.keeper.now in
    let told = told_empty (K.is_empty k) (K.is_desk k) (K.is_old k) (K.roster k) c.in_ok-look.field-0 c.in-Empty.is
    (c.in_ok-look.ensures.found (c.make.ensures.served.was_up up)) in
    inl (told.0, told.1, told.2, c.in_ok-make-in-Empty.ensures.nothing up)

pub returns-in_ok-make-in-Empty-clause-crash : goal.returns-in_ok-make-in-Empty-clause-crash
returns-in_ok-make-in-Empty-clause-crash g c up clean left may =
    let K = g.K.Keeper in
    let k = c.args.keeper.now in
    let between = not_err (c.in_ok-look.ensures.served.up up (c.make.ensures.served.was_clean clean)) in
    let told = told_empty (K.is_empty k) (K.is_desk k) (K.is_old k) (K.roster k) c.in_ok-look.field-0 c.in-Empty.is (c.in_ok-look.ensures.found between) in
    made_by_rebuilding (K.is_empty k) (K.is_desk k) (K.is_old k) (K.roster k) c.args.text.now
    (K.holds k) left told.1 told.2 (c.make.ensures.crash between clean left may)

pub returns-in_err-make-in-Empty-clause-crash : goal.returns-in_err-make-in-Empty-clause-crash
returns-in_err-make-in-Empty-clause-crash g c up clean left may =
    let K = g.K.Keeper in
    let k = c.args.keeper.now in
    let between = not_err (c.in_ok-look.ensures.served.up up (c.make.ensures.served.was_clean clean)) in
    let told = told_empty (K.is_empty k) (K.is_desk k) (K.is_old k) (K.roster k) c.in_ok-look.field-0 c.in-Empty.is (c.in_ok-look.ensures.found between) in
    made_by_rebuilding (K.is_empty k) (K.is_desk k) (K.is_old k) (K.roster k) c.args.text.now
    (K.holds k) left told.1 told.2 (c.make.ensures.crash between clean left may)

pub returns-in_err-make-in-Empty-clause-refused : goal.returns-in_err-make-in-Empty-clause-refused
returns-in_err-make-in-Empty-clause-refused g c up =
    told_want c.in_err-make-in-Empty.field-0.0 c.from_residual-in_err-make-in-Empty.result _ c.from_residual-in_err-make-in-Empty.ensures.1

pub returns-in_err-make-in-Empty-clause-err : goal.returns-in_err-make-in-Empty-clause-err
returns-in_err-make-in-Empty-clause-err g c =
    told_want c.in_err-make-in-Empty.field-0.0 c.from_residual-in_err-make-in-Empty.result _ c.from_residual-in_err-make-in-Empty.ensures.1

pub returns-in_err-make-in-Empty-clause-fits : goal.returns-in_err-make-in-Empty-clause-fits
returns-in_err-make-in-Empty-clause-fits g c =
    told_no_base c.in_err-make-in-Empty.field-0.0 c.from_residual-in_err-make-in-Empty.result c.from_residual-in_err-make-in-Empty.ensures.1

-- ---- something that is not a desk

pub returns-in-NotADesk-clause-refused : goal.returns-in-NotADesk-clause-refused
returns-in-NotADesk-clause-refused g c up =
    let K = g.K.Keeper in
    let k = c.args.keeper.now in
    let told = told_no_desk (K.is_empty k) (K.is_desk k) (K.is_old k) (K.roster k) c.in_ok-look.field-0 c.in-NotADesk.is (c.in_ok-look.ensures.found up) in
    inr (tt, told.0, told.1, told.2)

pub returns-in-NotADesk-clause-crash : goal.returns-in-NotADesk-clause-crash
returns-in-NotADesk-clause-crash g c up clean left may =
    let K = g.K.Keeper in
    let k = c.args.keeper.now in
    kept_by_rebuilding (K.is_empty k) (K.is_desk k) (K.is_old k) (K.roster k) c.args.text.now (K.holds k) left (c.look.ensures.crash up clean left may)

-- ---- a desk

pub returns-in_ok-replace-in-Desk-clause-served : goal.returns-in_ok-replace-in-Desk-clause-served
returns-in_ok-replace-in-Desk-clause-served g c =
    served_at_ok _ _ (λ is. ok_no_err _ _ is) (served_after c.in_ok-look.ensures.served c.in_ok-replace-in-Desk.ensures.served)

pub returns-in_err-replace-in-Desk-clause-served : goal.returns-in_err-replace-in-Desk-clause-served
returns-in_err-replace-in-Desk-clause-served g c =
    let err = c.in_err-replace-in-Desk in
    let told = c.from_residual-in_err-replace-in-Desk in
    served_after c.in_ok-look.ensures.served (handed_on err.field-0.0 c.replace.result told.result err.was told.ensures.1 c.replace.ensures.served)

pub replace-requires : goal.replace-requires
replace-requires g c up =
    let K = g.K.Keeper in
    let k = c.args.keeper.now in
    let told =
    told_desk (K.is_empty k) (K.is_desk k) (K.is_old k) (K.roster k) c.in_ok-look.field-0 c.in-Desk.recorded c.in-Desk.is (c.in_ok-look.ensures.found up) in
    inl (g.met.K.Keeper.stays_desk k c.look.new.self (c.look.ensures.same up) told.0)

pub returns-in_ok-replace-in-Desk-clause-keeps : goal.returns-in_ok-replace-in-Desk-clause-keeps
returns-in_ok-replace-in-Desk-clause-keeps g c up =
    let K = g.K.Keeper in
    let k = c.args.keeper.now in
    let mid = c.look.new.self in
    let new = c.replace.new.self in
    let still = c.replace.ensures.served.was_up up in
    let told = told_desk (K.is_empty k) (K.is_desk k) (K.is_old k)
    (K.roster k) c.in_ok-look.field-0 c.in-Desk.recorded c.in-Desk.is (c.in_ok-look.ensures.found still) in
    let same : SameSet (K.holds k) (K.holds mid) = g.met.K.Keeper.stays_set k mid (c.look.ensures.same still) told.0 in
    inr (inl told.0, told.1, same_sets (K.holds k) (K.holds mid) (K.holds new) same (c.in_ok-replace-in-Desk.ensures.held up))

pub returns-in_ok-replace-in-Desk-clause-crash : goal.returns-in_ok-replace-in-Desk-clause-crash
returns-in_ok-replace-in-Desk-clause-crash g c up clean left may =
    let K = g.K.Keeper in
    let laws = g.met.K.Keeper in
    let k = c.args.keeper.now in
    let mid = c.look.new.self in
    let between = not_err (c.in_ok-look.ensures.served.up up (c.replace.ensures.served.was_clean clean)) in
    let same = c.look.ensures.same between in
    let told = told_desk (K.is_empty k) (K.is_desk k) (K.is_old k)
    (K.roster k) c.in_ok-look.field-0 c.in-Desk.recorded c.in-Desk.is (c.in_ok-look.ensures.found between) in
    replaced_by_rebuilding (K.is_empty k) (K.is_desk k) (K.is_old k) (K.is_desk mid) (K.is_old mid) (K.roster k) (K.roster mid) c.args.text.now
    (K.holds k) (K.holds mid) left told.1 (λ desk. (laws.stays_desk k mid same desk, laws.stays_roster k mid same desk, laws.stays_set k mid same desk))
    (λ old. laws.stays_old k mid same old) (c.replace.ensures.crash between clean left may)

pub returns-in_err-replace-in-Desk-clause-crash : goal.returns-in_err-replace-in-Desk-clause-crash
returns-in_err-replace-in-Desk-clause-crash g c up clean left may =
    let K = g.K.Keeper in
    let laws = g.met.K.Keeper in
    let k = c.args.keeper.now in
    let mid = c.look.new.self in
    let between = not_err (c.in_ok-look.ensures.served.up up (c.replace.ensures.served.was_clean clean)) in
    let same = c.look.ensures.same between in
    let told = told_desk (K.is_empty k) (K.is_desk k) (K.is_old k)
    (K.roster k) c.in_ok-look.field-0 c.in-Desk.recorded c.in-Desk.is (c.in_ok-look.ensures.found between) in
    replaced_by_rebuilding (K.is_empty k) (K.is_desk k) (K.is_old k) (K.is_desk mid) (K.is_old mid) (K.roster k) (K.roster mid) c.args.text.now
    (K.holds k) (K.holds mid) left told.1 (λ desk. (laws.stays_desk k mid same desk, laws.stays_roster k mid same desk, laws.stays_set k mid same desk))
    (λ old. laws.stays_old k mid same old) (c.replace.ensures.crash between clean left may)

pub returns-in_err-replace-in-Desk-clause-refused : goal.returns-in_err-replace-in-Desk-clause-refused
returns-in_err-replace-in-Desk-clause-refused g c up =
    told_want c.in_err-replace-in-Desk.field-0.0 c.from_residual-in_err-replace-in-Desk.result _ c.from_residual-in_err-replace-in-Desk.ensures.1

pub returns-in_err-replace-in-Desk-clause-err : goal.returns-in_err-replace-in-Desk-clause-err
returns-in_err-replace-in-Desk-clause-err g c =
    told_want c.in_err-replace-in-Desk.field-0.0 c.from_residual-in_err-replace-in-Desk.result _ c.from_residual-in_err-replace-in-Desk.ensures.1

pub returns-in_err-replace-in-Desk-clause-fits : goal.returns-in_err-replace-in-Desk-clause-fits
returns-in_err-replace-in-Desk-clause-fits g c =
    told_no_base c.in_err-replace-in-Desk.field-0.0 c.from_residual-in_err-replace-in-Desk.result c.from_residual-in_err-replace-in-Desk.ensures.1

-- ---- a desk of an older form

pub returns-in_ok-replace-in-OldDesk-clause-served : goal.returns-in_ok-replace-in-OldDesk-clause-served
returns-in_ok-replace-in-OldDesk-clause-served g c =
    served_at_ok _ _ (λ is. ok_no_err _ _ is) (served_after c.in_ok-look.ensures.served c.in_ok-replace-in-OldDesk.ensures.served)

pub returns-in_err-replace-in-OldDesk-clause-served : goal.returns-in_err-replace-in-OldDesk-clause-served
returns-in_err-replace-in-OldDesk-clause-served g c =
    let err = c.in_err-replace-in-OldDesk in
    let told = c.from_residual-in_err-replace-in-OldDesk in
    served_after c.in_ok-look.ensures.served
    (handed_on err.field-0.0 c.replace-in-OldDesk.result told.result err.was told.ensures.1 c.replace-in-OldDesk.ensures.served)

pub replace-requires-in-OldDesk : goal.replace-requires-in-OldDesk
replace-requires-in-OldDesk g c up =
    let K = g.K.Keeper in
    let k = c.args.keeper.now in
    let told = told_old (K.is_empty k) (K.is_desk k) (K.is_old k) (K.roster k) c.in_ok-look.field-0 c.in-OldDesk.is (c.in_ok-look.ensures.found up) in
    inr ((g.met.K.Keeper.stays_old k c.look.new.self (c.look.ensures.same up) told.0).0)

pub returns-in_ok-replace-in-OldDesk-clause-keeps : goal.returns-in_ok-replace-in-OldDesk-clause-keeps
returns-in_ok-replace-in-OldDesk-clause-keeps g c up =
    let K = g.K.Keeper in
    let k = c.args.keeper.now in
    let mid = c.look.new.self in
    let new = c.replace-in-OldDesk.new.self in
    let still = c.replace-in-OldDesk.ensures.served.was_up up in
    let told = told_old (K.is_empty k) (K.is_desk k) (K.is_old k) (K.roster k) c.in_ok-look.field-0 c.in-OldDesk.is (c.in_ok-look.ensures.found still) in
    let same : SameSet (K.holds k) (K.holds mid) = (g.met.K.Keeper.stays_old k mid (c.look.ensures.same still) told.0).1 in
    inr (inr told.0, told.1, same_sets (K.holds k) (K.holds mid) (K.holds new) same (c.in_ok-replace-in-OldDesk.ensures.held up))

pub returns-in_ok-replace-in-OldDesk-clause-crash : goal.returns-in_ok-replace-in-OldDesk-clause-crash
returns-in_ok-replace-in-OldDesk-clause-crash g c up clean left may =
    let K = g.K.Keeper in
    let laws = g.met.K.Keeper in
    let k = c.args.keeper.now in
    let mid = c.look.new.self in
    let between = not_err (c.in_ok-look.ensures.served.up up (c.replace-in-OldDesk.ensures.served.was_clean clean)) in
    let same = c.look.ensures.same between in
    let told = told_old (K.is_empty k) (K.is_desk k) (K.is_old k) (K.roster k) c.in_ok-look.field-0 c.in-OldDesk.is (c.in_ok-look.ensures.found between) in
    replaced_by_rebuilding (K.is_empty k) (K.is_desk k) (K.is_old k) (K.is_desk mid) (K.is_old mid) (K.roster k) (K.roster mid) c.args.text.now
    (K.holds k) (K.holds mid) left told.1 (λ desk. (laws.stays_desk k mid same desk, laws.stays_roster k mid same desk, laws.stays_set k mid same desk))
    (λ old. laws.stays_old k mid same old) (c.replace-in-OldDesk.ensures.crash between clean left may)

pub returns-in_err-replace-in-OldDesk-clause-crash : goal.returns-in_err-replace-in-OldDesk-clause-crash
returns-in_err-replace-in-OldDesk-clause-crash g c up clean left may =
    let K = g.K.Keeper in
    let laws = g.met.K.Keeper in
    let k = c.args.keeper.now in
    let mid = c.look.new.self in
    let between = not_err (c.in_ok-look.ensures.served.up up (c.replace-in-OldDesk.ensures.served.was_clean clean)) in
    let same = c.look.ensures.same between in
    let told = told_old (K.is_empty k) (K.is_desk k) (K.is_old k) (K.roster k) c.in_ok-look.field-0 c.in-OldDesk.is (c.in_ok-look.ensures.found between) in
    replaced_by_rebuilding (K.is_empty k) (K.is_desk k) (K.is_old k) (K.is_desk mid) (K.is_old mid) (K.roster k) (K.roster mid) c.args.text.now
    (K.holds k) (K.holds mid) left told.1 (λ desk. (laws.stays_desk k mid same desk, laws.stays_roster k mid same desk, laws.stays_set k mid same desk))
    (λ old. laws.stays_old k mid same old) (c.replace-in-OldDesk.ensures.crash between clean left may)

pub returns-in_err-replace-in-OldDesk-clause-refused : goal.returns-in_err-replace-in-OldDesk-clause-refused
returns-in_err-replace-in-OldDesk-clause-refused g c up =
    told_want c.in_err-replace-in-OldDesk.field-0.0 c.from_residual-in_err-replace-in-OldDesk.result _ c.from_residual-in_err-replace-in-OldDesk.ensures.1

pub returns-in_err-replace-in-OldDesk-clause-err : goal.returns-in_err-replace-in-OldDesk-clause-err
returns-in_err-replace-in-OldDesk-clause-err g c =
    told_want c.in_err-replace-in-OldDesk.field-0.0 c.from_residual-in_err-replace-in-OldDesk.result _ c.from_residual-in_err-replace-in-OldDesk.ensures.1

pub returns-in_err-replace-in-OldDesk-clause-fits : goal.returns-in_err-replace-in-OldDesk-clause-fits
returns-in_err-replace-in-OldDesk-clause-fits g c =
    told_no_base c.in_err-replace-in-OldDesk.field-0.0 c.from_residual-in_err-replace-in-OldDesk.result c.from_residual-in_err-replace-in-OldDesk.ensures.1

-- ---- what was committed

pub returns-in_err-look-clause-leaves : goal.returns-in_err-look-clause-leaves
returns-in_err-look-clause-leaves g c clean = adds_none _ _ _ (c.look.ensures.leaves clean)

pub returns-in-NotADesk-clause-leaves : goal.returns-in-NotADesk-clause-leaves
returns-in-NotADesk-clause-leaves g c clean = adds_none _ _ _ (c.look.ensures.leaves clean)

pub returns-in_ok-make-in-Empty-clause-leaves : goal.returns-in_ok-make-in-Empty-clause-leaves
returns-in_ok-make-in-Empty-clause-leaves g c clean =
    let K = g.K.Keeper in
    let k = c.args.keeper.now in
    none_then_adds _ _ _ _ (c.look.ensures.leaves (c.make.ensures.served.was_clean clean)) (adds_as _ _ _ _ (λ left it.
    let told = told_empty (K.is_empty k) (K.is_desk k) (K.is_old k) (K.roster k) c.in_ok-look.field-0 c.in-Empty.is (c.in_ok-look.ensures.found it.0) in
    inl ((c.look.ensures.served.was_up it.0, told.0), it.1)) (c.make.ensures.leaves clean))

pub returns-in_err-make-in-Empty-clause-leaves : goal.returns-in_err-make-in-Empty-clause-leaves
returns-in_err-make-in-Empty-clause-leaves g c clean =
    let K = g.K.Keeper in
    let k = c.args.keeper.now in
    none_then_adds _ _ _ _ (c.look.ensures.leaves (c.make.ensures.served.was_clean clean)) (adds_as _ _ _ _ (λ left it.
    let told = told_empty (K.is_empty k) (K.is_desk k) (K.is_old k) (K.roster k) c.in_ok-look.field-0 c.in-Empty.is (c.in_ok-look.ensures.found it.0) in
    inl ((c.look.ensures.served.was_up it.0, told.0), it.1)) (c.make.ensures.leaves clean))

pub returns-in_ok-replace-in-Desk-clause-leaves : goal.returns-in_ok-replace-in-Desk-clause-leaves
returns-in_ok-replace-in-Desk-clause-leaves g c clean =
    let K = g.K.Keeper in
    let laws = g.met.K.Keeper in
    let k = c.args.keeper.now in
    let mid = c.look.new.self in
    let text = c.args.text.now in
    none_then_adds _ _ _ _ (c.look.ensures.leaves (c.replace.ensures.served.was_clean clean)) (adds_as _ _ _ _ (λ left it.
    let told = told_desk (K.is_empty k) (K.is_desk k) (K.is_old k) (K.roster k) c.in_ok-look.field-0 c.in-Desk.recorded c.in-Desk.is
    (c.in_ok-look.ensures.found it.0) in
    let same : SameSet (K.holds k) (K.holds mid) = laws.stays_set k mid (c.look.ensures.same it.0) told.0 in
    inr (c.look.ensures.served.was_up it.0, same_left text text (K.holds k) (K.holds mid) left refl same it.1)) (c.replace.ensures.leaves clean))

pub returns-in_err-replace-in-Desk-clause-leaves : goal.returns-in_err-replace-in-Desk-clause-leaves
returns-in_err-replace-in-Desk-clause-leaves g c clean =
    let K = g.K.Keeper in
    let laws = g.met.K.Keeper in
    let k = c.args.keeper.now in
    let mid = c.look.new.self in
    let text = c.args.text.now in
    none_then_adds _ _ _ _ (c.look.ensures.leaves (c.replace.ensures.served.was_clean clean)) (adds_as _ _ _ _ (λ left it.
    let told = told_desk (K.is_empty k) (K.is_desk k) (K.is_old k) (K.roster k) c.in_ok-look.field-0 c.in-Desk.recorded c.in-Desk.is
    (c.in_ok-look.ensures.found it.0) in
    let same : SameSet (K.holds k) (K.holds mid) = laws.stays_set k mid (c.look.ensures.same it.0) told.0 in
    inr (c.look.ensures.served.was_up it.0, same_left text text (K.holds k) (K.holds mid) left refl same it.1)) (c.replace.ensures.leaves clean))

pub returns-in_ok-replace-in-OldDesk-clause-leaves : goal.returns-in_ok-replace-in-OldDesk-clause-leaves
returns-in_ok-replace-in-OldDesk-clause-leaves g c clean =
    let K = g.K.Keeper in
    let laws = g.met.K.Keeper in
    let k = c.args.keeper.now in
    let mid = c.look.new.self in
    let text = c.args.text.now in
    none_then_adds _ _ _ _ (c.look.ensures.leaves (c.replace-in-OldDesk.ensures.served.was_clean clean)) (adds_as _ _ _ _ (λ left it.
    let told = told_old (K.is_empty k) (K.is_desk k) (K.is_old k) (K.roster k) c.in_ok-look.field-0 c.in-OldDesk.is
    (c.in_ok-look.ensures.found it.0) in
    let same : SameSet (K.holds k) (K.holds mid) = (laws.stays_old k mid (c.look.ensures.same it.0) told.0).1 in
    inr (c.look.ensures.served.was_up it.0, same_left text text (K.holds k) (K.holds mid) left refl same it.1)) (c.replace-in-OldDesk.ensures.leaves clean))

pub returns-in_err-replace-in-OldDesk-clause-leaves : goal.returns-in_err-replace-in-OldDesk-clause-leaves
returns-in_err-replace-in-OldDesk-clause-leaves g c clean =
    let K = g.K.Keeper in
    let laws = g.met.K.Keeper in
    let k = c.args.keeper.now in
    let mid = c.look.new.self in
    let text = c.args.text.now in
    none_then_adds _ _ _ _ (c.look.ensures.leaves (c.replace-in-OldDesk.ensures.served.was_clean clean)) (adds_as _ _ _ _ (λ left it.
    let told = told_old (K.is_empty k) (K.is_desk k) (K.is_old k) (K.roster k) c.in_ok-look.field-0 c.in-OldDesk.is
    (c.in_ok-look.ensures.found it.0) in
    let same : SameSet (K.holds k) (K.holds mid) = (laws.stays_old k mid (c.look.ensures.same it.0) told.0).1 in
    inr (c.look.ensures.served.was_up it.0, same_left text text (K.holds k) (K.holds mid) left refl same it.1)) (c.replace-in-OldDesk.ensures.leaves clean))

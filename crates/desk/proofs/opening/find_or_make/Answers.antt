use Rattle.std.proofs.Common.{◌≡◌, ◌∙◌, refl, sym, subst, inl, inr, rules}
use Rattle.std.specs.Prelude.{string_bytes}
use Rattle.desk_store.proofs.OutcomeLemmas.{ok_no_err}
use Rattle.desk_store.proofs.ServingLemmas.{not_err, served_after, served_at_ok}
use Rattle.desk.proofs.CrashLemmas.{kept_by_opening, leaves_same, made_by_opening}
use Rattle.desk.proofs.LeftLemmas.{adds_as, adds_none, is_desk, is_old_desk, none_then_adds, told_live}
use Rattle.desk.proofs.OpeningLemmas.{origin_still, told_desk, told_empty, told_no_desk, told_old}
use Rattle.desk.proofs.RefusalLemmas.{handed_on, told_no_base, told_want}
use Rattle.desk.proofs.opening.find_or_make.Goals as goal

-- ---- a look that failed

pub returns-in_err-look-clause-crash : goal.returns-in_err-look-clause-crash
returns-in_err-look-clause-crash g c up clean left may =
    let K = g.K.Keeper in
    let k = c.args.keeper.now in
    kept_by_opening (K.is_empty k) (K.is_desk k) (K.is_old k) (K.roster k) c.args.text.now (K.holds k) left (c.look.ensures.crash up clean left may)

pub returns-in_err-look-clause-refused : goal.returns-in_err-look-clause-refused
returns-in_err-look-clause-refused g c up = told_want c.in_err-look.field-0.0 c.from_residual.result _ c.from_residual.ensures.1

pub returns-in_err-look-clause-fits : goal.returns-in_err-look-clause-fits
returns-in_err-look-clause-fits g c = told_no_base c.in_err-look.field-0.0 c.from_residual.result c.from_residual.ensures.1

pub returns-in_err-look-clause-served : goal.returns-in_err-look-clause-served
returns-in_err-look-clause-served g c =
    handed_on c.in_err-look.field-0.0 c.look.result c.from_residual.result c.in_err-look.was c.from_residual.ensures.1 c.look.ensures.served

-- ---- no part of a desk

pub returns-in_ok-make-in-Empty-clause-served : goal.returns-in_ok-make-in-Empty-clause-served
returns-in_ok-make-in-Empty-clause-served g c =
    served_at_ok _ _ (λ is. ok_no_err _ _ is) (served_after c.in_ok-look.ensures.served c.in_ok-make-in-Empty.ensures.served)

pub returns-in_err-make-in-Empty-clause-served : goal.returns-in_err-make-in-Empty-clause-served
returns-in_err-make-in-Empty-clause-served g c =
    let err = c.in_err-make-in-Empty in
    let told = c.from_residual-in_err-make-in-Empty in
    served_after c.in_ok-look.ensures.served (handed_on err.field-0.0 c.make.result told.result err.was told.ensures.1 c.make.ensures.served)

pub returns-in_ok-make-in-Empty-clause-opens : goal.returns-in_ok-make-in-Empty-clause-opens
returns-in_ok-make-in-Empty-clause-opens g c up =
    let K = g.K.Keeper in
    let k = c.args.keeper.now in
    let told = told_empty (K.is_empty k) (K.is_desk k) (K.is_old k) (K.roster k) c.in_ok-look.field-0 c.in-Empty.is
    (c.in_ok-look.ensures.found (c.make.ensures.served.was_up up)) in
    inl (told.0, told.1, told.2, c.in_ok-make-in-Empty.ensures.nothing up)

pub returns-in_ok-make-in-Empty-clause-crash : goal.returns-in_ok-make-in-Empty-clause-crash
returns-in_ok-make-in-Empty-clause-crash g c up clean left may =
    let K = g.K.Keeper in
    let k = c.args.keeper.now in
    let between = not_err (c.in_ok-look.ensures.served.up up (c.make.ensures.served.was_clean clean)) in
    let told = told_empty (K.is_empty k) (K.is_desk k) (K.is_old k) (K.roster k) c.in_ok-look.field-0 c.in-Empty.is (c.in_ok-look.ensures.found between) in
    made_by_opening (K.is_empty k) (K.is_desk k) (K.is_old k) (K.roster k) c.args.text.now
    (K.holds k) left told.1 told.2 (c.make.ensures.crash between clean left may)

pub returns-in_err-make-in-Empty-clause-crash : goal.returns-in_err-make-in-Empty-clause-crash
returns-in_err-make-in-Empty-clause-crash g c up clean left may =
    let K = g.K.Keeper in
    let k = c.args.keeper.now in
    let between = not_err (c.in_ok-look.ensures.served.up up (c.make.ensures.served.was_clean clean)) in
    let told = told_empty (K.is_empty k) (K.is_desk k) (K.is_old k) (K.roster k) c.in_ok-look.field-0 c.in-Empty.is (c.in_ok-look.ensures.found between) in
    made_by_opening (K.is_empty k) (K.is_desk k) (K.is_old k) (K.roster k) c.args.text.now
    (K.holds k) left told.1 told.2 (c.make.ensures.crash between clean left may)

pub returns-in_err-make-in-Empty-clause-refused : goal.returns-in_err-make-in-Empty-clause-refused
returns-in_err-make-in-Empty-clause-refused g c up =
    told_want c.in_err-make-in-Empty.field-0.0 c.from_residual-in_err-make-in-Empty.result _ c.from_residual-in_err-make-in-Empty.ensures.1

pub returns-in_err-make-in-Empty-clause-fits : goal.returns-in_err-make-in-Empty-clause-fits
returns-in_err-make-in-Empty-clause-fits g c =
    told_no_base c.in_err-make-in-Empty.field-0.0 c.from_residual-in_err-make-in-Empty.result c.from_residual-in_err-make-in-Empty.ensures.1

-- ---- something that is not a desk

pub returns-in-NotADesk-clause-refused : goal.returns-in-NotADesk-clause-refused
returns-in-NotADesk-clause-refused g c up =
    let K = g.K.Keeper in
    let k = c.args.keeper.now in
    let told = told_no_desk (K.is_empty k) (K.is_desk k) (K.is_old k) (K.roster k) c.in_ok-look.field-0 c.in-NotADesk.is (c.in_ok-look.ensures.found up) in
    inr (tt, told.0, told.1, told.2)

pub returns-in-NotADesk-clause-crash : goal.returns-in-NotADesk-clause-crash
returns-in-NotADesk-clause-crash g c up clean left may =
    let K = g.K.Keeper in
    let k = c.args.keeper.now in
    kept_by_opening (K.is_empty k) (K.is_desk k) (K.is_old k) (K.roster k) c.args.text.now (K.holds k) left (c.look.ensures.crash up clean left may)

-- ---- a desk of an older form

pub returns-in-OldDesk-clause-refused : goal.returns-in-OldDesk-clause-refused
returns-in-OldDesk-clause-refused g c up =
    let K = g.K.Keeper in
    let k = c.args.keeper.now in
    let told = told_old (K.is_empty k) (K.is_desk k) (K.is_old k) (K.roster k) c.in_ok-look.field-0 c.in-OldDesk.is (c.in_ok-look.ensures.found up) in
    inr (tt, told.0, told.2)

pub returns-in-OldDesk-clause-crash : goal.returns-in-OldDesk-clause-crash
returns-in-OldDesk-clause-crash g c up clean left may =
    let K = g.K.Keeper in
    let k = c.args.keeper.now in
    kept_by_opening (K.is_empty k) (K.is_desk k) (K.is_old k) (K.roster k) c.args.text.now (K.holds k) left (c.look.ensures.crash up clean left may)

-- ---- a desk

pub returns-in-Desk-clause-crash : goal.returns-in-Desk-clause-crash
returns-in-Desk-clause-crash g c up clean left may =
    let K = g.K.Keeper in
    let k = c.args.keeper.now in
    kept_by_opening (K.is_empty k) (K.is_desk k) (K.is_old k) (K.roster k) c.args.text.now (K.holds k) left (c.look.ensures.crash up clean left may)

pub returns-in-Desk-2-clause-crash : goal.returns-in-Desk-2-clause-crash
returns-in-Desk-2-clause-crash g c up clean left may =
    let K = g.K.Keeper in
    let k = c.args.keeper.now in
    kept_by_opening (K.is_empty k) (K.is_desk k) (K.is_old k) (K.roster k) c.args.text.now (K.holds k) left (c.look.ensures.crash up clean left may)

pub returns-in-Desk-clause-durable : goal.returns-in-Desk-clause-durable
returns-in-Desk-clause-durable g c up =
    let K = g.K.Keeper in
    let laws = g.met.K.Keeper in
    let old = c.args.keeper.now in
    let new = c.look.new.self in
    let same = c.look.ensures.same up in
    let told = told_desk (K.is_empty old) (K.is_desk old) (K.is_old old)
    (K.roster old) c.in_ok-look.field-0 c.in-Desk.desk c.in-Desk.is (c.in_ok-look.ensures.found up) in
    leaves_same (K.may_leave new) (K.roster new) (K.roster old) (K.holds new) (K.holds old) (sym (laws.stays_roster old new same told.0))
    (laws.stays_set new old (laws.same_back old new same) (laws.stays_desk old new same told.0))
    (λ left may. (c.look.ensures.crash (c.look.ensures.served.was_up up) (laws.up_is_clean new up) left may).desk told.0)

pub returns-in-Desk-clause-roster : goal.returns-in-Desk-clause-roster
returns-in-Desk-clause-roster g c = λ up.
    let laws = g.met.K.Keeper in
    let told = told_desk (g.K.Keeper.is_empty c.args.keeper.now) (g.K.Keeper.is_desk c.args.keeper.now) (g.K.Keeper.is_old c.args.keeper.now)
    (g.K.Keeper.roster c.args.keeper.now) c.in_ok-look.field-0 c.in-Desk.desk c.in-Desk.is (c.in_ok-look.ensures.found up) in
    let text : string_bytes c.in-Desk.desk.roster ≡ c.args.text.now = search rules in
    laws.stays_roster c.args.keeper.now c.look.new.self (c.look.ensures.same up) told.0 ∙ sym told.3 ∙ text

pub returns-in-Desk-clause-first : goal.returns-in-Desk-clause-first
returns-in-Desk-clause-first g c up =
    let K = g.K.Keeper in
    let laws = g.met.K.Keeper in
    let old = c.args.keeper.now in
    let new = c.look.new.self in
    let same = c.look.ensures.same up in
    let told = told_desk (K.is_empty old) (K.is_desk old) (K.is_old old)
    (K.roster old) c.in_ok-look.field-0 c.in-Desk.desk c.in-Desk.is (c.in_ok-look.ensures.found up) in
    origin_still (K.holds old) (K.holds new) c.in_ok-look.field-0 c.in-Desk.desk c.origin_of.result c.in-Desk.is c.origin_of.ensures
    (laws.stays_set old new same told.0) (c.in_ok-look.ensures.known up) (c.in_ok-look.ensures.counted up)

pub returns-in-Desk-clause-opens : goal.returns-in-Desk-clause-opens
returns-in-Desk-clause-opens g c = λ up.
    let laws = g.met.K.Keeper in
    let told = told_desk (g.K.Keeper.is_empty c.args.keeper.now) (g.K.Keeper.is_desk c.args.keeper.now) (g.K.Keeper.is_old c.args.keeper.now)
    (g.K.Keeper.roster c.args.keeper.now) c.in_ok-look.field-0 c.in-Desk.desk c.in-Desk.is (c.in_ok-look.ensures.found up) in
    let text : string_bytes c.in-Desk.desk.roster ≡ c.args.text.now = search rules in
    inr (told.0, told.1, told.2, sym told.3 ∙ text, laws.stays_set c.args.keeper.now c.look.new.self (c.look.ensures.same up) told.0)

-- ---- whether the keeper is up, and what was committed

pub returns-in_err-look-clause-err : goal.returns-in_err-look-clause-err
returns-in_err-look-clause-err g c = told_want c.in_err-look.field-0.0 c.from_residual.result _ c.from_residual.ensures.1

pub returns-in_err-look-clause-live : goal.returns-in_err-look-clause-live
returns-in_err-look-clause-live g c clean = told_live c.in_err-look.field-0.0 c.from_residual.result _ _ c.from_residual.ensures.1

pub returns-in_err-look-clause-leaves : goal.returns-in_err-look-clause-leaves
returns-in_err-look-clause-leaves g c clean = adds_none _ _ _ (c.look.ensures.leaves clean)

pub returns-in_err-make-in-Empty-clause-err : goal.returns-in_err-make-in-Empty-clause-err
returns-in_err-make-in-Empty-clause-err g c =
    told_want c.in_err-make-in-Empty.field-0.0 c.from_residual-in_err-make-in-Empty.result _ c.from_residual-in_err-make-in-Empty.ensures.1

pub returns-in_err-make-in-Empty-clause-live : goal.returns-in_err-make-in-Empty-clause-live
returns-in_err-make-in-Empty-clause-live g c clean =
    told_live c.in_err-make-in-Empty.field-0.0 c.from_residual-in_err-make-in-Empty.result _ _ c.from_residual-in_err-make-in-Empty.ensures.1

pub returns-in_ok-make-in-Empty-clause-live : goal.returns-in_ok-make-in-Empty-clause-live
returns-in_ok-make-in-Empty-clause-live g c clean = c.in_ok-make-in-Empty.ensures.live clean

pub returns-in_ok-make-in-Empty-clause-leaves : goal.returns-in_ok-make-in-Empty-clause-leaves
returns-in_ok-make-in-Empty-clause-leaves g c clean =
    let K = g.K.Keeper in
    let k = c.args.keeper.now in
    none_then_adds _ _ _ _ (c.look.ensures.leaves (c.make.ensures.served.was_clean clean)) (adds_as _ _ _ _ (λ left it.
    let told = told_empty (K.is_empty k) (K.is_desk k) (K.is_old k) (K.roster k) c.in_ok-look.field-0 c.in-Empty.is (c.in_ok-look.ensures.found it.0) in
    ((c.look.ensures.served.was_up it.0, told.0), it.1)) (c.make.ensures.leaves clean))

pub returns-in_err-make-in-Empty-clause-leaves : goal.returns-in_err-make-in-Empty-clause-leaves
returns-in_err-make-in-Empty-clause-leaves g c clean =
    let K = g.K.Keeper in
    let k = c.args.keeper.now in
    none_then_adds _ _ _ _ (c.look.ensures.leaves (c.make.ensures.served.was_clean clean)) (adds_as _ _ _ _ (λ left it.
    let told = told_empty (K.is_empty k) (K.is_desk k) (K.is_old k) (K.roster k) c.in_ok-look.field-0 c.in-Empty.is (c.in_ok-look.ensures.found it.0) in
    ((c.look.ensures.served.was_up it.0, told.0), it.1)) (c.make.ensures.leaves clean))

pub returns-in-Desk-clause-live : goal.returns-in-Desk-clause-live
returns-in-Desk-clause-live g c clean = c.in_ok-look.ensures.live clean (is_desk c.in_ok-look.field-0 c.in-Desk.desk c.in-Desk.is)

pub returns-in-Desk-clause-leaves : goal.returns-in-Desk-clause-leaves
returns-in-Desk-clause-leaves g c clean = adds_none _ _ _ (c.look.ensures.leaves clean)

pub returns-in-Desk-2-clause-live : goal.returns-in-Desk-2-clause-live
returns-in-Desk-2-clause-live g c clean = inr (inr (c.in_ok-look.ensures.live clean (is_desk c.in_ok-look.field-0 _ c.in-Desk-2.is)))

pub returns-in-Desk-2-clause-leaves : goal.returns-in-Desk-2-clause-leaves
returns-in-Desk-2-clause-leaves g c clean = adds_none _ _ _ (c.look.ensures.leaves clean)

pub returns-in-OldDesk-clause-live : goal.returns-in-OldDesk-clause-live
returns-in-OldDesk-clause-live g c clean = inr (inr (c.in_ok-look.ensures.live clean (is_old_desk c.in_ok-look.field-0 c.in-OldDesk.is)))

pub returns-in-OldDesk-clause-leaves : goal.returns-in-OldDesk-clause-leaves
returns-in-OldDesk-clause-leaves g c clean = adds_none _ _ _ (c.look.ensures.leaves clean)

pub returns-in-NotADesk-clause-live : goal.returns-in-NotADesk-clause-live
returns-in-NotADesk-clause-live g c clean = inr (inl (inr refl))

pub returns-in-NotADesk-clause-leaves : goal.returns-in-NotADesk-clause-leaves
returns-in-NotADesk-clause-leaves g c clean = adds_none _ _ _ (c.look.ensures.leaves clean)

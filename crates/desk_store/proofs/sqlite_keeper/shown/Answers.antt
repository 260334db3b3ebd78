use Rattle.std.proofs.Common.{refl, subst, sym}
use Rattle.store_opening.specs.declared.in_database.InDatabase.{InDatabase}
use Rattle.desk_store.specs.declared.found.Found.TheVariants as found
use Rattle.desk_store.specs.private.Showing.{IsShown}
use Rattle.desk_store.proofs.sqlite_keeper.shown.Goals as goal

pub returns-in-Desk : goal.returns-in-Desk
returns-in-Desk c = subst (λ (f : InDatabase). IsShown f (found.Desk c.shown_desk.result)) (sym c.in-Desk.is) (
  c.shown_desk.result,
  refl,
  record {
    roster = c.shown_desk.ensures.roster;
    known = c.shown_desk.ensures.known;
    count = c.shown_desk.ensures.count;
  },
)

use Rattle.std.proofs.Common.{◌≡◌, take}
use Rattle.store_tables.specs.Sets.{SameSet}
use Rattle.desk_cut.specs.Growing.{WithAll}
use Rattle.desk_cut.proofs.filling.fill.Given as goal

abbrev pub invariant-loop-message : goal.invariant-loop-message
invariant-loop-message g l = record {
  up : g.K.Keeper.is_up l.keeper → g.K.Keeper.is_up l.fn.keeper;
  clean : g.K.Keeper.is_clean l.keeper → g.K.Keeper.is_clean l.fn.keeper;
  desk : g.K.Keeper.is_up l.keeper → g.K.Keeper.is_desk l.keeper;
  roster : g.K.Keeper.is_up l.keeper → g.K.Keeper.roster l.keeper ≡ g.K.Keeper.roster l.fn.keeper;
  held : g.K.Keeper.is_up l.keeper → SameSet (WithAll (g.K.Keeper.holds l.fn.keeper) (take l.message-index l.messages)) (g.K.Keeper.holds l.keeper);
  live : g.K.Keeper.is_up l.fn.keeper → g.K.Keeper.is_clean l.keeper → g.K.Keeper.is_up l.keeper;
}

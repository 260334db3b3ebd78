use Rattle.std.proofs.Common.{◌≡◌, List, ◌++◌, map}
use Rattle.std.specs.List.{AllByRecursion}
use Rattle.messages.specs.declared.message.Message.{Message}
use Rattle.desk_store.specs.Left.{AddsOnly}
use Rattle.desk_store.specs.Serving.{IsServed}
use Rattle.desk_store.specs.Sets.{Lists}
use Rattle.outcomes.specs.Outcomes.{ComesTo}
use Rattle.desk.specs.Serving.{KeepsSettings}
use Rattle.desk_audit.proofs.AuditLemmas.{keyed}
use Rattle.desk_audit.proofs.entry.entries_of.Given as goal

abbrev pub invariant-loop-name : goal.invariant-loop-name
invariant-loop-name g l = record {
  split : map keyed l.entries.items ++ l.name-iterator ≡ l.fn.all.entries;
  told : (set : List Message) → g.K.Keeper.is_up l.desk.keeper → g.K.Keeper.is_desk l.fn.desk.keeper → Lists (g.K.Keeper.holds l.fn.desk.keeper) set
      → AllByRecursion (λ e. ComesTo l.fn.desk.roster.says set e.name e.status) l.entries.items;
  same : g.K.Keeper.is_up l.desk.keeper → g.K.Keeper.is_same l.fn.desk.keeper l.desk.keeper;
  live : (g.K.Keeper.is_clean l.fn.desk.keeper → g.K.Keeper.is_up l.fn.desk.keeper) → g.K.Keeper.is_clean l.desk.keeper → g.K.Keeper.is_up l.desk.keeper;
  leaves : g.K.Keeper.is_clean l.desk.keeper → AddsOnly (g.K.Keeper.may_leave l.fn.desk.keeper) (g.K.Keeper.may_leave l.desk.keeper) (λ _. ⊥);
  settings : KeepsSettings l.fn.desk l.desk;
  served : IsServed g.K.Keeper.is_up g.K.Keeper.is_clean g.K.Keeper.failures g.K.Keeper.beside l.fn.desk.keeper l.desk.keeper ⊥ ⊥;
}

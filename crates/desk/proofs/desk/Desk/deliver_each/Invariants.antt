use Rattle.std.proofs.Common.{◌≡◌, ◌⊎◌, ◌≤◌, length, map, take, vec_len, vec_capacity, Err}
use Rattle.std.specs.List.{Contains}
use Rattle.messages.specs.declared.message.Message.{Message}
use Rattle.desk_store.specs.Left.{AddsOnly, LeavesOnly}
use Rattle.desk_store.specs.Serving.{IsServed}
use Rattle.desk.specs.Crash.{IsLeftByDeliveries}
use Rattle.desk.specs.Delivery.{AcknowledgesAmong, AreAnswers, HaveFailed, HeldAfterAll, WasWantingAmong, delivery_of, storage_failures}
use Rattle.desk.specs.Serving.{KeepsSettings}
use Rattle.desk.specs.declared.refusal.Refusal.TheVariants.{Storage}
use Rattle.desk.proofs.desk.Desk.deliver_each.Given as goal

abbrev pub invariant-loop-relay : goal.invariant-loop-relay
invariant-loop-relay g l = record {
  answered : AreAnswers l.fn.self.roster.says (map delivery_of (take l.relay-index l.list)) l.answers.items;
  held : g.K.Keeper.is_up l.self.keeper
      → HeldAfterAll (g.K.Keeper.holds l.fn.self.keeper) (map delivery_of (take l.relay-index l.list)) l.answers.items (g.K.Keeper.holds l.self.keeper);
  settings : KeepsSettings l.fn.self l.self;
  served : IsServed g.K.Keeper.is_up g.K.Keeper.is_clean g.K.Keeper.failures g.K.Keeper.beside l.fn.self.keeper l.self.keeper
      (Contains l.answers.items (Err Storage)) (WasWantingAmong l.answers.items);
  causes : HaveFailed (storage_failures l.answers.items) (g.K.Keeper.failures l.fn.self.keeper) (g.K.Keeper.failures l.self.keeper);
  repeated : g.K.Keeper.is_up l.self.keeper
      → ((m : Message) → AcknowledgesAmong (map delivery_of (take l.relay-index l.list)) l.answers.items m → g.K.Keeper.holds l.fn.self.keeper m)
      → g.K.Keeper.is_same l.fn.self.keeper l.self.keeper;
  live : g.K.Keeper.is_clean l.self.keeper → (m : Message) → AcknowledgesAmong (map delivery_of (take l.relay-index l.list)) l.answers.items m
      → WasWantingAmong l.answers.items ⊎ g.K.Keeper.is_up l.self.keeper;
  crash : g.K.Keeper.is_up l.fn.self.keeper → g.K.Keeper.is_clean l.self.keeper
      → LeavesOnly (g.K.Keeper.may_leave l.self.keeper) (IsLeftByDeliveries l.fn.self.roster.says l.fn.self.roster.text
      (g.K.Keeper.holds l.fn.self.keeper) (map delivery_of (take l.relay-index l.list)) l.answers.items);
  leaves : g.K.Keeper.is_clean l.self.keeper
      → AddsOnly (g.K.Keeper.may_leave l.fn.self.keeper) (g.K.Keeper.may_leave l.self.keeper) (λ left. g.K.Keeper.is_up l.fn.self.keeper
      × IsLeftByDeliveries l.fn.self.roster.says l.fn.self.roster.text (g.K.Keeper.holds l.fn.self.keeper)
      (map delivery_of (take l.relay-index l.list)) l.answers.items left);
  count : vec_len l.answers ≡ l.relay-index;
  room : length l.list ≤ vec_capacity l.answers;
}

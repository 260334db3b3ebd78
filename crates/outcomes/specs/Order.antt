-- The orders of names and of texts, and lists in a strict order.
pub use Rattle.messages.specs.Names.{NamePrecedes}
pub use Rattle.messages.specs.Order.{AllAfter, AreInOrder, TextPrecedes}

use Rattle.std.proofs.Common.{subst}
use Rattle.sqlite.specs.Schema.{Schema}
use Rattle.store_schema.specs.Shapes.{IsShape}
use Rattle.desk_store.proofs.replacing.shape_in.Goals as goal

pub returns : goal.returns
returns g c = subst (λ (s : Schema). IsShape s c.shape_of.result) c.schema.ensures.value c.shape_of.ensures

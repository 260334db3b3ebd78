use Rattle.std.proofs.Common.{◌↔◌, IsTrue, subst}
use Rattle.sqlite.specs.Schema.{Schema}
use Rattle.store_schema.specs.Migratable.{IsMigratable}
use Rattle.store_migration.proofs.commit.can_migrate.Goals as goal

pub returns : goal.returns
returns g c = subst (λ (s : Schema). IsTrue c.is_migratable.result ↔ IsMigratable s) c.schema.ensures.value c.is_migratable.ensures

-- How a keeper's refusals are shown: by their names.
use Rattle.std.specs.Prelude.{ℕ, List, codes}
use Rattle.desk_store.specs.declared.error.KeeperError.{KeeperError}
use Rattle.desk_store.specs.declared.error.KeeperError.TheVariants.{NoMemory, Storage}

abbrev pub error_text : KeeperError → List ℕ
error_text NoMemory = codes "NoMemory"
error_text Storage = codes "Storage"

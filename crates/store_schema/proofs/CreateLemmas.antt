-- What the CREATE of each part does, for any schema that lacks its name.
use Rattle.std.proofs.Common.{◌≡◌, ℕ, [], Ok, false, refl, codes}
use Rattle.sqlite.specs.Schema.{Schema}
use Rattle.sqlite.specs.Command.TheVariants as command
use Rattle.sqlite.specs.Compile.{table_defined_by}
use Rattle.sqlite.specs.Does.{lacks_sequence}
use Rattle.sqlite.specs.Listing.{understood}
use Rattle.sqlite.specs.State.{State, Executes}
use Rattle.sqlite.proofs.Callers.{IsPlain, command_of, statement_of}
use Rattle.sqlite_tied.specs.Compute.{everything}
use Rattle.store_tables.proofs.Creates.{IsCreate, create_is, defined, defined_rows, desk_means, messages_means, names_means, parked_means, verdicts_means}
use Rattle.store_schema.specs.declared.part.DeskPart.{DeskPart}
use Rattle.store_schema.specs.declared.part.DeskPart.TheVariants.{Desk, Messages, Names, Marks, Verdicts, Parked}
use Rattle.store_schema.specs.Parts.{marks, table_at}
use Rattle.store_schema.specs.Shapes.{Lacks}
use Rattle.store_schema.specs.Founding.{Adds}
use Rattle.store_schema.specs.private.Making.{text_of}
use Rattle.store_schema.proofs.GrowLemmas.{counts_not}
use Rattle.store_schema.proofs.Makes.{adds}

marks_parts : IsCreate (text_of Marks) (codes "marks")
unfolding everything
marks_parts = record {
  p = _;
  def = _;
  t = _;
  parsed = refl;
  statement = refl;
  formats = refl;
  name_is = refl;
  missing = refl;
  resolves = refl;
  defined = refl;
  whole = refl;
  reserved = refl;
  text_is = λ s. refl;
}

marks_defined : table_defined_by (text_of Marks) ≡ Ok marks
unfolding everything
marks_defined = refl

means : (part : DeskPart) (s : Schema) → Lacks s part → (command_of (understood s (text_of part)) ≡ command.CreateTable)
    × (statement_of (text_of part) (understood s (text_of part)) ≡ text_of part) × IsPlain (understood s (text_of part))
means Desk s free = desk_means s free
means Messages s free = messages_means s free
means Names s free = names_means s free
means Marks s free = create_is s (text_of Marks) (codes "marks") marks_parts free
means Verdicts s free = verdicts_means s free
means Parked s free = parked_means s free

defines : (part : DeskPart) → table_defined_by (text_of part) ≡ Ok (table_at part 0)
defines Desk = defined.0
defines Messages = defined.1
defines Names = defined_rows.0
defines Marks = marks_defined
defines Verdicts = defined_rows.1
defines Parked = defined_rows.2

pub adds_part : (part : DeskPart) (old new : State) (count : ℕ) → Lacks old.now.schema part → lacks_sequence old.now.schema ≡ false
    → Executes (text_of part) [] old new (Ok count) → Adds (table_at part 0) old.now new.now
adds_part part old new count free none h =
    adds (text_of part) (table_at part 0) old new count (means part old.now.schema free) (defines part) (counts_not part 0) none h

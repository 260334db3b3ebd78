use Rattle.std.specs.Prelude.{string_bytes}
use Rattle.std.proofs.Common.{refl, subst, sym}
use Rattle.desk_commands.specs.Comparing.{IsShown}
use Rattle.desk_args.specs.declared.status.ExitStatus.TheVariants.{Done, Found}
use Rattle.desk_commands.proofs.comparing.shown.Goals as goal

pub returns-in_ok-case_line-in-Some : goal.returns-in_ok-case_line-in-Some
returns-in_ok-case_line-in-Some c =
    subst (λ found. IsShown found Found (string_bytes c.in_ok-case_line-in-Some.field-0)) (sym c.in-Some.is) (refl, c.in_ok-case_line-in-Some.ensures)

pub returns-in_ok-from_str-in-None : goal.returns-in_ok-from_str-in-None
returns-in_ok-from_str-in-None c =
    subst (λ found. IsShown found Done (string_bytes c.in_ok-from_str-in-None.field-0)) (sym c.in-None.is) (refl, c.in_ok-from_str-in-None.ensures.ok)

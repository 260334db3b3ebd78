-- The worked site: what is asked there is admitted, or this is its first denial.
use Rattle.std.proofs.Common.{◌≡◌, true, false, [], ◌∷◌, All, refl, lit≤}
use Rattle.std.specs.Prelude.{codes}
use Rattle.std.specs.List.{list_any}
use Rattle.std.proofs.lemmas.Bool.{and_left}
use Rattle.std.proofs.lemmas.List.Elements.{All-cons, All-nil}
use Rattle.sudo_words.specs.Command.{IsLawful}
use Rattle.sudo_words.specs.declared.cmnd.Cmnd.{Cmnd}
use Rattle.sudo_words.specs.declared.cmnd.Cmnd.TheVariants.{Dir}
use Rattle.messages.specs.declared.message.Message.TheVariants.{Request}
use Rattle.grants.specs.private.Forms.{is_inside}
use Rattle.grants.specs.Admission.{IsDenial}
use Rattle.grants.specs.WorkedAdmission.{site, db_root, file, asked_for}
use Rattle.grants.specs.declared.denial.Denial.TheVariants.{CommandOutside}
use Rattle.grants.proofs.AdmissionLemmas.{command_outside}

-- the site's ceiling has lawful commands
lawful_ones : All IsLawful db_root.commands
lawful_ones =
    All-cons IsLawful (file (codes "/bin/ls")) (Dir (codes "/usr/bin/") ∷ []) (record { head = (refl, lit≤ tt, refl); args = tt; short = lit≤ tt })
    (All-cons IsLawful (Dir (codes "/usr/bin/")) [] (record { head = (refl, lit≤ tt); args = tt; short = lit≤ tt }) (All-nil IsLawful))

-- a command that none of them holds
pub no_command : (k : Cmnd) → IsLawful k → list_any (is_inside k) db_root.commands ≡ false → IsDenial site (Request (asked_for k)) CommandOutside
no_command k lawful e =
    command_outside site (asked_for k) db_root (record { listed = refl; ceiling_is = refl; may_ask = refl }) refl refl
    (All-cons IsLawful k [] lawful (All-nil IsLawful)) lawful_ones (and_left (list_any (is_inside k) db_root.commands) true e)

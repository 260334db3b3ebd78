-- What reading the text of a file's bytes says of the file.
use Rattle.std.specs.Prelude.{◌≡◌, ◌≢◌, List, ℕ, Result, Ok, Err, IfOk, IfErr, IsUtf8}
use Rattle.std.proofs.Common.{◌∙◌, subst, inl, inr, refl}
use Rattle.sudo_words.specs.declared.cmnd.Cmnd.{Cmnd}
use Rattle.roster.specs.Fields.{RosterFields}
use Rattle.roster.specs.Faults.{IsLeastFault, IsRosterText}
use Rattle.roster.specs.declared.fault.RosterFault.{RosterFault}
use Rattle.roster.specs.declared.fault.RosterFault.TheVariants.{NoMemory, NotToml}
use Rattle.desk_commands.specs.Files.{IsRosterFault, IsRosterFile}

pub roster_file : (file text : List ℕ) (f : RosterFields Cmnd) → text ≡ file → IsUtf8 file → IsRosterText text f → IsRosterFile file f
roster_file file text f same utf8 is = record { utf8 = utf8; text = subst (λ bytes. IsRosterText bytes f) same is }

pub least_of_file : (file text : List ℕ) (e : RosterFault) → text ≡ file → IsUtf8 file → (e ≢ NoMemory → IsLeastFault text e) → IsRosterFault file e
least_of_file file text e same utf8 least = λ other. inr (utf8, subst (λ bytes. IsLeastFault bytes e) same (least other))

pub no_text : (file : List ℕ) → (IsUtf8 file → ⊥) → IsRosterFault file NotToml
no_text file never = λ other. inl (refl, never)

pub file_read : {X : Type 0} (text_of : X → List ℕ) (says : X → RosterFields Cmnd) (file text : List ℕ) (read : Result X RosterFault) → text ≡ file
    → IsUtf8 file → IfOk read (λ r. (text_of r ≡ text) × IsRosterText text (says r)) → IfErr read (λ e. e ≢ NoMemory → IsLeastFault text e)
    → IfOk read (λ r. IsRosterFile file (says r) × (text_of r ≡ file)) × IfErr read (IsRosterFault file)
file_read text_of says file text (Ok r) same utf8 found least = ((roster_file file text (says r) same utf8 found.1, found.0 ∙ same), tt)
file_read text_of says file text (Err e) same utf8 found least = (tt, least_of_file file text e same utf8 least)

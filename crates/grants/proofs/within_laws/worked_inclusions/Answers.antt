use Rattle.std.proofs.Common.{[], ◌∷◌, refl}
use Rattle.std.specs.Prelude.{codes}
use Rattle.sudo_words.specs.declared.cmnd.Cmnd.TheVariants.{All, Dir}
use Rattle.grants.specs.WorkedAdmission.{file, file_alone, file_with}
use Rattle.grants.proofs.FormLaws.{outside}
use Rattle.grants.proofs.Witnesses.{inside}
use Rattle.grants.proofs.within_laws.worked_inclusions.Goals as goal

pub returns : goal.returns
returns c = record {
  argument = inside (file_with (codes "/bin/ls") (codes "-l" ∷ [])) (file (codes "/bin/ls")) refl;
  any_argument =
      outside (file (codes "/bin/ls")) (file_with (codes "/bin/ls") (codes "-l" ∷ [])) (codes "/bin/ls") []
      (record { path_is = refl; args_are = tt; matches_it = refl }) refl;
  other_argument =
      outside (file_with (codes "/bin/ls") (codes "-a" ∷ [])) (file_with (codes "/bin/ls") (codes "-l" ∷ [])) (codes "/bin/ls") (codes "-a" ∷ [])
      (record { path_is = refl; args_are = (refl, tt); matches_it = refl }) refl;
  no_argument = inside (file_alone (codes "/bin/ls")) (file (codes "/bin/ls")) refl;
  no_argument_only =
      outside (file (codes "/bin/ls")) (file_alone (codes "/bin/ls")) (codes "/bin/ls") (codes "-l" ∷ [])
      (record { path_is = refl; args_are = (refl, tt); matches_it = refl }) refl;
  no_argument_nor_one =
      outside (file_alone (codes "/bin/ls")) (file_with (codes "/bin/ls") (codes "-l" ∷ [])) (codes "/bin/ls") []
      (record { path_is = refl; args_are = tt; matches_it = refl }) refl;
  in_directory = inside (file (codes "/usr/bin/id")) (Dir (codes "/usr/bin/")) refl;
  with_argument = inside (file_with (codes "/usr/bin/id") (codes "-u" ∷ [])) (Dir (codes "/usr/bin/")) refl;
  below_directory =
      outside (file (codes "/usr/bin/x/y")) (Dir (codes "/usr/bin/")) (codes "/usr/bin/x/y") []
      (record { path_is = refl; args_are = tt; matches_it = refl }) refl;
  subdirectory =
      outside (Dir (codes "/usr/bin/")) (Dir (codes "/usr/")) (codes "/usr/bin/id") []
      (record { path_is = refl; args_are = tt; matches_it = refl }) refl;
  parent =
      outside (Dir (codes "/usr/")) (Dir (codes "/usr/bin/")) (codes "/usr/id") []
      (record { path_is = refl; args_are = tt; matches_it = refl }) refl;
  all_in_directory = outside All (Dir (codes "/usr/bin/")) (codes "/bin/ls") [] (record { path_is = refl; args_are = tt; matches_it = refl }) refl;
  all_in_file = outside All (file (codes "/bin/ls")) (codes "/bin/cat") [] (record { path_is = refl; args_are = tt; matches_it = refl }) refl;
}

use Rattle.grants.proofs.FormLaws.{everything, only_all, directories, not_in_file, file, same_file}
use Rattle.grants.proofs.within_laws.forms_of_inclusion.Goals as goal

pub returns : goal.returns
returns c = record {
  everything = everything;
  only_all = only_all;
  directories = directories;
  not_in_file = not_in_file;
  file = file;
  same_file = same_file;
}

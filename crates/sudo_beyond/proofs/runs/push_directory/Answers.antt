use Rattle.std.proofs.Common.{◌≡◌, List, ℕ, ◌++◌, true, sym, subst}
use Rattle.sudo_words.specs.Word.{is_file_path}
use Rattle.sudo_beyond.specs.Cases.{other}
use Rattle.sudo_beyond.proofs.CmndCases.{files_in_dir}
use Rattle.sudo_beyond.proofs.runs.push_directory.Goals as goal

pub push_fresh-requires-clause-form : goal.push_fresh-requires-clause-form
push_fresh-requires-clause-form c = λ k small.
    subst (λ (w : List ℕ). is_file_path (w ++ other k) ≡ true) (sym c.as_str.ensures.value) (files_in_dir c.args.dir.now c.requires.lawful k small)

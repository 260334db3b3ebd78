-- A list of texts, one of which is not of the form.
use Rattle.std.proofs.Common.{◌≡◌, ℕ, ◌<◌, Bool, true, false, List, length, map, ◌∙◌, Bor, ap, get_or, refl, subst, sym}
use Rattle.std.specs.List.{list_all}
use Rattle.std.proofs.lemmas.List.Folds.{list_all_at, list_all-map}
use Rattle.std.proofs.lemmas.List.{length-map}
use Rattle.clap.specs.Words.{Text}
use Rattle.sudo_words.specs.declared.fault.WordFault.{WordFault}
use Rattle.sudo_words.specs.declared.fault.WordFault.TheVariants as word
use Rattle.desk_args.specs.declared.fault.JobFault.TheVariants.{BadWord}
use Rattle.desk_args.specs.Faults.{of_word}

pub bad_text : (form : Text → Bool) (texts : List (Bor Text)) (i : ℕ) (d : Bor Text) → i < length texts → form (get_or texts i d).now ≡ false
    → list_all form (map (λ t. t.now) texts) ≡ false
bad_text form texts i d lt bad = list_all-map form (λ (t : Bor Text). t.now) texts ∙ list_all_at (λ (t : Bor Text). form t.now) texts i d lt bad

-- a text that is refused for another reason than memory is not of the form
pub refused : (form : Bool) (fault : WordFault) → (form ≡ true → fault ≡ word.NoMemory) → of_word fault ≡ BadWord → form ≡ false
refused false fault only e = refl
refused true fault only e =
    let memory : fault ≡ word.NoMemory = only refl in
    let both : of_word word.NoMemory ≡ BadWord = subst (λ (f : WordFault). of_word f ≡ BadWord) memory e in
    absurd cc

pub length-texts : (texts : List (Bor Text)) (values : List Text) → map (λ t. t.now) texts ≡ values → length texts ≡ length values
length-texts texts values e = sym (length-map texts (λ (t : Bor Text). t.now)) ∙ ap length e

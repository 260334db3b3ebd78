-- A text belongs to one command, and so do a head and a rule.
use Rattle.std.proofs.Common.{◌≡◌, ℕ, List, [], ◌∷◌, ◌++◌, true, false, eqb, map, refl, sym, ap, ap₂, ◌∙◌}
use Rattle.std.specs.Prelude.{codes, All as AllOf}
use Rattle.std.specs.List.{slice_split}
use Rattle.std.proofs.lemmas.Bool.{false≢true}
use Rattle.std.proofs.lemmas.List.Elements.{All-head, All-tail}
use Rattle.sudo_words.specs.Word.{is_dir_path, is_file_path}
use Rattle.sudo_words.specs.Command.{IsHead, IsLawful, cmnd_text, head_text, rule_of}
use Rattle.sudo_words.specs.private.Pieces.{words_of}
use Rattle.sudo_words.specs.declared.cmnd.Cmnd.{Cmnd}
use Rattle.sudo_words.specs.declared.cmnd.Cmnd.TheVariants.{All, Path, Dir}
use Rattle.sudo_words.specs.declared.cmnd.ArgRule.{ArgRule}
use Rattle.sudo_words.proofs.PathLemmas.{dir_parts, no_slash_ended}
use Rattle.sudo_words.proofs.PieceLemmas.{cut_words, head_no_space, words_no_space, words_text, one_rule}

-- `ALL` is neither a file nor a directory
pub all_no_file : is_file_path (codes "ALL") ≡ false
all_no_file = refl

pub all_no_dir : is_dir_path (codes "ALL") ≡ false
all_no_dir = refl

pub no_file_all : (file : List ℕ) → is_file_path file ≡ true → file ≡ codes "ALL" → ⊥
no_file_all file h e = false≢true (sym all_no_file ∙ ap is_file_path (sym e) ∙ h)

pub no_dir_all : (dir : List ℕ) → is_dir_path dir ≡ true → dir ≡ codes "ALL" → ⊥
no_dir_all dir h e = false≢true (sym all_no_dir ∙ ap is_dir_path (sym e) ∙ h)

-- no file is a directory
pub no_file_dir : (file dir : List ℕ) → is_file_path file ≡ true → is_dir_path dir ≡ true → file ≡ dir → ⊥
no_file_dir file dir h k e = no_slash_ended dir (dir_parts dir k).0 (ap is_file_path (sym e) ∙ h)

-- a path of its form, of any length
abbrev pub HasForm : Cmnd → Type 0
HasForm All = Unit {0}
HasForm (Path file rule) = is_file_path file ≡ true
HasForm (Dir dir) = is_dir_path dir ≡ true

pub head_form : (c : Cmnd) → IsHead c → HasForm c
head_form All h = tt
head_form (Path file rule) h = h.0
head_form (Dir dir) h = h.0

pub same_form : (c d : Cmnd) → HasForm c → HasForm d → head_text c ≡ head_text d → rule_of c ≡ rule_of d → c ≡ d
same_form All All h k e r = refl
same_form All (Path file rule) h k e r = absurd (no_file_all file k (sym e))
same_form All (Dir dir) h k e r = absurd (no_dir_all dir k (sym e))
same_form (Path file rule) All h k e r = absurd (no_file_all file h e)
same_form (Path file rule) (Path other same) h k e r = ap (λ (f : List ℕ). Path f rule) e ∙ ap (λ (q : ArgRule). Path other q) r
same_form (Path file rule) (Dir dir) h k e r = absurd (no_file_dir file dir h k e)
same_form (Dir dir) All h k e r = absurd (no_dir_all dir h e)
same_form (Dir dir) (Path file rule) h k e r = absurd (no_file_dir file dir k h (sym e))
same_form (Dir dir) (Dir other) h k e r = ap (λ (d : List ℕ). Dir d) e

-- no two commands have the same head and rule
pub same_command : (c d : Cmnd) → IsLawful c → IsLawful d → head_text c ≡ head_text d → rule_of c ≡ rule_of d → c ≡ d
same_command c d x y e r = same_form c d (head_form c x.head) (head_form d y.head) e r

-- the words of a command's text
pub cmnd_words : (c : Cmnd) → IsLawful c → slice_split (λ b. eqb b 32) (cmnd_text c) ≡ head_text c ∷ words_of (rule_of c)
cmnd_words c x =
    ap (λ (t : List ℕ). slice_split (λ (b : ℕ). eqb b 32) (head_text c ++ t)) (words_text (rule_of c))
    ∙ cut_words (head_text c) (words_of (rule_of c)) (head_no_space c x.head) (words_no_space (rule_of c) x.args)

-- no text is that of two commands
pub one_command : (c d : Cmnd) → IsLawful c → IsLawful d → cmnd_text c ≡ cmnd_text d → c ≡ d
one_command c d x y e =
    let both : head_text c ∷ words_of (rule_of c) ≡ head_text d ∷ words_of (rule_of d) =
    sym (cmnd_words c x) ∙ ap (slice_split (λ (b : ℕ). eqb b 32)) e ∙ cmnd_words d y in
    let heads : head_text c ≡ head_text d = cc in
    let others : words_of (rule_of c) ≡ words_of (rule_of d) = cc in
    same_command c d x y heads (one_rule (rule_of c) (rule_of d) x.args y.args others)

-- a list of texts is one list of commands
pub one_cmnds : (cs ds : List Cmnd) → AllOf IsLawful cs → AllOf IsLawful ds → map cmnd_text cs ≡ map cmnd_text ds → cs ≡ ds
one_cmnds [] [] a b e = refl
one_cmnds [] (d ∷ ds) a b e = absurd cc
one_cmnds (c ∷ cs) [] a b e = absurd cc
one_cmnds (c ∷ cs) (d ∷ ds) a b e =
    let first : cmnd_text c ≡ cmnd_text d = cc in
    let rest : map cmnd_text cs ≡ map cmnd_text ds = cc in
    ap₂ (λ (x : Cmnd) (xs : List Cmnd). x ∷ xs) (one_command c d (All-head IsLawful c cs a) (All-head IsLawful d ds b) first)
    (one_cmnds cs ds (All-tail IsLawful c cs a) (All-tail IsLawful d ds b) rest)

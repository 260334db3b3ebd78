-- What is read word by word: arguments, the rule for them, and the command.
use Rattle.std.proofs.Common.{◌≡◌, ℕ, zero, suc, ◌-◌, ◌<◌, ◌≤◌, true, false, eqb, Bor, List, [], ◌∷◌, ◌++◌}
use Rattle.std.proofs.Common.{length, get_or, drop, map, Result, Ok, Err, refl, sym, ap, subst, ◌∙◌, arith}
use Rattle.std.specs.Prelude.{codes, IfOk, IsErrAnd, MatchResult}
use Rattle.std.specs.Str.{bytes_eq}
use Rattle.std.specs.List.{AllByRecursion, flat_map, list_all, slice_split}
use Rattle.std.proofs.lemmas.Bool.{and_parts}
use Rattle.std.proofs.lemmas.List.{append-nil, nil_from_length}
use Rattle.std.proofs.lemmas.Result.{IfOk-weaker}
use Rattle.sudo_words.specs.Word.{is_arg, is_arg_byte, is_dir_path, is_file_path}
use Rattle.sudo_words.specs.Command.{IsHead, IsLawful, arg_text, cmnd_text, escaped_byte, head_text, rule_of}
use Rattle.sudo_words.specs.private.Pieces.{words_of}
use Rattle.sudo_words.specs.declared.cmnd.Cmnd.{Cmnd}
use Rattle.sudo_words.specs.declared.cmnd.Cmnd.TheVariants.{All, Path, Dir}
use Rattle.sudo_words.specs.declared.cmnd.ArgRule.{ArgRule}
use Rattle.sudo_words.specs.declared.fault.CmndFault.{CmndFault}
use Rattle.sudo_words.specs.declared.fault.CmndFault.TheVariants as faults
use Rattle.sudo_words.specs.declared.fault.WordFault.{WordFault}
use Rattle.sudo_words.specs.declared.fault.WordFault.TheVariants as word
use Rattle.sudo_words.proofs.ArgLemmas.{goes_on, same_bytes}
use Rattle.sudo_words.proofs.PathLemmas.{no_slash_ended}
use Rattle.sudo_words.proofs.PieceLemmas.{spaced, from_words, words_text}
use Rattle.sudo_words.proofs.CommandLemmas.{cmnd_words}

-- a fault of a word on the way out
pub no_memory : {T : Type 0} (result : Result T CmndFault) (w : WordFault) (P : T → Type 0)
    → IsErrAnd result (λ e. w ≡ word.NoMemory → e ≡ faults.NoMemory) → w ≡ word.NoMemory → MatchResult result P (λ e. e ≡ faults.NoMemory)
no_memory (Ok x) w P h e = absurd h
no_memory (Err f) w P h e = h e

pub same_fault : {T : Type 0} (result : Result T WordFault) (w : WordFault) (P : T → Type 0)
    → IsErrAnd result (λ e. e ≡ w) → w ≡ word.NoMemory → MatchResult result P (λ e. e ≡ word.NoMemory)
same_fault (Ok x) w P h e = absurd h
same_fault (Err f) w P h e = h ∙ e

-- ---- an argument, byte by byte

-- once nothing is left, what was read is the argument
pub read_whole : (text out left a : List ℕ) → list_all is_arg_byte out ≡ true → list_all is_arg_byte a ≡ true
    → text ≡ arg_text out ++ left → text ≡ arg_text a → length left ≡ 0 → out ≡ a
read_whole text out left a o h whole is none =
    same_bytes out a o h (sym (append-nil (arg_text out)) ∙ ap (λ (t : List ℕ). arg_text out ++ t) (sym (nil_from_length left none)) ∙ sym whole ∙ is)

nothing_left : (left rest : List ℕ) → left ≡ arg_text rest → list_all is_arg_byte rest ≡ true
    → ((b : ℕ) (more : List ℕ) → is_arg_byte b ≡ true → left ≡ escaped_byte b ++ more → ⊥) → length left ≡ 0
nothing_left left [] e h stuck = ap length e
nothing_left left (b ∷ rest) e h stuck = absurd (stuck b (arg_text rest) (and_parts (is_arg_byte b) (list_all is_arg_byte rest) h).0 e)

-- where no byte of an argument comes next, nothing is left
pub read_stuck : (text out left a : List ℕ) → list_all is_arg_byte out ≡ true → list_all is_arg_byte a ≡ true → text ≡ arg_text out ++ left → text ≡ arg_text a
    → ((b : ℕ) (more : List ℕ) → is_arg_byte b ≡ true → left ≡ escaped_byte b ++ more → ⊥) → length left ≡ 0
read_stuck text out left a o h whole is stuck =
    let on = goes_on a out left h o (sym is ∙ whole) in
    nothing_left left on.rest on.left_is on.bytes stuck

-- ---- arguments, word by word

abbrev pub texts_of : List (Bor (List ℕ)) → List (List ℕ)
texts_of words = map (λ w. w.now) words

-- the argument that a word is
pub record WordIs (word : List ℕ) : Type 0 where
  pub arg : List ℕ
  pub form : is_arg arg ≡ true
  pub text_is : word ≡ arg_text arg

pub word_at : (words : List (Bor (List ℕ))) (args : List (List ℕ)) (i : ℕ) (d : Bor (List ℕ)) → i < length words
    → AllByRecursion (λ a. is_arg a ≡ true) args → texts_of words ≡ map arg_text args → WordIs (get_or words i d).now
word_at [] args i d low h e = absurd (omega arith)
word_at (w ∷ words) [] i d low h e = absurd cc
word_at (w ∷ words) (a ∷ args) zero d low h e = record { arg = a; form = h.0; text_is = cc }
word_at (w ∷ words) (a ∷ args) (suc i) d low h e = let rest : texts_of words ≡ map arg_text args = cc in word_at words args i d (omega arith) h.1 rest

-- a list of one word
pub one_word : (words : List (Bor (List ℕ))) (d : Bor (List ℕ)) → 1 ≤ length words → length words < 2 → texts_of words ≡ (get_or words 0 d).now ∷ []
one_word [] d some few = absurd (omega arith)
one_word (w ∷ []) d some few = refl
one_word (w ∷ v ∷ words) d some few = absurd (omega arith)

-- ---- commands

-- the command of a head that ends in a slash is that directory
pub dir_only : (head : List ℕ) (c : Cmnd) → IsHead c → bytes_eq (drop (length head - 1) head) (codes "/") ≡ true
    → head ≡ head_text c → (is_dir_path head ≡ true) × (Dir head ≡ c)
dir_only head All h slash e = let bad : false ≡ true = ap (λ (w : List ℕ). bytes_eq (drop (length w - 1) w) (codes "/")) (sym e) ∙ slash in absurd cc
dir_only head (Path file rule) h slash e = absurd (no_slash_ended head slash (subst (λ (w : List ℕ). is_file_path w ≡ true) (sym e) h.0))
dir_only head (Dir dir) h slash e = (ap is_dir_path e ∙ h.0, ap (λ (d : List ℕ). Dir d) e)

-- the words of a text, where a first one and the others are found
pub first_word : (text : List ℕ) (items others : List (Bor (List ℕ))) (first : Bor (List ℕ)) → texts_of items ≡ slice_split (λ b. eqb b 32) text
    → items ≡ first ∷ others → slice_split (λ b. eqb b 32) text ≡ first.now ∷ texts_of others
first_word text items others first is e = sym is ∙ ap texts_of e

pub cmnd_parts : (text first : List ℕ) (others : List (List ℕ)) (c : Cmnd) → slice_split (λ b. eqb b 32) text ≡ first ∷ others
    → IsLawful c → text ≡ cmnd_text c → (first ≡ head_text c) × (others ≡ words_of (rule_of c))
cmnd_parts text first others c words x e =
    let both : first ∷ others ≡ head_text c ∷ words_of (rule_of c) = sym words ∙ ap (slice_split (λ (b : ℕ). eqb b 32)) e ∙ cmnd_words c x in
    (cc, cc)

pub cmnd_found : (text first : List ℕ) (others : List (List ℕ)) (rule : ArgRule) (result : Result Cmnd CmndFault)
    → slice_split (λ b. eqb b 32) text ≡ first ∷ others → others ≡ words_of rule
    → IfOk result (λ c. IsLawful c × (head_text c ≡ first) × (rule_of c ≡ rule)) → IfOk result (λ c. IsLawful c × (text ≡ cmnd_text c))
cmnd_found text first others rule result words behind h =
    IfOk-weaker result _ _
    (λ c found. (
      found.0,
      from_words text first others words ∙ ap (λ (w : List ℕ). w ++ flat_map spaced others) (sym found.1)
          ∙ ap (λ (ws : List (List ℕ)). head_text c ++ flat_map spaced ws) (behind ∙ ap words_of (sym found.2))
          ∙ ap (λ (t : List ℕ). head_text c ++ t) (sym (words_text (rule_of c))),
    ))
    h

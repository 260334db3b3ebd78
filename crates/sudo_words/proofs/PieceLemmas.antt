-- The words of a command's text: they have no space, so cutting the text at its spaces gives them back.
use Rattle.std.proofs.Common.{◌≡◌, ℕ, true, false, eqb, List, [], ◌∷◌, ◌++◌, map, refl, sym, ap, subst, ◌∙◌, arith}
use Rattle.std.specs.Prelude.{codes}
use Rattle.std.specs.List.{AllByRecursion, flat_map, join_with_byte, slice_split}
use Rattle.std.proofs.lemmas.Bool.{false≢true, ne_eqb}
use Rattle.std.proofs.lemmas.List.{append-nil}
use Rattle.std.proofs.lemmas.List.Elements.{All-from_recursion}
use Rattle.std.proofs.lemmas.List.Splits.{slice_split_none, slice_split_at, join_with_byte-slice_split}
use Rattle.sudo_words.specs.Word.{is_arg, is_arg_byte, is_path_byte}
use Rattle.sudo_words.specs.Command.{IsArgRule, IsHead, arg_text, head_text, arg_rule_text, spaced_arg}
use Rattle.sudo_words.specs.private.Pieces.{words_of}
use Rattle.sudo_words.specs.declared.cmnd.Cmnd.{Cmnd}
use Rattle.sudo_words.specs.declared.cmnd.Cmnd.TheVariants.{All, Path, Dir}
use Rattle.sudo_words.specs.declared.cmnd.ArgRule.{ArgRule}
use Rattle.sudo_words.specs.declared.cmnd.ArgRule.TheVariants.{Any, Empty, Exactly}
use Rattle.sudo_words.proofs.ArgLemmas.{arg_parts, arg_text_each, same_arg}
use Rattle.sudo_words.proofs.PathLemmas.{file_each, dir_each}

-- ---- words behind single spaces

abbrev pub spaced : List ℕ → List ℕ
spaced w = 32 ∷ w

abbrev pub HasNoSpace : List ℕ → Type 0
HasNoSpace w = AllByRecursion (λ b. eqb b 32 ≡ false) w

pub cut_words : (first : List ℕ) (others : List (List ℕ)) → HasNoSpace first → AllByRecursion HasNoSpace others
    → slice_split (λ b. eqb b 32) (first ++ flat_map spaced others) ≡ first ∷ others
cut_words first [] h k =
    ap (slice_split (λ (b : ℕ). eqb b 32)) (append-nil first)
    ∙ slice_split_none (λ (b : ℕ). eqb b 32) first (All-from_recursion (λ (b : ℕ). eqb b 32 ≡ false) first h)
cut_words first (w ∷ ws) h k =
    slice_split_at (λ (b : ℕ). eqb b 32) first 32 (w ++ flat_map spaced ws) (All-from_recursion (λ (b : ℕ). eqb b 32 ≡ false) first h) refl
    ∙ ap (λ (t : List (List ℕ)). first ∷ t) (cut_words w ws k.0 k.1)

joined : (first : List ℕ) (others : List (List ℕ)) → join_with_byte 32 (first ∷ others) ≡ first ++ flat_map spaced others
joined first [] = sym (append-nil first)
joined first (w ∷ ws) = ap (λ (t : List ℕ). first ++ (32 ∷ t)) (joined w ws)

pub from_words : (text first : List ℕ) (others : List (List ℕ)) → slice_split (λ b. eqb b 32) text ≡ first ∷ others → text ≡ first ++ flat_map spaced others
from_words text first others e = sym (join_with_byte-slice_split 32 text) ∙ ap (join_with_byte 32) e ∙ joined first others

-- ---- the words of a command

path_no_space : (b : ℕ) → is_path_byte b ≡ true → eqb b 32 ≡ false
path_no_space b h = ne_eqb b 32 (λ e. false≢true (subst (λ (n : ℕ). is_path_byte n ≡ true) e h))

arg_no_space : (b : ℕ) → is_arg_byte b ≡ true → eqb b 32 ≡ false
arg_no_space b h = ne_eqb b 32 (λ e. false≢true (subst (λ (n : ℕ). is_arg_byte n ≡ true) e h))

arg_no_quote : (b : ℕ) → is_arg_byte b ≡ true → eqb b 34 ≡ false
arg_no_quote b h = ne_eqb b 34 (λ e. false≢true (subst (λ (n : ℕ). is_arg_byte n ≡ true) e h))

pub head_no_space : (c : Cmnd) → IsHead c → HasNoSpace (head_text c)
head_no_space All h = (refl, (refl, (refl, tt)))
head_no_space (Path file rule) h = file_each (λ (b : ℕ). eqb b 32 ≡ false) refl path_no_space file h.0
head_no_space (Dir dir) h = dir_each (λ (b : ℕ). eqb b 32 ≡ false) refl path_no_space dir h.0

args_no_space : (args : List (List ℕ)) → AllByRecursion (λ arg. is_arg arg ≡ true) args → AllByRecursion HasNoSpace (map arg_text args)
args_no_space [] h = tt
args_no_space (a ∷ args) h = (arg_text_each (λ (b : ℕ). eqb b 32 ≡ false) refl arg_no_space a (arg_parts a h.0).bytes, args_no_space args h.1)

pub words_no_space : (r : ArgRule) → IsArgRule r → AllByRecursion HasNoSpace (words_of r)
words_no_space Any h = tt
words_no_space Empty h = ((refl, (refl, tt)), tt)
words_no_space (Exactly args) h = args_no_space args h.0

args_text : (args : List (List ℕ)) → flat_map spaced_arg args ≡ flat_map spaced (map arg_text args)
args_text [] = refl
args_text (a ∷ args) = ap (λ (t : List ℕ). spaced_arg a ++ t) (args_text args)

pub words_text : (r : ArgRule) → arg_rule_text r ≡ flat_map spaced (words_of r)
words_text Any = refl
words_text Empty = refl
words_text (Exactly args) = args_text args

-- ---- words are those of one rule

no_quoted : (a : List ℕ) → is_arg a ≡ true → arg_text a ≡ codes "\"\"" → ⊥
no_quoted a h e =
    let each : AllByRecursion (λ b. eqb b 34 ≡ false) (codes "\"\"") =
    subst (AllByRecursion (λ (b : ℕ). eqb b 34 ≡ false)) e (arg_text_each (λ (b : ℕ). eqb b 34 ≡ false) refl arg_no_quote a (arg_parts a h).bytes) in
    false≢true (sym each.0)

pub same_args : (xs ys : List (List ℕ)) → AllByRecursion (λ arg. is_arg arg ≡ true) xs
    → AllByRecursion (λ arg. is_arg arg ≡ true) ys → map arg_text xs ≡ map arg_text ys → xs ≡ ys
same_args [] [] h k e = refl
same_args [] (y ∷ ys) h k e = absurd cc
same_args (x ∷ xs) [] h k e = absurd cc
same_args (x ∷ xs) (y ∷ ys) h k e =
    let first : arg_text x ≡ arg_text y = cc in
    let rest : map arg_text xs ≡ map arg_text ys = cc in
    ap (λ (a : List ℕ). a ∷ xs) (same_arg x y h.0 k.0 first) ∙ ap (λ (t : List (List ℕ)). y ∷ t) (same_args xs ys h.1 k.1 rest)

-- at least one argument, and not `""`
pub no_empty_args : (args : List (List ℕ)) → IsArgRule (Exactly args) → map arg_text args ≡ [] → ⊥
no_empty_args [] h e = omega (arith, h.1)
no_empty_args (a ∷ args) h e = absurd cc

pub no_quoted_args : (args : List (List ℕ)) → IsArgRule (Exactly args) → map arg_text args ≡ codes "\"\"" ∷ [] → ⊥
no_quoted_args [] h e = absurd cc
no_quoted_args (a ∷ args) h e = let first : arg_text a ≡ codes "\"\"" = cc in no_quoted a h.0.0 first

pub one_rule : (r s : ArgRule) → IsArgRule r → IsArgRule s → words_of r ≡ words_of s → r ≡ s
one_rule Any Any h k e = refl
one_rule Any Empty h k e = absurd cc
one_rule Any (Exactly args) h k e = absurd (no_empty_args args k (sym e))
one_rule Empty Any h k e = absurd cc
one_rule Empty Empty h k e = refl
one_rule Empty (Exactly args) h k e = absurd (no_quoted_args args k (sym e))
one_rule (Exactly args) Any h k e = absurd (no_empty_args args h e)
one_rule (Exactly args) Empty h k e = absurd (no_quoted_args args h e)
one_rule (Exactly xs) (Exactly ys) h k e = ap (λ (args : List (List ℕ)). Exactly args) (same_args xs ys h.0 k.0 e)

-- The words that are printed are read as words: names, aliases, paths, arguments and moments.
use Rattle.std.proofs.Common.{◌≡◌, ℕ, ◌<◌, Bool, true, false, cond, eqb, leb, not, ◌&&◌, ◌||◌, List, [], ◌∷◌, ◌++◌, length, refl, ap, ◌∙◌, inl, inr, arith}
use Rattle.std.specs.Prelude.{codes}
use Rattle.std.specs.List.{AllByRecursion, list_all}
use Rattle.std.proofs.lemmas.Bool.{and_parts, and_from, cases_Bool}
use Rattle.std.proofs.lemmas.Bool.Decides.{nat_tests}
use Rattle.sudo_words.specs.Bytes.{backslash}
use Rattle.sudo_words.specs.Word.{is_lower, is_upper, is_name, is_name_byte, is_host_name, is_host_byte, is_alias_name, is_alias_shape}
use Rattle.sudo_words.specs.Word.{is_alias_byte, is_reserved, is_path_byte, is_file_path, is_dir_path, is_arg, is_arg_byte}
use Rattle.sudo_words.specs.Moment.{IsMoment, is_stamp_byte, stamp}
use Rattle.sudo_words.specs.Command.{IsHead, is_escaped, escaped_byte, arg_text, head_text}
use Rattle.sudo_words.specs.declared.cmnd.Cmnd.{Cmnd}
use Rattle.sudo_words.specs.declared.cmnd.Cmnd.TheVariants as commands
use Rattle.sudo_words.proofs.ArgLemmas.{arg_parts, arg_text_some}
use Rattle.sudo_words.proofs.NameLemmas.{name_shape, host_shape}
use Rattle.sudo_words.proofs.PathLemmas.{file_each, dir_each}
use Rattle.sudo_words.proofs.MomentLemmas.{stamp_length, stamp_bytes}
use Rattle.sudo_policy.specs.declared.entry.Item.{Item}
use Rattle.sudo_policy.specs.declared.entry.Item.TheVariants as items
use Rattle.sudo_policy.specs.declared.entry.CmndItem.{CmndItem}
use Rattle.sudo_policy.specs.declared.entry.CmndItem.TheVariants as cmnds
use Rattle.sudo_policy.specs.Span.{Each}
use Rattle.sudo_policy.specs.Lex.{is_word_byte, is_word_text}
use Rattle.sudo_policy.specs.Printing.{item_text}
use Rattle.sudo_policy.specs.Policy.{IsItem, IsCmndItem}
use Rattle.sudo_policy.specs.Grammar.{head_of}

-- the text of a word
pub record IsWord (w : List ℕ) : Type 0 where
  pub some : 0 < length w
  pub text : is_word_text w ≡ true

-- ---- words without a backslash

no_backslash : (b : ℕ) → is_word_byte b ≡ true → eqb b backslash ≡ false
no_backslash b h = grind (arith, nat_tests)

-- a byte of a word, before the text of a word
byte_then : (b : ℕ) (rest : List ℕ) → is_word_byte b ≡ true → is_word_text rest ≡ true → is_word_text (b ∷ rest) ≡ true
byte_then b [] h k = h
byte_then b (c ∷ rest) h k =
    let plain = ap (λ (v : Bool). cond v (is_escaped c && is_word_text rest) (is_word_byte b && is_word_text (c ∷ rest))) (no_backslash b h) in
    plain ∙ and_from (is_word_byte b) (is_word_text (c ∷ rest)) h k

each_text : (w : List ℕ) → Each is_word_byte w → is_word_text w ≡ true
each_text [] h = refl
each_text (b ∷ bs) h = byte_then b bs h.0 (each_text bs h.1)

pub word_of_bytes : (w : List ℕ) → 0 < length w → Each is_word_byte w → IsWord w
word_of_bytes w some each = record { some = some; text = each_text w each }

each_all : (p q : ℕ → Bool) → ((b : ℕ) → q b ≡ true → p b ≡ true) → (w : List ℕ) → list_all q w ≡ true → Each p w
each_all p q within [] h = tt
each_all p q within (b ∷ bs) h = let both = and_parts (q b) (list_all q bs) h in (within b both.0, each_all p q within bs both.1)

each_from : (p : ℕ → Bool) (w : List ℕ) → AllByRecursion (λ b. p b ≡ true) w → Each p w
each_from p [] h = tt
each_from p (b ∷ bs) h = (h.0, each_from p bs h.1)

-- a literal word
pub literal : (w : List ℕ) → 0 < length w → is_word_text w ≡ true → IsWord w
literal w some h = record { some = some; text = h }

-- ---- names and aliases

lower_word : (b : ℕ) → is_lower b ≡ true → is_word_byte b ≡ true
lower_word b h = grind (arith, nat_tests)

upper_word : (b : ℕ) → is_upper b ≡ true → is_word_byte b ≡ true
upper_word b h = grind (arith, nat_tests)

name_start_word : (b : ℕ) → (is_lower b || eqb b 95) ≡ true → is_word_byte b ≡ true
name_start_word b h = grind (arith, nat_tests)

name_byte_word : (b : ℕ) → is_name_byte b ≡ true → is_word_byte b ≡ true
name_byte_word b h = grind (arith, nat_tests)

host_byte_word : (b : ℕ) → is_host_byte b ≡ true → is_word_byte b ≡ true
host_byte_word b h = grind (arith, nat_tests)

alias_byte_word : (b : ℕ) → is_alias_byte b ≡ true → is_word_byte b ≡ true
alias_byte_word b h = grind (arith, nat_tests)

path_byte_word : (b : ℕ) → is_path_byte b ≡ true → is_word_byte b ≡ true
path_byte_word b h = grind (arith, nat_tests)

stamp_byte_word : (b : ℕ) → is_stamp_byte b ≡ true → is_word_byte b ≡ true
stamp_byte_word b h = grind (arith, nat_tests)

pub name_word : (w : List ℕ) → is_name w ≡ true → IsWord w
name_word [] h = absurd cc
name_word (b ∷ bs) h =
    let all = and_parts ((is_lower b || eqb b 95) && list_all is_name_byte bs) (leb (length (b ∷ bs)) 32) (name_shape (b ∷ bs) h) in
    let both = and_parts (is_lower b || eqb b 95) (list_all is_name_byte bs) all.0 in
    word_of_bytes (b ∷ bs) (omega arith) (name_start_word b both.0, each_all is_word_byte is_name_byte name_byte_word bs both.1)

pub host_word : (w : List ℕ) → is_host_name w ≡ true → IsWord w
host_word [] h = absurd cc
host_word (b ∷ bs) h =
    let all = and_parts (is_lower b && list_all is_host_byte bs) (leb (length (b ∷ bs)) 32) (host_shape (b ∷ bs) h) in
    let both = and_parts (is_lower b) (list_all is_host_byte bs) all.0 in
    word_of_bytes (b ∷ bs) (omega arith) (lower_word b both.0, each_all is_word_byte is_host_byte host_byte_word bs both.1)

shape_word : (w : List ℕ) → is_alias_shape w ≡ true → IsWord w
shape_word [] h = absurd cc
shape_word (b ∷ bs) h =
    let all = and_parts (is_upper b && list_all is_alias_byte bs) (leb (length (b ∷ bs)) 32) h in
    let both = and_parts (is_upper b) (list_all is_alias_byte bs) all.0 in
    word_of_bytes (b ∷ bs) (omega arith) (upper_word b both.0, each_all is_word_byte is_alias_byte alias_byte_word bs both.1)

pub alias_word : (w : List ℕ) → is_alias_name w ≡ true → IsWord w
alias_word w h = shape_word w (and_parts (is_alias_shape w) (not (is_reserved w)) h).0

pub item_word : (form : List ℕ → Bool) → ((w : List ℕ) → form w ≡ true → IsWord w) → (i : Item (List ℕ)) → IsItem form i → IsWord (item_text i)
item_word form named items.All h = literal (codes "ALL") (omega arith) refl
item_word form named (items.Name n) h = named n h
item_word form named (items.Alias n) h = alias_word n h

-- ---- heads of commands

file_some : (w : List ℕ) → is_file_path w ≡ true → 0 < length w
file_some [] h = absurd cc
file_some (b ∷ bs) h = omega arith

dir_some : (w : List ℕ) → is_dir_path w ≡ true → 0 < length w
dir_some [] h = absurd cc
dir_some (b ∷ bs) h = omega arith

head_word : (c : Cmnd) → IsHead c → IsWord (head_text c)
head_word commands.All h = literal (codes "ALL") (omega arith) refl
head_word (commands.Path file rule) h =
    word_of_bytes file (file_some file h.0) (each_from is_word_byte file (file_each (λ (b : ℕ). is_word_byte b ≡ true) refl path_byte_word file h.0))
head_word (commands.Dir dir) h =
    word_of_bytes dir (dir_some dir h.0) (each_from is_word_byte dir (dir_each (λ (b : ℕ). is_word_byte b ≡ true) refl path_byte_word dir h.0))

pub cmnd_head_word : (c : CmndItem) → IsCmndItem c → IsWord (head_of c)
cmnd_head_word (cmnds.Alias w) h = alias_word w h
cmnd_head_word (cmnds.Cmnd c) h = head_word c h.head

-- ---- arguments

bare_arg_byte : (b : ℕ) → is_arg_byte b ≡ true → is_escaped b ≡ false → is_word_byte b ≡ true
bare_arg_byte b h k = grind (arith, nat_tests)

-- the text of a byte, and a word after it
byte_text : (b : ℕ) (rest : List ℕ) → is_arg_byte b ≡ true → is_word_text rest ≡ true → is_word_text (escaped_byte b ++ rest) ≡ true
byte_text b rest h k =
    elim (cases_Bool (is_escaped b)) [
      | inl e ↦ ap (λ (v : Bool). is_word_text (cond v (backslash ∷ b ∷ []) (b ∷ []) ++ rest)) e ∙ and_from (is_escaped b) (is_word_text rest) e k
      | inr e ↦ ap (λ (v : Bool). is_word_text (cond v (backslash ∷ b ∷ []) (b ∷ []) ++ rest)) e ∙ byte_then b rest (bare_arg_byte b h e) k
    ]

arg_bytes_text : (a : List ℕ) → list_all is_arg_byte a ≡ true → is_word_text (arg_text a) ≡ true
arg_bytes_text [] h = refl
arg_bytes_text (b ∷ a) h =
    let both = and_parts (is_arg_byte b) (list_all is_arg_byte a) h in
    byte_text b (arg_text a) both.0 (arg_bytes_text a both.1)

pub arg_word : (a : List ℕ) → is_arg a ≡ true → IsWord (arg_text a)
arg_word a h = record { some = omega (arith, arg_text_some a h); text = arg_bytes_text a (arg_parts a h).bytes }

-- ---- moments

stamp_some : (t : ℕ) → 0 < length (stamp t)
stamp_some t = let len : length (stamp t) ≡ 15 = stamp_length t in omega arith

each_stamp : (w : List ℕ) → AllByRecursion (λ b. is_stamp_byte b ≡ true) w → Each is_word_byte w
each_stamp [] h = tt
each_stamp (b ∷ bs) h = (stamp_byte_word b h.0, each_stamp bs h.1)

pub stamp_word : (t : ℕ) → IsMoment t → IsWord (stamp t)
stamp_word t h = word_of_bytes (stamp t) (stamp_some t) (each_stamp (stamp t) (stamp_bytes t h))

-- What is printed is read as its tokens, which spell it: items, commands, and lists of them.
use Rattle.std.proofs.Common.{◌≡◌, ℕ, ◌≤◌, Bool, true, false, cond, eqb, ◌&&◌, ◌||◌, List, [], ◌∷◌}
use Rattle.std.proofs.Common.{◌++◌, length, refl, sym, ap, subst, ◌∙◌, append_assoc, append-nil, arith}
use Rattle.std.specs.List.{AllByRecursion, flat_map}
use Rattle.sudo_words.specs.Bytes.{space, comma, quote, bang, backslash}
use Rattle.sudo_words.specs.Word.{is_arg}
use Rattle.sudo_words.specs.Command.{IsArgRule, is_escaped, arg_text, spaced_arg, arg_rule_text, rule_of}
use Rattle.sudo_words.specs.declared.cmnd.ArgRule.{ArgRule}
use Rattle.sudo_words.specs.declared.cmnd.ArgRule.TheVariants.{Any, Empty, Exactly}
use Rattle.sudo_policy.specs.declared.entry.Signed.{Signed}
use Rattle.sudo_policy.specs.declared.entry.Item.{Item}
use Rattle.sudo_policy.specs.declared.entry.CmndItem.{CmndItem}
use Rattle.sudo_policy.specs.declared.entry.CmndItem.TheVariants as cmnds
use Rattle.sudo_policy.specs.Lex.{Tok, word, mark, is_mark, is_word_byte, goes_on, bangs, Lexes}
use Rattle.sudo_policy.specs.Printing.{item_text, cmnd_item_text, signed_text, tail_text, comma_separated}
use Rattle.sudo_policy.specs.Policy.{IsItem, IsCmndItem}
use Rattle.sudo_policy.specs.Grammar.{is_odd, More, Listed, SpellsItem, SpellsCmnd, rule_toks, head_of, args_of}
use Rattle.sudo_policy.proofs.PrintedWords.{IsWord, item_word, cmnd_head_word, arg_word}

-- ---- one token in front

-- one blank, or none
abbrev pub gap : Bool → List ℕ
gap true = space ∷ []
gap false = []

-- a word before such a byte ends there
pub stop : (b : ℕ) (rest : List ℕ) → is_word_byte b ≡ false → eqb b backslash ≡ false → goes_on (b ∷ rest) ≡ false
stop b [] h k = h
stop b (c ∷ rest) h k = ap (λ (v : Bool). v || (eqb b backslash && is_escaped c)) h ∙ ap (λ (v : Bool). v && is_escaped c) k

pub lex_word : (a : Bool) (n : ℕ) (w rest : List ℕ) (ts : List Tok) → IsWord w → goes_on rest ≡ false
    → Lexes rest ts → Lexes (gap a ++ ((bangs n ++ w) ++ rest)) (word a n w ∷ ts)
lex_word true n w rest ts is stops h = (space ∷ [], rest, (refl, tt), refl, (is.some, is.text, stops), refl, h)
lex_word false n w rest ts is stops h = ([], rest, tt, refl, (is.some, is.text, stops), refl, h)

pub lex_mark : (a : Bool) (m : ℕ) (rest : List ℕ) (ts : List Tok) → is_mark m ≡ true → Lexes rest ts → Lexes (gap a ++ (m ∷ rest)) (mark a m ∷ ts)
lex_mark true m rest ts is h = (space ∷ [], rest, (refl, tt), refl, is, refl, h)
lex_mark false m rest ts is h = ([], rest, tt, refl, is, refl, h)

-- the same bytes and tokens
pub lex_same : (a b : List ℕ) (ts us : List Tok) → a ≡ b → ts ≡ us → Lexes a ts → Lexes b us
lex_same a b ts us e f h = subst (Lexes b) f (subst (λ (x : List ℕ). Lexes x ts) e h)

-- ---- what is printed and read

-- what f prints, after a blank or not, is read as the tokens that g gives
abbrev pub IsPrinted : {X : Type 0} → (X → Type 0) → (X → List ℕ) → (Bool → X → List Tok) → Type 0
IsPrinted {X} P f g =
    (a : Bool) (x : X) (rest : List ℕ) (ts : List Tok) → P x → goes_on rest ≡ false → Lexes rest ts → Lexes (gap a ++ (f x ++ rest)) (g a x ++ ts)

-- these tokens spell it
abbrev pub IsSpelled : {X : Type 0} → (X → Type 0) → (List Tok → X → List Tok → Type 0) → (Bool → X → List Tok) → Type 0
IsSpelled {X} P Is g = (a : Bool) (x : X) (rest : List Tok) → P x → Is (g a x ++ rest) x rest

-- ---- lists

abbrev pub tail_toks : {X : Type 0} → (Bool → X → List Tok) → List X → List Tok
tail_toks g [] = []
tail_toks g (x ∷ xs) = mark false comma ∷ (g true x ++ tail_toks g xs)

abbrev pub list_toks : {X : Type 0} → (Bool → X → List Tok) → Bool → List X → List Tok
list_toks g a [] = []
list_toks g a (x ∷ xs) = g a x ++ tail_toks g xs

tail_stops : {X : Type 0} (f : X → List ℕ) (xs : List X) (rest : List ℕ) → goes_on rest ≡ false → goes_on (tail_text f xs ++ rest) ≡ false
tail_stops f [] rest h = h
tail_stops f (x ∷ xs) rest h = stop comma (space ∷ ((f x ++ tail_text f xs) ++ rest)) refl refl

lex_tail : {X : Type 0} (P : X → Type 0) (f : X → List ℕ) (g : Bool → X → List Tok) → IsPrinted P f g → (xs : List X) (rest : List ℕ) (ts : List Tok)
    → AllByRecursion P xs → goes_on rest ≡ false → Lexes rest ts → Lexes (tail_text f xs ++ rest) (tail_toks g xs ++ ts)
lex_tail P f g printed [] rest ts all stops h = h
lex_tail P f g printed (x ∷ xs) rest ts all stops h =
    let more = lex_tail P f g printed xs rest ts all.1 stops h in
    let item = printed true x (tail_text f xs ++ rest) (tail_toks g xs ++ ts) all.0 (tail_stops f xs rest stops) more in
    lex_mark false comma (space ∷ ((f x ++ tail_text f xs) ++ rest)) ((g true x ++ tail_toks g xs) ++ ts) refl (lex_same (space
    ∷ (f x ++ (tail_text f xs ++ rest))) (space ∷ ((f x ++ tail_text f xs) ++ rest)) (g true x ++ (tail_toks g xs ++ ts)) ((g true x ++ tail_toks g xs) ++ ts)
    (ap (λ (t : List ℕ). space ∷ t) (sym (append_assoc (f x) (tail_text f xs) rest))) (sym (append_assoc (g true x) (tail_toks g xs) ts)) item)

pub lex_list : {X : Type 0} (P : X → Type 0) (f : X → List ℕ) (g : Bool → X → List Tok) → IsPrinted P f g
    → IsPrinted (λ xs. (1 ≤ length xs) × AllByRecursion P xs) (comma_separated f) (list_toks g)
lex_list P f g printed a [] rest ts all stops h = absurd (omega (arith, all.0))
lex_list P f g printed a (x ∷ xs) rest ts all stops h =
    let more = lex_tail P f g printed xs rest ts all.1.1 stops h in
    let item = printed a x (tail_text f xs ++ rest) (tail_toks g xs ++ ts) all.1.0 (tail_stops f xs rest stops) more in
    lex_same (gap a ++ (f x ++ (tail_text f xs ++ rest))) (gap a ++ ((f x ++ tail_text f xs) ++ rest)) (g a x ++ (tail_toks g xs ++ ts)) ((g a x ++ tail_toks g
    xs) ++ ts) (ap (λ (t : List ℕ). gap a ++ t) (sym (append_assoc (f x) (tail_text f xs) rest))) (sym (append_assoc (g a x) (tail_toks g xs) ts)) item

tail_spelled : {X : Type 0} (P : X → Type 0) (Is : List Tok → X → List Tok → Type 0) (g : Bool → X → List Tok)
    → IsSpelled P Is g → (xs : List X) (rest : List Tok) → AllByRecursion P xs → More comma Is (tail_toks g xs ++ rest) xs rest
tail_spelled P Is g spelled [] rest all = refl
tail_spelled P Is g spelled (x ∷ xs) rest all = (
  false,
  g true x ++ (tail_toks g xs ++ rest),
  tail_toks g xs ++ rest,
  ap (λ (ts : List Tok). mark false comma ∷ ts) (append_assoc (g true x) (tail_toks g xs) rest),
  spelled true x (tail_toks g xs ++ rest) all.0,
  tail_spelled P Is g spelled xs rest all.1,
)

pub list_spelled : {X : Type 0} (P : X → Type 0) (Is : List Tok → X → List Tok → Type 0) (g : Bool → X → List Tok)
    → IsSpelled P Is g → IsSpelled (λ xs. (1 ≤ length xs) × AllByRecursion P xs) (Listed comma Is) (list_toks g)
list_spelled P Is g spelled a [] rest all = absurd (omega (arith, all.0))
list_spelled P Is g spelled a (x ∷ xs) rest all = (
  tail_toks g xs ++ rest,
  subst (λ (ts : List Tok). Is ts x (tail_toks g xs ++ rest)) (sym (append_assoc (g a x) (tail_toks g xs) rest))
      (spelled a x (tail_toks g xs ++ rest) all.1.0),
  tail_spelled P Is g spelled xs rest all.1.1,
)

-- ---- items

-- how many `!` are printed
abbrev pub sign : Bool → ℕ
sign true = 1
sign false = 0

odd_sign : (b : Bool) → b ≡ is_odd (sign b)
odd_sign true = refl
odd_sign false = refl

signed_is : (b : Bool) (w : List ℕ) → cond b (bang ∷ w) w ≡ bangs (sign b) ++ w
signed_is true w = refl
signed_is false w = refl

abbrev pub item_toks : Bool → Signed (Item (List ℕ)) → List Tok
item_toks a s = word a (sign s.negated) (item_text s.item) ∷ []

pub lex_item : (form : List ℕ → Bool) → ((w : List ℕ) → form w ≡ true → IsWord w) → IsPrinted (λ s. IsItem form s.item) (signed_text item_text) item_toks
lex_item form named a s rest ts is stops h =
    lex_same (gap a ++ ((bangs (sign s.negated) ++ item_text s.item) ++ rest)) (gap a ++ (signed_text item_text s ++ rest)) (item_toks a s
    ++ ts) (item_toks a s ++ ts) (ap (λ (t : List ℕ). gap a ++ (t ++ rest)) (sym (signed_is s.negated (item_text s.item)))) refl
    (lex_word a (sign s.negated) (item_text s.item) rest ts (item_word form named s.item is) stops h)

pub item_spelled : (form : List ℕ → Bool) → IsSpelled (λ s. IsItem form s.item) (SpellsItem form) item_toks
item_spelled form a s rest is = record { spaced = a; bangs = sign s.negated; toks = refl; item = is; sign = odd_sign s.negated }

-- ---- commands

args_stop : (args : List (List ℕ)) (rest : List ℕ) → goes_on rest ≡ false → goes_on (flat_map spaced_arg args ++ rest) ≡ false
args_stop [] rest h = h
args_stop (a ∷ args) rest h = stop space ((arg_text a ++ flat_map spaced_arg args) ++ rest) refl refl

rule_stops : (r : ArgRule) (rest : List ℕ) → goes_on rest ≡ false → goes_on (arg_rule_text r ++ rest) ≡ false
rule_stops Any rest h = h
rule_stops Empty rest h = stop space (quote ∷ quote ∷ rest) refl refl
rule_stops (Exactly args) rest h = args_stop args rest h

lex_args : (args : List (List ℕ)) (rest : List ℕ) (ts : List Tok) → AllByRecursion (λ arg. is_arg arg ≡ true) args → goes_on rest ≡ false → Lexes rest ts
    → Lexes (flat_map spaced_arg args ++ rest) (rule_toks (Exactly args) ++ ts)
lex_args [] rest ts all stops h = h
lex_args (a ∷ args) rest ts all stops h =
    let more = lex_args args rest ts all.1 stops h in
    let us = rule_toks (Exactly (a ∷ args)) ++ ts in
    lex_same (space ∷ (arg_text a ++ (flat_map spaced_arg args ++ rest))) (space ∷ ((arg_text a ++ flat_map spaced_arg args) ++ rest)) us us
    (ap (λ (t : List ℕ). space ∷ t) (sym (append_assoc (arg_text a) (flat_map spaced_arg args) rest))) refl
    (lex_word true 0 (arg_text a) (flat_map spaced_arg args ++ rest) (rule_toks (Exactly args) ++ ts) (arg_word a all.0) (args_stop args rest stops) more)

lex_rule : (r : ArgRule) (rest : List ℕ) (ts : List Tok) → IsArgRule r → goes_on rest ≡ false → Lexes rest ts
    → Lexes (arg_rule_text r ++ rest) (rule_toks r ++ ts)
lex_rule Any rest ts is stops h = h
lex_rule Empty rest ts is stops h = lex_mark true quote (quote ∷ rest) (mark false quote ∷ ts) refl (lex_mark false quote rest ts refl h)
lex_rule (Exactly args) rest ts is stops h = lex_args args rest ts is.0 stops h

-- what is printed after a head
abbrev behind_head : CmndItem → List ℕ
behind_head (cmnds.Alias w) = []
behind_head (cmnds.Cmnd c) = arg_rule_text (rule_of c)

head_and_behind : (c : CmndItem) → cmnd_item_text c ≡ head_of c ++ behind_head c
head_and_behind (cmnds.Alias w) = sym (append-nil w)
head_and_behind (cmnds.Cmnd c) = refl

behind_stops : (c : CmndItem) (rest : List ℕ) → goes_on rest ≡ false → goes_on (behind_head c ++ rest) ≡ false
behind_stops (cmnds.Alias w) rest h = h
behind_stops (cmnds.Cmnd c) rest h = rule_stops (rule_of c) rest h

lex_behind : (c : CmndItem) (rest : List ℕ) (ts : List Tok) → IsCmndItem c
    → goes_on rest ≡ false → Lexes rest ts → Lexes (behind_head c ++ rest) (args_of c ++ ts)
lex_behind (cmnds.Alias w) rest ts is stops h = h
lex_behind (cmnds.Cmnd c) rest ts is stops h = lex_rule (rule_of c) rest ts is.args stops h

abbrev pub cmnd_toks : Bool → Signed CmndItem → List Tok
cmnd_toks a s = word a (sign s.negated) (head_of s.item) ∷ args_of s.item

cmnd_front : (b : Bool) (c : CmndItem) (rest : List ℕ)
    → (bangs (sign b) ++ head_of c) ++ (behind_head c ++ rest) ≡ cond b (bang ∷ cmnd_item_text c) (cmnd_item_text c) ++ rest
cmnd_front b c rest =
    append_assoc (bangs (sign b)) (head_of c) (behind_head c ++ rest)
    ∙ ap (λ (t : List ℕ). bangs (sign b) ++ t) (sym (append_assoc (head_of c) (behind_head c) rest) ∙ ap (λ (t : List ℕ). t ++ rest) (sym (head_and_behind c)))
    ∙ sym (append_assoc (bangs (sign b)) (cmnd_item_text c) rest) ∙ ap (λ (t : List ℕ). t ++ rest) (sym (signed_is b (cmnd_item_text c)))

pub lex_cmnd : IsPrinted (λ s. IsCmndItem s.item) (signed_text cmnd_item_text) cmnd_toks
lex_cmnd a s rest ts is stops h =
    let us = cmnd_toks a s ++ ts in
    lex_same (gap a ++ ((bangs (sign s.negated) ++ head_of s.item) ++ (behind_head s.item ++ rest))) (gap a ++ (signed_text cmnd_item_text s ++ rest)) us us
    (ap (λ (t : List ℕ). gap a ++ t) (cmnd_front s.negated s.item rest)) refl (lex_word a (sign s.negated) (head_of s.item)
    (behind_head s.item ++ rest) (args_of s.item ++ ts) (cmnd_head_word s.item is) (behind_stops s.item rest stops) (lex_behind s.item rest ts is stops h))

pub cmnd_spelled : IsSpelled (λ s. IsCmndItem s.item) SpellsCmnd cmnd_toks
cmnd_spelled a s rest is = record { spaced = a; bangs = sign s.negated; toks = refl; item = is; sign = odd_sign s.negated }

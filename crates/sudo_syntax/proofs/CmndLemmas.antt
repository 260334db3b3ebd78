-- Commands at the front of tokens are read in one way.
use Rattle.std.proofs.Common.{◌≡◌, ◌≢◌, ℕ, zero, suc, ◌-◌, ◌≤◌, ◌==◌, true, false, ◌&&◌, nat_le, List}
use Rattle.std.proofs.Common.{[], ◌∷◌, ◌++◌, length, take, drop, refl, sym, ap, subst, ◌∙◌, inl, inr, arith}
use Rattle.std.specs.Prelude.{codes}
use Rattle.std.specs.Str.{bytes_eq}
use Rattle.std.proofs.lemmas.Bool.{false≢true, and_parts, eqb-true}
use Rattle.sudo_words.specs.Bytes.{equals, comma, colon, quote}
use Rattle.sudo_words.specs.Word.{is_alias_name, is_alias_shape, is_reserved, is_file_path, is_dir_path, is_absolute, are_components, is_upper}
use Rattle.sudo_words.specs.Command.{IsHead, IsArgRule, head_text, rule_of}
use Rattle.sudo_words.specs.declared.cmnd.Cmnd.{Cmnd}
use Rattle.sudo_words.specs.declared.cmnd.Cmnd.TheVariants as commands
use Rattle.sudo_words.specs.declared.cmnd.ArgRule.{ArgRule}
use Rattle.sudo_words.specs.declared.cmnd.ArgRule.TheVariants as rules
use Rattle.sudo_policy.specs.declared.entry.CmndItem.{CmndItem}
use Rattle.sudo_policy.specs.declared.entry.CmndItem.TheVariants as cmnds
use Rattle.sudo_policy.specs.declared.tags.Tag.{Tag}
use Rattle.sudo_policy.specs.declared.tags.Tag.TheVariants.{Passwd, NoPasswd}
use Rattle.sudo_policy.specs.Lex.{Tok, word, mark}
use Rattle.sudo_policy.specs.Policy.{IsCmndItem}
use Rattle.sudo_policy.specs.Grammar.{rule_toks, head_of, args_of}
use Rattle.sudo_policy.specs.Tags.{tag_word}
use Rattle.sudo_syntax.specs.private.Fronts.{EndsBy, NoArg, NoMark, arg_toks, rule_from, begins_upper}
use Rattle.sudo_syntax.proofs.ArgLemmas.{AreArgs}
use Rattle.sudo_syntax.proofs.NameLemmas.{all_reserved}

-- ---- heads

-- a path begins with a slash
abbrev pub BeginsSlash : List ℕ → Type 0
BeginsSlash [] = ⊥
BeginsSlash (b ∷ bs) = b ≡ 47

absolute_slash : (w : List ℕ) → is_absolute w ≡ true → BeginsSlash w
absolute_slash [] h = absurd (false≢true h)
absolute_slash (b ∷ bs) h = eqb-true b 47 (and_parts (b == 47) (are_components bs) h).0

front_slash : (n : ℕ) (w : List ℕ) → BeginsSlash (take n w) → BeginsSlash w
front_slash zero w h = absurd h
front_slash (suc n) [] h = absurd h
front_slash (suc n) (b ∷ bs) h = h

file_slash : (w : List ℕ) → is_file_path w ≡ true → BeginsSlash w
file_slash w h = absolute_slash w (and_parts (is_absolute w) (nat_le (length w) 4096) h).0

dir_slash : (w : List ℕ) → is_dir_path w ≡ true → BeginsSlash w
dir_slash w h =
    let front = (and_parts (bytes_eq (drop (length w - 1) w) (codes "/") && is_absolute (take (length w - 1) w)) (nat_le (length w) 4096) h).0 in
    let whole = (and_parts (bytes_eq (drop (length w - 1) w) (codes "/")) (is_absolute (take (length w - 1) w)) front).1 in
    front_slash (length w - 1) w (absolute_slash (take (length w - 1) w) whole)

slash_no_upper : (w : List ℕ) → BeginsSlash w → begins_upper w ≡ true → ⊥
slash_no_upper [] s h = s
slash_no_upper (b ∷ bs) s h = false≢true (sym (ap is_upper s) ∙ h)

alias_upper : (w : List ℕ) → is_alias_name w ≡ true → begins_upper w ≡ true
alias_upper [] h = absurd (false≢true h)
alias_upper (b ∷ bs) h = (and_parts _ _ (and_parts _ _ (and_parts (is_alias_shape (b ∷ bs)) _ h).0).0).0

-- a head is `ALL` or begins with a slash
pub no_alias_head : (c : Cmnd) → IsHead c → is_alias_name (head_text c) ≡ true → ⊥
no_alias_head commands.All is h = all_reserved h
no_alias_head (commands.Path file rule) is h = slash_no_upper file (file_slash file is.0) (alias_upper file h)
no_alias_head (commands.Dir dir) is h = slash_no_upper dir (dir_slash dir is.0) (alias_upper dir h)

no_alias_tag : (tag : Tag) → is_alias_name (tag_word tag) ≡ true → ⊥
unfolding is_reserved
no_alias_tag Passwd h = false≢true h
no_alias_tag NoPasswd h = false≢true h

no_all_tag : (tag : Tag) → codes "ALL" ≡ tag_word tag → ⊥
no_all_tag Passwd h = absurd cc
no_all_tag NoPasswd h = absurd cc

no_slash_n : ◌≡◌ {A = ℕ} 78 47 → ⊥
no_slash_n h = absurd (omega arith)

no_slash_p : ◌≡◌ {A = ℕ} 80 47 → ⊥
no_slash_p h = absurd (omega arith)

no_slash_tag : (tag : Tag) → BeginsSlash (tag_word tag) → ⊥
no_slash_tag Passwd h = no_slash_p h
no_slash_tag NoPasswd h = no_slash_n h

head_no_tag : (c : Cmnd) (tag : Tag) → IsHead c → head_text c ≡ tag_word tag → ⊥
head_no_tag commands.All tag is e = no_all_tag tag e
head_no_tag (commands.Path file rule) tag is e = no_slash_tag tag (subst BeginsSlash e (file_slash file is.0))
head_no_tag (commands.Dir dir) tag is e = no_slash_tag tag (subst BeginsSlash e (dir_slash dir is.0))

-- a command does not begin with a tag's word
pub cmnd_no_tag : (i : CmndItem) (tag : Tag) → IsCmndItem i → head_of i ≡ tag_word tag → ⊥
cmnd_no_tag (cmnds.Alias name) tag is e = no_alias_tag tag (subst (λ (w : List ℕ). is_alias_name w ≡ true) e is)
cmnd_no_tag (cmnds.Cmnd c) tag is e = head_no_tag c tag is.head e

-- ---- the rule for the arguments

-- what ends a command does not begin with an argument
pub ends_no_arg : (rest : List Tok) → EndsBy comma rest → NoArg rest
ends_no_arg [] h = λ text next e. absurd cc
ends_no_arg (word a n t ∷ ts) h = absurd h
ends_no_arg (mark a b ∷ ts) h = λ text next e. absurd cc

ends_no_quote : (rest : List Tok) → EndsBy comma rest → (next : List Tok) → rest ≡ mark true quote ∷ next → ⊥
ends_no_quote [] h next e = absurd cc
ends_no_quote (word a n t ∷ ts) h next e = absurd h
ends_no_quote (mark a b ∷ ts) (inl h) next e = let is_quote : b ≡ quote = cc in absurd (omega arith)
ends_no_quote (mark a b ∷ ts) (inr h) next e = let is_quote : b ≡ quote = cc in absurd (omega arith)

-- behind `""` no other rule stands
pub empty_is : (rule : ArgRule) (ts next rest : List Tok) → IsArgRule rule → EndsBy comma rest
    → ts ≡ mark true quote ∷ mark false quote ∷ next → ts ≡ rule_toks rule ++ rest → (rules.Empty ≡ rule) × (next ≡ rest)
empty_is rules.Any ts next rest is f e h = absurd (ends_no_quote rest f (mark false quote ∷ next) (sym h ∙ e))
empty_is rules.Empty ts next rest is f e h = let two = sym e ∙ h in (refl, cc)
empty_is (rules.Exactly []) ts next rest is f e h = absurd (omega (arith, is.1))
empty_is (rules.Exactly (arg ∷ args)) ts next rest is f e h = let two = sym e ∙ h in absurd cc

-- the arguments of a rule without `""`
pub record Listing (rule : ArgRule) (ts rest : List Tok) : Type 0 where
  pub args : List (List ℕ)
  pub each : AreArgs args
  pub few : length args ≤ 16
  pub toks : ts ≡ arg_toks args ++ rest
  pub rule_is : rule_from args ≡ rule

pub listed_args : (rule : ArgRule) (ts rest : List Tok) → IsArgRule rule
    → ((next : List Tok) → ts ≢ mark true quote ∷ mark false quote ∷ next) → ts ≡ rule_toks rule ++ rest → Listing rule ts rest
listed_args rules.Any ts rest is n h = record { args = []; each = tt; few = omega arith; toks = h; rule_is = refl }
listed_args rules.Empty ts rest is n h = absurd (n rest h)
listed_args (rules.Exactly []) ts rest is n h = absurd (omega (arith, is.1))
listed_args (rules.Exactly (arg ∷ args)) ts rest is n h = record { args = arg ∷ args; each = is.0; few = is.2; toks = h; rule_is = refl }

-- ---- behind a head

-- behind a command's head stands none of the other marks
ends_no_mark : (m : ℕ) (rest : List Tok) → m ≢ comma → m ≢ colon → EndsBy comma rest → NoMark m rest
ends_no_mark m [] x y h = tt
ends_no_mark m (word a n t ∷ ts) x y h = tt
ends_no_mark m (mark a b ∷ ts) x y (inl h) = λ e. x (sym e ∙ h)
ends_no_mark m (mark a b ∷ ts) x y (inr h) = λ e. y (sym e ∙ h)

rule_no_mark : (m : ℕ) (rule : ArgRule) (rest : List Tok) → m ≢ quote → NoMark m rest → NoMark m (rule_toks rule ++ rest)
rule_no_mark m rules.Any rest q n = n
rule_no_mark m rules.Empty rest q n = λ e. q (sym e)
rule_no_mark m (rules.Exactly []) rest q n = n
rule_no_mark m (rules.Exactly (arg ∷ args)) rest q n = tt

no_equals : (rest : List Tok) → EndsBy comma rest → NoMark equals rest
no_equals rest h = ends_no_mark equals rest (λ e. absurd (omega arith)) (λ e. absurd (omega arith)) h

equals_no_quote : ◌≡◌ {A = ℕ} equals quote → ⊥
equals_no_quote e = absurd (omega arith)

pub args_no_equals : (i : CmndItem) (rest : List Tok) → EndsBy comma rest → NoMark equals (args_of i ++ rest)
args_no_equals (cmnds.Alias name) rest h = no_equals rest h
args_no_equals (cmnds.Cmnd c) rest h = rule_no_mark equals (rule_of c) rest equals_no_quote (no_equals rest h)

-- an alias's name is a head of its own
pub alias_is : (i : CmndItem) (w : List ℕ) (ts rest : List Tok) → is_alias_name w ≡ true
    → IsCmndItem i → w ≡ head_of i → ts ≡ args_of i ++ rest → (cmnds.Alias w ≡ i) × (ts ≡ rest)
alias_is (cmnds.Alias name) w ts rest a is e t = (ap (λ (x : List ℕ). cmnds.Alias x) e, t)
alias_is (cmnds.Cmnd c) w ts rest a is e t = absurd (no_alias_head c is.head (subst (λ (x : List ℕ). is_alias_name x ≡ true) e a))

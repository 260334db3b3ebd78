-- Whether a text is the text of a lawful command, and whether a draft's names and commands are names and commands.
use Rattle.std.proofs.Common.{◌≡◌, ◌≤◌, ◌⊎◌, ℕ, ◌∙◌, Bool, true, false, not, ◌==◌, if◌then◌else◌, nat_le, List, []}
use Rattle.std.proofs.Common.{◌∷◌, ◌++◌, length, map, filter, All, eqb, refl, sym, ap, ap₂, subst, arith, inl, inr}
use Rattle.std.specs.Prelude.{codes}
use Rattle.std.specs.List.{AllByRecursion, list_all, slice_split}
use Rattle.std.specs.Str.{bytes_eq}
use Rattle.std.proofs.lemmas.Bool.{and_parts, both_ways, cases_Bool, cond-false, false_from_ne_true, false≢true, leb-false, leb-true, ne_eqb}
use Rattle.std.proofs.lemmas.List.Elements.{All-cons, All-head, All-nil, All-tail, filter-append}
use Rattle.std.proofs.lemmas.Slice.Eq.{bytes_eq-Decides}
use Rattle.sudo_words.specs.Command.{IsArgRule, IsHead, IsLawful, arg_text, cmnd_text, escaped_byte, head_text, is_escaped, rule_of}
use Rattle.sudo_words.specs.Word.{is_arg, is_arg_byte, is_dir_path, is_file_path, is_host_name, is_label, is_name, is_sudoedit}
use Rattle.sudo_words.specs.private.Pieces.{words_of}
use Rattle.sudo_words.specs.declared.cmnd.Cmnd.{Cmnd}
use Rattle.sudo_words.specs.declared.cmnd.Cmnd.TheVariants as cmnds
use Rattle.sudo_words.specs.declared.cmnd.ArgRule.{ArgRule}
use Rattle.sudo_words.specs.declared.cmnd.ArgRule.TheVariants.{Any, Empty, Exactly}
use Rattle.sudo_words.proofs.ArgLemmas.{arg_parts}
use Rattle.sudo_words.proofs.CommandLemmas.{cmnd_words, no_dir_all, no_file_all, no_file_dir}
use Rattle.sudo_words.proofs.PieceLemmas.{no_quoted_args}
use Rattle.roster.specs.Fields.{CeilingFields, RosterFields}
use Rattle.roster.specs.Rules.{GoodNames, IsCmndText, IsNamedCeiling, good_names}

-- ---- decisions

abbrev pub Decided : Type 0 → Type 0
Decided P = P ⊎ ¬ P

holds_or_not : (b : Bool) → Decided (b ≡ true)
holds_or_not true = inl refl
holds_or_not false = inr (λ e. false≢true e)

fails_or_not : (b : Bool) → Decided (b ≡ false)
fails_or_not true = inr (λ e. false≢true (sym e))
fails_or_not false = inl refl

at_most_or_not : (m n : ℕ) → Decided (m ≤ n)
at_most_or_not m n =
    elim (cases_Bool (nat_le m n)) as (λ _. Decided (m ≤ n)) [ inl e ↦ inl (leb-true m n e) | inr e ↦ inr (λ le. omega (arith, leb-false m n e, le)) ]

both_or_not : (P Q : Type 0) → Decided P → Decided Q → Decided (P × Q)
both_or_not P Q (inl p) (inl q) = inl (p, q)
both_or_not P Q (inl p) (inr lacks) = inr (λ h. lacks h.1)
both_or_not P Q (inr lacks) q = inr (λ h. lacks h.0)

three_or_not : (P Q R : Type 0) → Decided P → Decided Q → Decided R → Decided (P × Q × R)
three_or_not P Q R (inl p) (inl q) (inl r) = inl (p, q, r)
three_or_not P Q R (inl p) (inl q) (inr lacks) = inr (λ h. lacks h.2)
three_or_not P Q R (inl p) (inr lacks) r = inr (λ h. lacks h.1)
three_or_not P Q R (inr lacks) q r = inr (λ h. lacks h.0)

each_or_not : {X : Type 0} (test : X → Bool) (xs : List X) → Decided (AllByRecursion (λ x. test x ≡ true) xs)
each_or_not test [] = inl tt
each_or_not test (x ∷ xs) = both_or_not (test x ≡ true) (AllByRecursion (λ y. test y ≡ true) xs) (holds_or_not (test x)) (each_or_not test xs)

pub all_or_not : {X : Type 0} (P : X → Type 0) → ((x : X) → Decided (P x)) → (xs : List X) → Decided (All P xs)
all_or_not P one [] = inl (All-nil P)
all_or_not P one (x ∷ xs) = of (one x) (all_or_not P one xs)
  where
    of : Decided (P x) → Decided (All P xs) → Decided (All P (x ∷ xs))
    of (inl p) (inl ps) = inl (All-cons P x xs p ps)
    of (inl p) (inr lacks) = inr (λ h. lacks (All-tail P x xs h))
    of (inr lacks) ps = inr (λ h. lacks (All-head P x xs h))

-- ---- which command a text would be

-- a byte that is not a backslash
abbrev kept : ℕ → Bool
kept b = not (b == 92)

-- a word without its backslashes
abbrev plain : List ℕ → List ℕ
plain w = filter kept w

abbrev rule_from : List (List ℕ) → ArgRule
rule_from [] = Any
rule_from (w ∷ ws) = if bytes_eq w (codes "\"\"") then Empty else Exactly (map plain (w ∷ ws))

abbrev command_from : (head : List ℕ) → ArgRule → Cmnd
command_from head rule =
    if bytes_eq head (codes "ALL") then cmnds.All
    else if is_dir_path head then cmnds.Dir head
    else cmnds.Path head rule

abbrev command_of : List (List ℕ) → Cmnd
command_of [] = cmnds.All
command_of (head ∷ words) = command_from head (rule_from words)

-- ---- for a command's own text, it is that command

is_kept : (b : ℕ) → is_arg_byte b ≡ true → kept b ≡ true
is_kept b h =
    ap not (ne_eqb b 92 (λ e. false≢true (subst (λ (n : ℕ). is_arg_byte n ≡ true) e h)))

one_byte : (b : ℕ) (escaped : Bool) → plain (if escaped then 92 ∷ b ∷ [] else b ∷ []) ≡ (if kept b then b ∷ [] else [])
one_byte b true = refl
one_byte b false = refl

plain_arg : (a : List ℕ) → list_all is_arg_byte a ≡ true → plain (arg_text a) ≡ a
plain_arg [] h = refl
plain_arg (b ∷ a) h =
    let both = and_parts (is_arg_byte b) (list_all is_arg_byte a) h in
    let first : plain (escaped_byte b) ≡ b ∷ [] = one_byte b (is_escaped b) ∙ ap (λ (k : Bool). if k then b ∷ [] else []) (is_kept b both.0) in
    filter-append kept (escaped_byte b) (arg_text a) ∙ ap₂ (λ (x y : List ℕ). x ++ y) first (plain_arg a both.1)

plain_args : (args : List (List ℕ)) → AllByRecursion (λ arg. is_arg arg ≡ true) args → map plain (map arg_text args) ≡ args
plain_args [] h = refl
plain_args (a ∷ args) h = ap₂ (λ (x : List ℕ) (xs : List (List ℕ)). x ∷ xs) (plain_arg a (arg_parts a h.0).bytes) (plain_args args h.1)

rule_again : (r : ArgRule) → IsArgRule r → rule_from (words_of r) ≡ r
rule_again Any h = refl
rule_again Empty h = refl
rule_again (Exactly []) h = absurd (omega (arith, h.1))
rule_again (Exactly (a ∷ args)) h =
    let no_quotes : bytes_eq (arg_text a) (codes "\"\"") ≡ false =
    false_from_ne_true _
    (λ e. no_quoted_args (a ∷ []) ((h.0.0, tt), omega arith, omega arith) (ap (λ (t : List ℕ). t ∷ []) ((bytes_eq-Decides (arg_text a) (codes "\"\"")).0 e))) in
    cond-false _ Empty (Exactly (map plain (map arg_text (a ∷ args)))) no_quotes ∙ ap (λ (xs : List (List ℕ)). Exactly xs) (plain_args (a ∷ args) h.0)

head_again : (c : Cmnd) → IsHead c → command_from (head_text c) (rule_of c) ≡ c
head_again cmnds.All h = refl
head_again (cmnds.Path file rule) h =
    let no_all : bytes_eq file (codes "ALL") ≡ false = false_from_ne_true _ (λ e. no_file_all file h.0 ((bytes_eq-Decides file (codes "ALL")).0 e)) in
    let no_dir : is_dir_path file ≡ false = false_from_ne_true _ (λ e. no_file_dir file file h.0 e refl) in
    chosen (bytes_eq file (codes "ALL")) (is_dir_path file) no_all no_dir
  where
    chosen : (a d : Bool) → a ≡ false → d ≡ false → (if a then cmnds.All else if d then cmnds.Dir file else cmnds.Path file rule) ≡ cmnds.Path file rule
    chosen true d x y = absurd (false≢true (sym x))
    chosen false true x y = absurd (false≢true (sym y))
    chosen false false x y = refl
head_again (cmnds.Dir dir) h =
    let no_all : bytes_eq dir (codes "ALL") ≡ false = false_from_ne_true _ (λ e. no_dir_all dir h.0 ((bytes_eq-Decides dir (codes "ALL")).0 e)) in
    chosen (bytes_eq dir (codes "ALL")) (is_dir_path dir) no_all h.0
  where
    chosen : (a d : Bool) → a ≡ false → d ≡ true → (if a then cmnds.All else if d then cmnds.Dir dir else cmnds.Path dir Any) ≡ cmnds.Dir dir
    chosen true d x y = absurd (false≢true (sym x))
    chosen false true x y = refl
    chosen false false x y = absurd (false≢true y)

command_again : (c : Cmnd) → IsLawful c → command_of (slice_split (λ b. eqb b 32) (cmnd_text c)) ≡ c
command_again c lawful =
    ap command_of (cmnd_words c lawful)
    ∙ ap (λ (r : ArgRule). command_from (head_text c) r) (rule_again (rule_of c) lawful.args)
    ∙ head_again c lawful.head

-- ---- a lawful command or not

head_or_not : (c : Cmnd) → Decided (IsHead c)
head_or_not cmnds.All = inl tt
head_or_not (cmnds.Path file rule) =
    three_or_not (is_file_path file ≡ true) (length file ≤ 255) (is_sudoedit file ≡ false) (holds_or_not (is_file_path file))
    (at_most_or_not (length file) 255) (fails_or_not (is_sudoedit file))
head_or_not (cmnds.Dir dir) =
    both_or_not (is_dir_path dir ≡ true) (length dir ≤ 255) (holds_or_not (is_dir_path dir)) (at_most_or_not (length dir) 255)

rule_or_not : (r : ArgRule) → Decided (IsArgRule r)
rule_or_not Any = inl tt
rule_or_not Empty = inl tt
rule_or_not (Exactly args) =
    three_or_not (AllByRecursion (λ arg. is_arg arg ≡ true) args) (1 ≤ length args)
    (length args ≤ 16) (each_or_not is_arg args) (at_most_or_not 1 (length args)) (at_most_or_not (length args) 16)

lawful_or_not : (c : Cmnd) → Decided (IsLawful c)
lawful_or_not c = of (head_or_not c) (rule_or_not (rule_of c)) (at_most_or_not (length (cmnd_text c)) 1024)
  where
    of : Decided (IsHead c) → Decided (IsArgRule (rule_of c)) → Decided (length (cmnd_text c) ≤ 1024) → Decided (IsLawful c)
    of (inl h) (inl a) (inl s) = inl (record { head = h; args = a; short = s })
    of (inl h) (inl a) (inr lacks) = inr (λ l. lacks l.short)
    of (inl h) (inr lacks) s = inr (λ l. lacks l.args)
    of (inr lacks) a s = inr (λ l. lacks l.head)

-- the only command whose text this may be
abbrev candidate : List ℕ → Cmnd
candidate text = command_of (slice_split (λ b. eqb b 32) text)

only_candidate : (text : List ℕ) (is : IsCmndText text) → candidate text ≡ is.0
only_candidate text is = ap candidate is.2 ∙ command_again is.0 is.1

command_or_this : (text : List ℕ) (c : Cmnd) → ((is : IsCmndText text) → c ≡ is.0) → Decided (IsCmndText text)
command_or_this text c only = of (lawful_or_not c) (cases_Bool (bytes_eq text (cmnd_text c)))
  where
    of : Decided (IsLawful c) → (bytes_eq text (cmnd_text c) ≡ true) ⊎ (bytes_eq text (cmnd_text c) ≡ false) → Decided (IsCmndText text)
    of (inl lawful) (inl same) = inl (c, lawful, (bytes_eq-Decides text (cmnd_text c)).0 same)
    of (inl lawful) (inr other) =
        inr (λ is. both_ways _ other ((bytes_eq-Decides text (cmnd_text c)).1 (is.2 ∙ ap cmnd_text (sym (only is)))))
    of (inr lacks) same = inr (λ is. lacks (subst IsLawful (sym (only is)) is.1))

pub command_or_not : (text : List ℕ) → Decided (IsCmndText text)
command_or_not text = command_or_this text (candidate text) (only_candidate text)

-- ---- a ceiling, and a draft

ceiling_or_not : (c : List ℕ × CeilingFields (List ℕ)) → Decided (IsNamedCeiling IsCmndText c)
ceiling_or_not c =
    of (holds_or_not (is_label c.0)) (holds_or_not (is_label c.1.ask)) (holds_or_not (is_label c.1.approve))
    (holds_or_not (list_all is_host_name c.1.hosts)) (holds_or_not (list_all is_name c.1.runas)) (all_or_not IsCmndText command_or_not c.1.commands)
  where
    of : Decided (is_label c.0 ≡ true) → Decided (is_label c.1.ask ≡ true) → Decided (is_label c.1.approve ≡ true)
        → Decided (list_all is_host_name c.1.hosts ≡ true) → Decided (list_all is_name c.1.runas ≡ true)
        → Decided (All IsCmndText c.1.commands) → Decided (IsNamedCeiling IsCmndText c)
    of (inr lacks) a p h r m = inr (λ n. lacks n.label)
    of (inl l) (inr lacks) p h r m = inr (λ n. lacks n.ask)
    of (inl l) (inl a) (inr lacks) h r m = inr (λ n. lacks n.approve)
    of (inl l) (inl a) (inl p) (inr lacks) r m = inr (λ n. lacks n.hosts)
    of (inl l) (inl a) (inl p) (inl h) (inr lacks) m = inr (λ n. lacks n.runas)
    of (inl l) (inl a) (inl p) (inl h) (inl r) (inr lacks) = inr (λ n. lacks n.commands)
    of (inl l) (inl a) (inl p) (inl h) (inl r) (inl m) =
        inl (record { label = l; ask = a; approve = p; hosts = h; runas = r; commands = m })

pub names_or_not : (t : RosterFields (List ℕ)) → Decided (GoodNames IsCmndText t)
names_or_not t = of (holds_or_not (good_names t)) (all_or_not (IsNamedCeiling IsCmndText) ceiling_or_not t.ceilings)
  where
    of : Decided (good_names t ≡ true) → Decided (All (IsNamedCeiling IsCmndText) t.ceilings) → Decided (GoodNames IsCmndText t)
    of (inl n) (inl c) = inl (record { names = n; ceilings = c })
    of (inl n) (inr lacks) = inr (λ g. lacks g.ceilings)
    of (inr lacks) c = inr (λ g. lacks g.names)

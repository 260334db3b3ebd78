-- Literal texts that spell no policy.
use Rattle.std.proofs.Common.{◌≡◌, ℕ, Bool, true, false, List, [], ◌∷◌, ◌++◌, length, Option, Some, None, refl, sym, ap, subst, ◌∙◌, inl, inr, arith, lit≤, ◌≤◌}
use Rattle.std.specs.Prelude.{codes}
use Rattle.std.specs.List.{list_all}
use Rattle.std.proofs.lemmas.Bool.{false≢true}
use Rattle.sudo_words.specs.Bytes.{equals, comma, colon, bang}
use Rattle.sudo_words.specs.Word.{is_name, is_host_name, is_file_path, is_keyword, is_reserved}
use Rattle.sudo_words.specs.declared.cmnd.Cmnd.TheVariants as commands
use Rattle.sudo_words.specs.declared.cmnd.ArgRule.TheVariants as rules
use Rattle.sudo_policy.specs.declared.entry.Signed.{Signed}
use Rattle.sudo_policy.specs.declared.entry.Item.{Item}
use Rattle.sudo_policy.specs.declared.entry.Item.TheVariants as items
use Rattle.sudo_policy.specs.declared.entry.CmndItem.{CmndItem}
use Rattle.sudo_policy.specs.declared.entry.CmndItem.TheVariants as cmnds
use Rattle.sudo_policy.specs.declared.entry.Entry.{Entry}
use Rattle.sudo_policy.specs.declared.tags.Tag.{Tag}
use Rattle.sudo_policy.specs.declared.tree.Line.{Line}
use Rattle.sudo_policy.specs.declared.tree.Line.TheVariants as lines
use Rattle.sudo_policy.specs.declared.tree.Part.{Part}
use Rattle.sudo_policy.specs.declared.tree.CmndSpec.{CmndSpec}
use Rattle.sudo_policy.specs.Policy.{IsCmndItem, IsPolicy}
use Rattle.sudo_policy.specs.Lex.{Tok, word, mark, Lexes}
use Rattle.sudo_syntax.specs.private.Tokens.{NoLexing}
use Rattle.sudo_policy.specs.Lines.{is_no_hash, ends_in_backslash, lines_of, Joined}
use Rattle.sudo_policy.specs.Grammar.{Listed, More, SpellsItem, SpellsCmnd, SpellsRunas, SpellsDates, SpellsTags}
use Rattle.sudo_policy.specs.Grammar.{SpellsCmndSpec, SpellsPart, SpellsUserSpec, SpellsTree, Date, head_of, args_of, rule_toks}
use Rattle.sudo_policy.specs.Inheritance.{entries_of}
use Rattle.sudo_policy.specs.Spelling.{Spells, SpellsEntries, SpellsLine, SpellsLines}
use Rattle.sudo_syntax.specs.Worked.{SpellsNone}
use Rattle.sudo_policy.proofs.Lexing.{lex_one}
use Rattle.sudo_syntax.proofs.TokenLemmas.{lex_none}
use Rattle.sudo_policy.proofs.LineTexts.{joined_one, backslash_no_body, bad_front}
use Rattle.sudo_policy.proofs.One.{lines_one}
use Rattle.sudo_syntax.proofs.Deriving.{each_of, lexed, item, cmnd, cmnd_is, only, only_spelled}
use Rattle.sudo_syntax.proofs.WorkedTexts.{plain, one_line, spells_line, yes, part, user_spec, all, all_toks, user_toks, user_line, user_tree}

-- ---- a text of one line

line_spelled : (text line : List ℕ) (es : List Entry) → lines_of text ≡ line ∷ [] → list_all is_no_hash line ≡ true → ends_in_backslash line ≡ false
    → Spells text es → (here : List Entry) × SpellsLine line here
unfolding is_keyword
line_spelled text line es one none last s =
    let joined : Joined (line ∷ []) s.joined = subst (λ (ls : List (List ℕ)). Joined ls s.joined) one s.lines in
    let same : s.joined ≡ line ∷ [] = joined_one (line ∷ []) s.joined (line ∷ []) joined (plain line [] [] none last refl) in
    let spells : SpellsLines (line ∷ []) es = subst (λ (ls : List (List ℕ)). SpellsLines ls es) same s.entries in
    (spells.0, spells.2)

-- ---- `! ann db1 = ALL`: no blank stands behind `!`

abbrev blank_text : List ℕ
blank_text = codes "! ann db1 = ALL"

blank_lexes : NoLexing blank_text
blank_lexes =
    lex_none blank_text [] blank_text (codes "!") (codes " ann db1 = ALL") (record { whole = refl; each = tt; stops = refl }) bang
    (codes " ann db1 = ALL") refl refl (record { whole = refl; each = (refl, tt); stops = refl }) refl

pub blank_none : SpellsNone blank_text
unfolding is_keyword
blank_none es s = let line = line_spelled blank_text blank_text es refl refl refl s in blank_lexes line.1.0 line.1.1

-- ---- a line that goes on inside a word

abbrev inside_front : List ℕ
inside_front = codes "ann db1\\"

no_inside : (rest joined : List (List ℕ)) → Joined (inside_front ∷ rest) joined → ⊥
no_inside rest joined (inl h) = backslash_no_body inside_front (codes "ann db1") (each_of is_no_hash inside_front refl) refl h.0 h.2
no_inside rest joined (inr h) = bad_front inside_front (codes "ann db1") refl refl h.0 h.3

pub inside_none : SpellsNone (codes "ann db1\\\n= /bin/ls")
inside_none es s = no_inside (codes "= /bin/ls" ∷ []) s.joined s.lines

-- ---- an alias that is defined below its use

abbrev use_line : Line
use_line = user_spec (yes (items.Alias (codes "B"))) (part (codes "db1") (only (yes all)) ∷ [])

use_tree : SpellsTree (word false 0 (codes "B") ∷ all_toks) use_line
unfolding is_reserved is_keyword
use_tree = (
  _,
  (_, item refl, refl),
  refl,
  (_, record { spaced = true; next = _; hosts = (_, item refl, refl); specs = (_, only_spelled (cmnd (cmnd_is all refl)), refl) }, refl),
)

abbrev below_entries : List Entry
below_entries = entries_of use_line ++ entries_of user_line

below_lines : SpellsLines (codes "B db1 = ALL" ∷ codes "User_Alias B = ann" ∷ []) below_entries
below_lines = (
  entries_of use_line,
  entries_of user_line,
  spells_line (codes "B db1 = ALL") (word false 0 (codes "B")) all_toks use_line (lexed (word false 0 (codes "B") ∷ all_toks) [] refl) use_tree,
  refl,
  one_line (codes "User_Alias B = ann") (entries_of user_line)
      (spells_line (codes "User_Alias B = ann") (word false 0 (codes "User_Alias")) user_toks user_line
      (lexed (word false 0 (codes "User_Alias") ∷ user_toks) [] refl) user_tree),
)

pub below_none : SpellsNone (codes "B db1 = ALL\nUser_Alias B = ann")
below_none es s =
    let a = codes "B db1 = ALL" in
    let b = codes "User_Alias B = ann" in
    let same : s.joined ≡ a ∷ b ∷ [] =
    joined_one (a ∷ b ∷ []) s.joined (a ∷ b ∷ []) s.lines (plain a (b ∷ []) (b ∷ []) refl refl (plain b [] [] refl refl refl)) in
    let is : es ≡ below_entries = lines_one (a ∷ b ∷ []) es below_entries (subst (λ (ls : List (List ℕ)). SpellsLines ls es) same s.entries) below_lines in
    let policy : IsPolicy below_entries = subst IsPolicy is s.policy in
    false≢true policy.placed.0.users.0

-- ---- a user, a host, and a path with a word behind it

abbrev Path2 : List ℕ → List ℕ → List Tok → List Tok
Path2 c a tail = word true 0 c ∷ word true 0 a ∷ tail

same_mark : (a b : Bool) (m k : ℕ) (ts us : List Tok) → mark a m ∷ ts ≡ mark b k ∷ us → m ≡ k
same_mark a b m k ts us e = cc

users_end : (t : Tok) (b : Bool) (n : ℕ) (w : List ℕ) (rest : List Tok) (xs : List (Signed (Item (List ℕ)))) (next : List Tok)
    → Listed comma (SpellsItem is_name) (t ∷ word b n w ∷ rest) xs next → next ≡ word b n w ∷ rest
users_end t b n w rest [] next h = absurd h
users_end t b n w rest (x ∷ []) next h = let is = h.1.toks in let behind = h.2 in cc
users_end t b n w rest (x ∷ y ∷ xs) next h = let is = h.1.toks in let behind = h.2.3 in absurd (cc)

hosts_end : (t : Tok) (b c : Bool) (rest : List Tok) (xs : List (Signed (Item (List ℕ)))) (next : List Tok)
    → Listed comma (SpellsItem is_host_name) (t ∷ mark b equals ∷ rest) xs (mark c equals ∷ next) → next ≡ rest
hosts_end t b c rest [] next h = absurd h
hosts_end t b c rest (x ∷ []) next h = let is = h.1.toks in let behind = h.2 in cc
hosts_end t b c rest (x ∷ y ∷ xs) next h =
    let is = h.1.toks in
    let behind = h.2.3 in
    let marks : mark b equals ∷ rest ≡ mark h.2.0 comma ∷ h.2.1 = cc in
    absurd (omega (arith, same_mark b h.2.0 equals comma rest h.2.1 marks))

no_runas : (t : Bool) (n : ℕ) (w : List ℕ) (ts : List Tok) (o : Option (List (Signed (Item (List ℕ))))) (behind : List Tok)
    → SpellsRunas (word t n w ∷ ts) o behind → behind ≡ word t n w ∷ ts
no_runas t n w ts None behind h = sym h
no_runas t n w ts (Some xs) behind h = let is = h.4 in absurd (cc)

no_dates : (c a : List ℕ) (tail : List Tok) (dates : List Date) (behind : List Tok) → SpellsDates (Path2 c a tail) dates behind → behind ≡ Path2 c a tail
no_dates c a tail [] behind h = sym h
no_dates c a tail (d ∷ dates) behind h = let is = h.4 in absurd (cc)

no_tags : (c a : List ℕ) (tail : List Tok) (tags : List Tag) (behind : List Tok) → SpellsTags (Path2 c a tail) tags behind → behind ≡ Path2 c a tail
no_tags c a tail [] behind h = sym h
no_tags c a tail (tag ∷ tags) behind h = let is = h.3 in absurd (cc)

spec_cmnd : (c a : List ℕ) (tail : List Tok) (s : CmndSpec) (rest : List Tok) → SpellsCmndSpec (Path2 c a tail) s rest → SpellsCmnd (Path2 c a tail) s.cmnd rest
spec_cmnd c a tail s rest h =
    let runas = no_runas true 0 c (word true 0 a ∷ tail) s.runas h.after_runas h.runas in
    let dates = no_dates c a tail h.dates h.after_dates (subst (λ (ts : List Tok). SpellsDates ts h.dates h.after_dates) runas h.dated) in
    let tags = no_tags c a tail h.tags h.after_tags (subst (λ (ts : List Tok). SpellsTags ts h.tags h.after_tags) dates h.tagged) in
    subst (λ (ts : List Tok). SpellsCmnd ts s.cmnd rest) tags h.cmnd

-- what may stand behind the command
record Behind (rest : List Tok) : Type 0 where
  specs : List CmndSpec
  mid : List Tok
  parts : List Part
  more : More comma SpellsCmndSpec rest specs mid
  last : More colon SpellsPart mid parts []

no_word : (b : Bool) (n : ℕ) (w : List ℕ) (ts mid : List Tok) (specs : List CmndSpec) (parts : List Part)
    → More comma SpellsCmndSpec (word b n w ∷ ts) specs mid → More colon SpellsPart mid parts [] → ⊥
no_word b n w ts mid [] [] h k = cc
no_word b n w ts mid [] (p ∷ parts) h k = let is = k.3 in cc
no_word b n w ts mid (s ∷ specs) parts h k = let is = h.3 in cc

-- the command is a file with arguments, and the word is the first of them
record HasArgs (c : List ℕ) (tail : List Tok) : Type 0 where
  args : List (List ℕ)
  rest : List Tok
  file : is_file_path c ≡ true
  tail_is : tail ≡ rule_toks (rules.Exactly args) ++ rest
  behind : Behind rest

none_behind : (a : List ℕ) (tail rest : List Tok) → word true 0 a ∷ tail ≡ rest → Behind rest → ⊥
none_behind a tail rest e k =
    no_word true 0 a tail k.mid k.specs k.parts (subst (λ (ts : List Tok). More comma SpellsCmndSpec ts k.specs k.mid) (sym e) k.more) k.last

args_are : (c a : List ℕ) (tail : List Tok) (x : CmndItem) (rest : List Tok) → IsCmndItem x
    → c ≡ head_of x → word true 0 a ∷ tail ≡ args_of x ++ rest → Behind rest → HasArgs c tail
args_are c a tail (cmnds.Alias name) rest lawful head e k = absurd (none_behind a tail rest e k)
args_are c a tail (cmnds.Cmnd commands.All) rest lawful head e k = absurd (none_behind a tail rest e k)
args_are c a tail (cmnds.Cmnd (commands.Dir dir)) rest lawful head e k = absurd (none_behind a tail rest e k)
args_are c a tail (cmnds.Cmnd (commands.Path file rules.Any)) rest lawful head e k = absurd (none_behind a tail rest e k)
args_are c a tail (cmnds.Cmnd (commands.Path file rules.Empty)) rest lawful head e k = absurd (cc)
args_are c a tail (cmnds.Cmnd (commands.Path file (rules.Exactly []))) rest lawful head e k = absurd (none_behind a tail rest e k)
args_are c a tail (cmnds.Cmnd (commands.Path file (rules.Exactly (first ∷ args)))) rest lawful head e k = record {
  args = args;
  rest = rest;
  file = ap is_file_path head ∙ lawful.head.0;
  tail_is = cc;
  behind = k;
}

specs_args : (c a : List ℕ) (tail : List Tok) (specs : List CmndSpec) (mid : List Tok) (parts : List Part)
    → Listed comma SpellsCmndSpec (Path2 c a tail) specs mid → More colon SpellsPart mid parts [] → HasArgs c tail
specs_args c a tail [] mid parts h k = absurd h
specs_args c a tail (s ∷ specs) mid parts h k =
    let cmnd = spec_cmnd c a tail s h.0 h.1 in
    let is = cmnd.toks in
    let head : c ≡ head_of s.cmnd.item = cc in
    let args : word true 0 a ∷ tail ≡ args_of s.cmnd.item ++ h.0 = cc in
    args_are c a tail s.cmnd.item h.0 cmnd.item head args (record { specs = specs; mid = mid; parts = parts; more = h.2; last = k })

parts_args : (t : Tok) (b : Bool) (c a : List ℕ) (tail : List Tok) (parts : List Part)
    → Listed colon SpellsPart (t ∷ mark b equals ∷ Path2 c a tail) parts [] → HasArgs c tail
parts_args t b c a tail [] h = absurd h
parts_args t b c a tail (p ∷ parts) h =
    let next = hosts_end t b h.1.spaced (Path2 c a tail) p.hosts h.1.next h.1.hosts in
    specs_args c a tail p.specs h.0 parts (subst (λ (ts : List Tok). Listed comma SpellsCmndSpec ts p.specs h.0) next h.1.specs) h.2

abbrev Begun : List ℕ → List ℕ → List ℕ → List ℕ → List Tok → List Tok
Begun u h c a tail = word false 0 u ∷ word true 0 h ∷ mark true equals ∷ Path2 c a tail

user_spec_args : (u h c a : List ℕ) (tail : List Tok) (users : List (Signed (Item (List ℕ)))) (parts : List Part)
    → SpellsUserSpec (Begun u h c a tail) users parts → HasArgs c tail
user_spec_args u h c a tail users parts g =
    let next = users_end (word false 0 u) true 0 h (mark true equals ∷ Path2 c a tail) users g.0 g.1 in
    parts_args (word true 0 h) true c a tail parts (subst (λ (ts : List Tok). Listed colon SpellsPart ts parts []) next g.3)

not_kind : (u kind : List ℕ) (rest next : List Tok) (b : Bool) → length u ≡ 3 → 10 ≤ length kind → word false 0 u ∷ rest ≡ word b 0 kind ∷ next → ⊥
not_kind u kind rest next b short long e =
    let same : u ≡ kind = cc in
    let lengths : length u ≡ length kind = ap length same in
    omega arith

tree_args : (u h c a : List ℕ) (tail : List Tok) (line : Line) → length u ≡ 3 → SpellsTree (Begun u h c a tail) line → HasArgs c tail
tree_args u h c a tail (lines.Users defs) short g = absurd (not_kind u (codes "User_Alias") _ g.1 g.0 short (lit≤ tt) g.2)
tree_args u h c a tail (lines.Runas defs) short g = absurd (not_kind u (codes "Runas_Alias") _ g.1 g.0 short (lit≤ tt) g.2)
tree_args u h c a tail (lines.Hosts defs) short g = absurd (not_kind u (codes "Host_Alias") _ g.1 g.0 short (lit≤ tt) g.2)
tree_args u h c a tail (lines.Cmnds defs) short g = absurd (not_kind u (codes "Cmnd_Alias") _ g.1 g.0 short (lit≤ tt) g.2)
tree_args u h c a tail (lines.UserSpec users parts) short g = user_spec_args u h c a tail users parts g

line_args : (line u h c a : List ℕ) (tail : List Tok) (es : List Entry) → length u ≡ 3 → Lexes line (Begun u h c a tail) → SpellsLine line es → HasArgs c tail
line_args line u h c a tail es short lexes s =
    let spells = subst (λ (ts : List Tok). SpellsEntries ts es) (lex_one line s.0 (Begun u h c a tail) s.1 lexes) s.2 in
    tree_args u h c a tail spells.0 short spells.1

-- ---- a directory with an argument

abbrev dir_text : List ℕ
dir_text = codes "ann db1 = /usr/bin/ -l"

pub dir_none : SpellsNone dir_text
unfolding is_keyword
dir_none es s =
    let line = line_spelled dir_text dir_text es refl refl refl s in
    let has = line_args dir_text (codes "ann") (codes "db1") (codes "/usr/bin/") (codes "-l") [] line.0 refl
    (lexed (Begun (codes "ann") (codes "db1") (codes "/usr/bin/") (codes "-l") []) [] refl) line.1 in
    false≢true has.file

-- ---- a `:` without a backslash

hosts_missing : (b : Bool) (w : List ℕ) (hosts : List (Signed (Item (List ℕ)))) (c : Bool) (next : List Tok)
    → Listed comma (SpellsItem is_host_name) (word b 0 w ∷ []) hosts (mark c equals ∷ next) → ⊥
hosts_missing b w [] c next h = h
hosts_missing b w (x ∷ []) c next h = let is = h.1.toks in let behind = h.2 in cc
hosts_missing b w (x ∷ y ∷ xs) c next h = let is = h.1.toks in let behind = h.2.3 in cc

part_missing : (b : Bool) (w : List ℕ) (ts mid : List Tok) (p : Part) → ts ≡ word b 0 w ∷ [] → SpellsPart ts p mid → ⊥
part_missing b w ts mid p e h =
    hosts_missing b w p.hosts h.spaced h.next
    (subst (λ (x : List Tok). Listed comma (SpellsItem is_host_name) x p.hosts (mark h.spaced equals ∷ h.next)) e h.hosts)

no_part : (b : Bool) (w : List ℕ) (mid rest : List Tok) (specs : List CmndSpec) (parts : List Part) → rest ≡ mark false colon ∷ word b 0 w ∷ []
    → More comma SpellsCmndSpec rest specs mid → More colon SpellsPart mid parts [] → ⊥
no_part b w mid rest [] [] e h k = cc
no_part b w mid rest [] (p ∷ parts) e h k =
    let is = k.3 in
    let next : k.1 ≡ word b 0 w ∷ [] = cc in
    part_missing b w k.1 k.2 p next k.4
no_part b w mid rest (s ∷ specs) parts e h k =
    absurd (omega (arith, same_mark false h.0 colon comma (word b 0 w ∷ []) h.1 (sym e ∙ h.3)))

colon_behind : (b : Bool) (w : List ℕ) (args : List (List ℕ)) (rest : List Tok)
    → mark false colon ∷ word b 0 w ∷ [] ≡ rule_toks (rules.Exactly args) ++ rest → Behind rest → ⊥
colon_behind b w [] rest e k = no_part b w k.mid rest k.specs k.parts (sym e) k.more k.last
colon_behind b w (a ∷ args) rest e k = cc

abbrev colon_text : List ℕ
colon_text = codes "ann db1 = /bin/echo a:b"

abbrev colon_tail : List Tok
colon_tail = mark false colon ∷ word false 0 (codes "b") ∷ []

pub colon_none : SpellsNone colon_text
unfolding is_keyword
colon_none es s =
    let line = line_spelled colon_text colon_text es refl refl refl s in
    let has = line_args colon_text (codes "ann") (codes "db1") (codes "/bin/echo") (codes "a") colon_tail line.0 refl
    (lexed (Begun (codes "ann") (codes "db1") (codes "/bin/echo") (codes "a") colon_tail) [] refl) line.1 in
    colon_behind false (codes "b") has.args has.rest has.tail_is has.behind

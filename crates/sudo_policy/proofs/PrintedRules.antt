-- The line of a rule is read as tokens that spell the rule.
use Rattle.std.proofs.Common.{◌≡◌, ℕ, ◌≤◌, Bool, true, false, List, [], ◌∷◌, ◌++◌, length, Option, Some}
use Rattle.std.proofs.Common.{None, refl, sym, ap, subst, ◌∙◌, inl, inr, append_assoc, append-nil, arith}
use Rattle.std.specs.Prelude.{codes, IfSome}
use Rattle.std.specs.Option.{option_or}
use Rattle.sudo_words.specs.Bytes.{space, equals, colon, opening, closing}
use Rattle.sudo_words.specs.Word.{is_name, is_host_name}
use Rattle.sudo_words.specs.Moment.{IsMoment, stamp}
use Rattle.sudo_words.proofs.MomentLemmas.{stamp_is, stamp_spells}
use Rattle.sudo_policy.specs.declared.entry.Signed.{Signed}
use Rattle.sudo_policy.specs.declared.entry.Item.{Item}
use Rattle.sudo_policy.specs.declared.entry.CmndItem.{CmndItem}
use Rattle.sudo_policy.specs.declared.entry.Rule.{Rule}
use Rattle.sudo_policy.specs.declared.entry.Entry.TheVariants as entries
use Rattle.sudo_policy.specs.declared.tags.Tag.{Tag}
use Rattle.sudo_policy.specs.declared.tags.Tag.TheVariants.{Passwd, NoPasswd}
use Rattle.sudo_policy.specs.declared.tags.Tags.{Tags}
use Rattle.sudo_policy.specs.declared.tree.CmndSpec.{CmndSpec}
use Rattle.sudo_policy.specs.declared.tree.Part.{Part}
use Rattle.sudo_policy.specs.declared.tree.Line.TheVariants as lines
use Rattle.sudo_policy.specs.Lex.{Tok, word, mark, Lexes}
use Rattle.sudo_policy.specs.Printing.{item_text, cmnd_item_text, signed_text, names_text, date_option_text, rule_text}
use Rattle.sudo_policy.specs.Policy.{IsItem, IsList, IsRule}
use Rattle.sudo_policy.specs.Grammar.{Date, Bounds, Users, Hosts, begins_spaced, SpellsItem, SpellsDates}
use Rattle.sudo_policy.specs.Grammar.{SpellsTags, SpellsCmndSpec, SpellsPart, SpellsTree}
use Rattle.sudo_policy.specs.Tags.{tag_word, tag_text, tags_text, given_by, no_tags, with_tags}
use Rattle.sudo_policy.specs.Inheritance.{entries_of}
use Rattle.sudo_policy.proofs.SpecTexts.{BeginsWord}
use Rattle.sudo_policy.proofs.PrintedWords.{IsWord, name_word, host_word, literal, stamp_word}
use Rattle.sudo_policy.proofs.PrintedLists.{stop, lex_word, lex_mark, list_toks, lex_list, list_spelled, item_toks}
use Rattle.sudo_policy.proofs.PrintedLists.{lex_item, item_spelled, cmnd_toks, lex_cmnd, cmnd_spelled, IsPrinted, IsSpelled}

-- ---- lists of users and of hosts

pub lex_users : IsPrinted (IsList (IsItem is_name)) names_text (list_toks item_toks)
lex_users = lex_list (λ (s : Signed (Item (List ℕ))). IsItem is_name s.item) (signed_text item_text) item_toks (lex_item is_name name_word)

pub lex_hosts : IsPrinted (IsList (IsItem is_host_name)) names_text (list_toks item_toks)
lex_hosts = lex_list (λ (s : Signed (Item (List ℕ))). IsItem is_host_name s.item) (signed_text item_text) item_toks (lex_item is_host_name host_word)

pub users_spelled : IsSpelled (IsList (IsItem is_name)) Users (list_toks item_toks)
users_spelled = list_spelled (λ (s : Signed (Item (List ℕ))). IsItem is_name s.item) (SpellsItem is_name) item_toks (item_spelled is_name)

pub hosts_spelled : IsSpelled (IsList (IsItem is_host_name)) Hosts (list_toks item_toks)
hosts_spelled = list_spelled (λ (s : Signed (Item (List ℕ))). IsItem is_host_name s.item) (SpellsItem is_host_name) item_toks (item_spelled is_host_name)

items_spaced : (xs : List (Signed (Item (List ℕ)))) (rest : List Tok) → 1 ≤ length xs → begins_spaced (list_toks item_toks true xs ++ rest) ≡ true
items_spaced [] rest h = absurd (omega arith)
items_spaced (x ∷ xs) rest h = refl

items_word : (a : Bool) (xs : List (Signed (Item (List ℕ)))) (rest : List Tok) → 1 ≤ length xs → BeginsWord (list_toks item_toks a xs ++ rest)
items_word a [] rest h = absurd (omega arith)
items_word a (x ∷ xs) rest h = tt

-- ---- dates

date_toks : List ℕ → Option ℕ → List Tok
date_toks option None = []
date_toks option (Some moment) = word true 0 option ∷ mark false equals ∷ word false 0 (stamp moment) ∷ []

given : List ℕ → Option ℕ → List Date
given option None = []
given option (Some moment) = record { word = option; moment = moment } ∷ []

date_front : (option time rest : List ℕ) → (option ++ codes "=" ++ time ++ codes " ") ++ rest ≡ option ++ (equals ∷ (time ++ (space ∷ rest)))
date_front option time rest = simp append_assoc

lex_date : (option time rest : List ℕ) (ts : List Tok) → IsWord option → IsWord time → Lexes (space ∷ rest) ts
    → Lexes (space ∷ ((option ++ codes "=" ++ time ++ codes " ") ++ rest)) (word true 0 option ∷ mark false equals ∷ word false 0 time ∷ ts)
lex_date option time rest ts name is h =
    subst (λ (x : List ℕ). Lexes (space ∷ x) (word true 0 option ∷ mark false equals ∷ word false 0 time ∷ ts)) (sym (date_front option time rest)) (lex_word
    true 0 option (equals ∷ (time ++ (space ∷ rest))) (mark false equals ∷ word false 0 time ∷ ts) name (stop equals (time ++ (space ∷ rest)) refl refl)
    (lex_mark false equals (time ++ (space ∷ rest)) (word false 0 time ∷ ts) refl (lex_word false 0 time (space ∷ rest) ts is (stop space rest refl refl) h)))

lex_option : (option : List ℕ) (o : Option ℕ) (rest : List ℕ) (ts : List Tok) → IsWord option → IfSome o IsMoment
    → Lexes (space ∷ rest) ts → Lexes (space ∷ (date_option_text option o ++ rest)) (date_toks option o ++ ts)
unfolding date_toks
lex_option option None rest ts name is h = h
lex_option option (Some t) rest ts name is h = lex_date option (stamp t) rest ts name (stamp_word t is) h

option_spelled : (option : List ℕ) (o : Option ℕ) (ts : List Tok) (dates : List Date) (rest : List Tok) → IfSome o IsMoment
    → begins_spaced ts ≡ true → SpellsDates ts dates rest → SpellsDates (date_toks option o ++ ts) (given option o ++ dates) rest
unfolding date_toks given
option_spelled option None ts dates rest is spaced h = h
option_spelled option (Some t) ts dates rest is spaced h = (true, stamp t, ts, stamp_spells (stamp t) t (stamp_is t is), refl, spaced, h)

option_spaced : (option : List ℕ) (o : Option ℕ) (ts : List Tok) → begins_spaced ts ≡ true → begins_spaced (date_toks option o ++ ts) ≡ true
unfolding date_toks
option_spaced option None ts h = h
option_spaced option (Some t) ts h = refl

dates_of : Option ℕ → Option ℕ → List Date
dates_of before after = given (codes "NOTBEFORE") before ++ (given (codes "NOTAFTER") after ++ [])

dates_bounds : (before after : Option ℕ) → Bounds None None (dates_of before after) before after
unfolding given dates_of
dates_bounds None None = (refl, refl)
dates_bounds None (Some n) = (None, Some n, inr (refl, refl, refl, refl), (refl, refl))
dates_bounds (Some m) None = (Some m, None, inl (refl, refl, refl, refl), (refl, refl))
dates_bounds (Some m) (Some n) = (Some m, None, inl (refl, refl, refl, refl), (Some m, Some n, inr (refl, refl, refl, refl), (refl, refl)))

dates_spelled : (before after : Option ℕ) (rest : List Tok) → IfSome before IsMoment → IfSome after IsMoment → begins_spaced rest ≡ true
    → SpellsDates (date_toks (codes "NOTBEFORE") before ++ (date_toks (codes "NOTAFTER") after ++ rest)) (dates_of before after) rest
unfolding dates_of
dates_spelled before after rest b a spaced =
    option_spelled (codes "NOTBEFORE") before (date_toks (codes "NOTAFTER") after ++ rest) (given (codes "NOTAFTER") after ++ []) rest b
    (option_spaced (codes "NOTAFTER") after rest spaced) (option_spelled (codes "NOTAFTER") after rest [] rest a spaced refl)

-- ---- tags

tag_toks : Tag → Bool → List Tok
tag_toks tag true = word true 0 (tag_word tag) ∷ mark false colon ∷ []
tag_toks tag false = []

tag_if : Tag → Bool → List Tag
tag_if tag true = tag ∷ []
tag_if tag false = []

tags_toks : Tags → List Tok
tags_toks t = tag_toks NoPasswd t.nopasswd

tags_of : Tags → List Tag
tags_of t = tag_if NoPasswd t.nopasswd

lex_tag : (tag : Tag) (t : Bool) (rest : List ℕ) (ts : List Tok) → Lexes (space ∷ rest) ts → Lexes (space ∷ (tag_text tag t ++ rest)) (tag_toks tag t ++ ts)
unfolding tag_toks
lex_tag Passwd true rest ts h =
    lex_word true 0 (codes "PASSWD") (colon ∷ space ∷ rest) (mark false colon ∷ ts) (literal (codes "PASSWD") (omega arith) refl)
    (stop colon (space ∷ rest) refl refl) (lex_mark false colon (space ∷ rest) ts refl h)
lex_tag NoPasswd true rest ts h =
    lex_word true 0 (codes "NOPASSWD") (colon ∷ space ∷ rest) (mark false colon ∷ ts) (literal (codes "NOPASSWD") (omega arith) refl)
    (stop colon (space ∷ rest) refl refl) (lex_mark false colon (space ∷ rest) ts refl h)
lex_tag tag false rest ts h = h

lex_tags : (t : Tags) (rest : List ℕ) (ts : List Tok) → Lexes (space ∷ rest) ts → Lexes (space ∷ (tags_text t ++ rest)) (tags_toks t ++ ts)
unfolding tags_toks
lex_tags t rest ts h = lex_tag NoPasswd t.nopasswd rest ts h

tag_spelled : (tag : Tag) (t : Bool) (rest : List Tok) → SpellsTags (tag_toks tag t ++ rest) (tag_if tag t) rest
unfolding tag_toks tag_if
tag_spelled tag true rest = (true, false, rest, refl, refl)
tag_spelled tag false rest = refl

tags_spelled : (t : Tags) (rest : List Tok) → SpellsTags (tags_toks t ++ rest) (tags_of t) rest
unfolding tags_toks tags_of
tags_spelled t rest = tag_spelled NoPasswd t.nopasswd rest

tag_spaced : (tag : Tag) (t : Bool) (rest : List Tok) → begins_spaced rest ≡ true → begins_spaced (tag_toks tag t ++ rest) ≡ true
unfolding tag_toks
tag_spaced tag true rest h = refl
tag_spaced tag false rest h = h

tags_spaced : (t : Tags) (rest : List Tok) → begins_spaced rest ≡ true → begins_spaced (tags_toks t ++ rest) ≡ true
unfolding tags_toks
tags_spaced t rest h = tag_spaced NoPasswd t.nopasswd rest h

nopasswd_given : (t : Bool) → with_tags no_tags (given_by (tag_if NoPasswd t)) ≡ record { nopasswd = t }
unfolding tag_if
nopasswd_given true = refl
nopasswd_given false = refl

tags_given : (t : Tags) → with_tags no_tags (given_by (tags_of t)) ≡ t
unfolding tags_of
tags_given t = nopasswd_given t.nopasswd

-- ---- the line

-- what is printed after the targets, and how it is read
what_toks : Rule → List Tok
what_toks r = date_toks (codes "NOTBEFORE") r.not_before ++ (date_toks (codes "NOTAFTER") r.not_after ++ (tags_toks r.tags ++ (cmnd_toks true r.cmnd ++ [])))

lex_what : (r : Rule) → IsRule r → Lexes (space ∷ (date_option_text (codes "NOTBEFORE") r.not_before
    ++ (date_option_text (codes "NOTAFTER") r.not_after ++ (tags_text r.tags ++ (signed_text cmnd_item_text r.cmnd ++ []))))) (what_toks r)
unfolding what_toks
lex_what r is =
    let cmnd_text = signed_text cmnd_item_text r.cmnd ++ [] in
    let cmnd = lex_cmnd true r.cmnd [] [] is.cmnd refl tt in
    let tagged = lex_tags r.tags cmnd_text (cmnd_toks true r.cmnd ++ []) cmnd in
    let dated = lex_option (codes "NOTAFTER") r.not_after (tags_text r.tags ++ cmnd_text) (tags_toks r.tags
    ++ (cmnd_toks true r.cmnd ++ [])) (literal (codes "NOTAFTER") (omega arith) refl) is.not_after tagged in
    lex_option (codes "NOTBEFORE") r.not_before (date_option_text (codes "NOTAFTER") r.not_after ++ (tags_text r.tags ++ cmnd_text))
    (date_toks (codes "NOTAFTER") r.not_after ++ (tags_toks r.tags ++ (cmnd_toks true r.cmnd ++ [])))
    (literal (codes "NOTBEFORE") (omega arith) refl) is.not_before dated

behind_users : Rule → List Tok
behind_users r =
    list_toks item_toks true r.hosts ++ (mark true equals ∷ mark true opening ∷ (list_toks item_toks false r.runas ++ (mark false closing ∷ what_toks r)))

pub line_toks : Rule → List Tok
line_toks r = list_toks item_toks false r.users ++ behind_users r

who_lexes : (r : Rule) (what : List ℕ) → IsRule r → Lexes (space ∷ what) (what_toks r) → Lexes (names_text r.users
    ++ (space ∷ (names_text r.hosts ++ (space ∷ equals ∷ space ∷ opening ∷ (names_text r.runas ++ (closing ∷ space ∷ what)))))) (line_toks r)
unfolding line_toks behind_users
who_lexes r what is h =
    let closed = lex_mark false closing (space ∷ what) (what_toks r) refl h in
    let inner = lex_users false r.runas (closing ∷ space ∷ what) (mark false closing ∷ what_toks r) is.runas (stop closing (space ∷ what) refl refl) closed in
    let opened = lex_mark true opening
    (names_text r.runas ++ (closing ∷ space ∷ what)) (list_toks item_toks false r.runas ++ (mark false closing ∷ what_toks r)) refl inner in
    let marked = lex_mark true equals (space ∷ opening ∷ (names_text r.runas ++ (closing ∷ space ∷ what)))
    (mark true opening ∷ (list_toks item_toks false r.runas ++ (mark false closing ∷ what_toks r))) refl opened in
    let hosts = lex_hosts true r.hosts (space ∷ equals ∷ space ∷ opening ∷ (names_text r.runas ++ (closing ∷ space ∷ what)))
    (mark true equals ∷ mark true opening ∷ (list_toks item_toks false r.runas ++ (mark false closing ∷ what_toks r))) is.hosts
    (stop space (equals ∷ space ∷ opening ∷ (names_text r.runas ++ (closing ∷ space ∷ what))) refl refl) marked in
    lex_users false r.users
    (space ∷ (names_text r.hosts ++ (space ∷ equals ∷ space ∷ opening ∷ (names_text r.runas ++ (closing ∷ space ∷ what))))) (behind_users r) is.users
    (stop space (names_text r.hosts ++ (space ∷ equals ∷ space ∷ opening ∷ (names_text r.runas ++ (closing ∷ space ∷ what)))) refl refl) hosts

rule_front : (users hosts runas before after tag cmnd : List ℕ)
    → (users ++ codes " " ++ hosts ++ codes " = (" ++ runas ++ codes ") ") ++ (before ++ after ++ tag ++ cmnd)
    ≡ users ++ (space ∷ (hosts ++ (space ∷ equals ∷ space ∷ opening ∷ (runas ++ (closing ∷ space ∷ (before ++ (after ++ (tag ++ (cmnd ++ [])))))))))
rule_front users hosts runas before after tag cmnd = simp (append_assoc, append-nil)

pub rule_lexes : (r : Rule) → IsRule r → Lexes (rule_text r) (line_toks r)
rule_lexes r is =
    subst (λ (x : List ℕ). Lexes x (line_toks r)) (sym (rule_front (names_text r.users) (names_text r.hosts) (names_text r.runas)
    (date_option_text (codes "NOTBEFORE") r.not_before) (date_option_text (codes "NOTAFTER") r.not_after)
    (tags_text r.tags) (signed_text cmnd_item_text r.cmnd)))
    (who_lexes r (date_option_text (codes "NOTBEFORE") r.not_before
    ++ (date_option_text (codes "NOTAFTER") r.not_after ++ (tags_text r.tags ++ (signed_text cmnd_item_text r.cmnd ++ [])))) is (lex_what r is))

-- ---- the tree

spec_of : Rule → CmndSpec
spec_of r = record { runas = Some r.runas; not_before = r.not_before; not_after = r.not_after; tags = given_by (tags_of r.tags); cmnd = r.cmnd }

pub part_of : Rule → Part
part_of r = record { hosts = r.hosts; specs = spec_of r ∷ [] }

spec_spelled : (r : Rule) → IsRule r
    → SpellsCmndSpec (mark true opening ∷ (list_toks item_toks false r.runas ++ (mark false closing ∷ what_toks r))) (spec_of r) []
unfolding what_toks spec_of
spec_spelled r is =
    let cmnd = cmnd_toks true r.cmnd ++ [] in
    record {
      after_runas = what_toks r;
      dates = dates_of r.not_before r.not_after;
      after_dates = tags_toks r.tags ++ cmnd;
      tags = tags_of r.tags;
      after_tags = cmnd;
      runas = (
        true,
        false,
        list_toks item_toks false r.runas ++ (mark false closing ∷ what_toks r),
        mark false closing ∷ what_toks r,
        refl,
        users_spelled false r.runas (mark false closing ∷ what_toks r) is.runas,
        refl,
      );
      dated = dates_spelled r.not_before r.not_after (tags_toks r.tags ++ cmnd) is.not_before is.not_after (tags_spaced r.tags cmnd refl);
      bounds = dates_bounds r.not_before r.not_after;
      tagged = tags_spelled r.tags cmnd;
      given = refl;
      cmnd = cmnd_spelled true r.cmnd [] is.cmnd;
    }

pub rule_spelled : (r : Rule) → IsRule r → SpellsTree (line_toks r) (lines.UserSpec r.users (part_of r ∷ []))
unfolding line_toks behind_users part_of
rule_spelled r is =
    let behind = mark true opening ∷ (list_toks item_toks false r.runas ++ (mark false closing ∷ what_toks r)) in
    let part : SpellsPart (behind_users r) (part_of r) [] = record {
      spaced = true;
      next = behind;
      hosts = hosts_spelled true r.hosts (mark true equals ∷ behind) is.hosts;
      specs = ([], spec_spelled r is, refl);
    } in
    (behind_users r, users_spelled false r.users (behind_users r) is.users, items_spaced r.hosts (mark true equals ∷ behind) is.hosts.0, ([], part, refl))

pub rule_begins : (r : Rule) → IsRule r → BeginsWord (line_toks r)
unfolding line_toks
rule_begins r is = items_word false r.users (behind_users r) is.users.0

-- ---- its one entry is the rule

rule_of_parts : List (Signed (Item (List ℕ))) → List (Signed (Item (List ℕ)))
    → List (Signed (Item (List ℕ))) → Option ℕ → Option ℕ → Tags → Signed CmndItem → Rule
rule_of_parts users hosts runas not_before not_after tags cmnd =
    record { users = users; hosts = hosts; runas = runas; not_before = not_before; not_after = not_after; tags = tags; cmnd = cmnd }

or_none : (o : Option ℕ) → o ≡ option_or o None
or_none None = refl
or_none (Some n) = refl

pub rule_entries : (r : Rule) → entries.Rule r ∷ [] ≡ entries_of (lines.UserSpec r.users (part_of r ∷ []))
unfolding part_of spec_of rule_of_parts
rule_entries r =
    let same : rule_of_parts r.users r.hosts r.runas r.not_before r.not_after r.tags r.cmnd
    ≡ rule_of_parts r.users r.hosts r.runas (option_or r.not_before None)
    (option_or r.not_after None) (with_tags no_tags (given_by (tags_of r.tags))) r.cmnd =
    ap (λ (x : Option ℕ). rule_of_parts r.users r.hosts r.runas x r.not_after r.tags r.cmnd) (or_none r.not_before)
    ∙ ap (λ (x : Option ℕ). rule_of_parts r.users r.hosts r.runas (option_or r.not_before None) x r.tags r.cmnd) (or_none r.not_after) ∙ ap
    (λ (x : Tags). rule_of_parts r.users r.hosts r.runas (option_or r.not_before None) (option_or r.not_after None) x r.cmnd) (sym (tags_given r.tags)) in
    ap (λ (x : Rule). entries.Rule x ∷ []) same

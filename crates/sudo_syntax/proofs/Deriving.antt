-- How a literal text is shown to spell a policy: what computes is tested.
use Rattle.std.proofs.Common.{◌≡◌, ℕ, Bool, true, false, not, ◌&&◌, List, [], ◌∷◌, ◌++◌, length, Option, Some, None, refl, inl}
use Rattle.std.specs.Prelude.{nat_le, nat_lt, if◌then◌else◌, IfSome}
use Rattle.std.specs.List.{AllByRecursion, list_all}
use Rattle.std.specs.Option.{option_map_or}
use Rattle.std.proofs.lemmas.Bool.{and_parts, leb-true, ltb-true, not-true}
use Rattle.sudo_words.specs.Bytes.{space}
use Rattle.sudo_words.specs.Word.{is_name, is_host_name, is_alias_name, is_file_path, is_dir_path, is_sudoedit, is_arg}
use Rattle.sudo_words.specs.Moment.{IsMoment}
use Rattle.sudo_words.specs.Command.{IsHead, IsArgRule, cmnd_text, rule_of}
use Rattle.sudo_words.specs.declared.cmnd.Cmnd.{Cmnd}
use Rattle.sudo_words.specs.declared.cmnd.Cmnd.TheVariants as commands
use Rattle.sudo_words.specs.declared.cmnd.ArgRule.{ArgRule}
use Rattle.sudo_words.specs.declared.cmnd.ArgRule.TheVariants as rules
use Rattle.sudo_policy.specs.declared.entry.Signed.{Signed}
use Rattle.sudo_policy.specs.declared.entry.Item.{Item}
use Rattle.sudo_policy.specs.declared.entry.Item.TheVariants as items
use Rattle.sudo_policy.specs.declared.entry.CmndItem.{CmndItem}
use Rattle.sudo_policy.specs.declared.entry.CmndItem.TheVariants as cmnds
use Rattle.sudo_policy.specs.declared.entry.Entry.{Entry}
use Rattle.sudo_policy.specs.declared.entry.Entry.TheVariants as entries
use Rattle.sudo_policy.specs.declared.tree.Definition.{Definition}
use Rattle.sudo_policy.specs.declared.tree.CmndSpec.{CmndSpec}
use Rattle.sudo_policy.specs.Alias.{is_defined, item_alias, cmnd_alias, KnowsList, depth_of, alias_depth, user_defs, runas_defs, host_defs, cmnd_defs}
use Rattle.sudo_policy.specs.Policy.{IsItem, IsCmndItem, IsList, IsEntry, IsNew, IsPlaced, ArePlaced, weight, IsPolicy}
use Rattle.sudo_policy.specs.Printing.{canon, item_text}
use Rattle.sudo_policy.specs.Span.{Each}
use Rattle.sudo_policy.specs.Lex.{Tok, word, mark, is_spaced, text_of, is_some_blank, is_blank, is_mark, is_word_text, goes_on, is_text_byte, IsTok, Lexes}
use Rattle.sudo_policy.specs.Lines.{is_no_hash, ends_in_backslash, lines_of, IsBody, Joined}
use Rattle.sudo_policy.specs.Tags.{none_given}
use Rattle.sudo_policy.specs.Grammar.{SpellsItem, SpellsCmnd, SpellsCmndSpec, head_of, args_of, is_odd}
use Rattle.sudo_policy.specs.Spelling.{SpellsLines, Spells}

pub each_of : (p : ℕ → Bool) (bs : List ℕ) → list_all p bs ≡ true → Each p bs
each_of p [] h = tt
each_of p (b ∷ bs) h = let parts = and_parts (p b) (list_all p bs) h in (parts.0, each_of p bs parts.1)

-- ---- tokens: a space before each that says so, and what ends the line

abbrev gap : Bool → List ℕ
gap b = if b then space ∷ [] else []

abbrev pub bytes_of : List Tok → List ℕ → List ℕ
bytes_of [] end = end
bytes_of (t ∷ ts) end = gap (is_spaced t) ++ (text_of t ++ bytes_of ts end)

abbrev is_token : Tok → List ℕ → Bool
is_token (word spaced n text) rest = nat_lt 0 (length text) && is_word_text text && not (goes_on rest)
is_token (mark spaced byte) rest = is_mark byte

abbrev pub are_tokens : List Tok → List ℕ → Bool
are_tokens [] end = list_all is_blank end
are_tokens (t ∷ ts) end = is_token t (bytes_of ts end) && are_tokens ts end

not_true : (b : Bool) → not b ≡ true → b ≡ false
not_true true h = absurd (cc)
not_true false h = refl

a_token : (t : Tok) (rest : List ℕ) → is_token t rest ≡ true → IsTok t rest
a_token (word spaced n text) rest h =
    let parts = and_parts (nat_lt 0 (length text) && is_word_text text) (not (goes_on rest)) h in
    let more = and_parts (nat_lt 0 (length text)) (is_word_text text) parts.0 in
    (ltb-true 0 (length text) more.0, more.1, not_true (goes_on rest) parts.1)
a_token (mark spaced byte) rest h = h

space_blank : (b : Bool) → Each is_blank (gap b)
space_blank true = (refl, tt)
space_blank false = tt

space_some : (b : Bool) → b ≡ is_some_blank (gap b)
space_some true = refl
space_some false = refl

pub lexed : (ts : List Tok) (end : List ℕ) → are_tokens ts end ≡ true → Lexes (bytes_of ts end) ts
lexed [] end h = each_of is_blank end h
lexed (t ∷ ts) end h =
    let parts = and_parts (is_token t (bytes_of ts end)) (are_tokens ts end) h in
    (gap (is_spaced t), bytes_of ts end, space_blank (is_spaced t), space_some (is_spaced t), a_token t (bytes_of ts end) parts.0, refl, lexed ts end parts.1)

-- the same, with what more there is
abbrev pub front_tokens : List Tok → List ℕ → Bool
front_tokens [] end = true
front_tokens (t ∷ ts) end = is_token t (bytes_of ts end) && front_tokens ts end

pub lexed_more : (ts : List Tok) (end : List ℕ) (us : List Tok) → front_tokens ts end ≡ true → Lexes end us → Lexes (bytes_of ts end) (ts ++ us)
lexed_more [] end us h more = more
lexed_more (t ∷ ts) end us h more =
    let parts = and_parts (is_token t (bytes_of ts end)) (front_tokens ts end) h in (
      gap (is_spaced t),
      bytes_of ts end,
      space_blank (is_spaced t),
      space_some (is_spaced t),
      a_token t (bytes_of ts end) parts.0,
      refl,
      lexed_more ts end us parts.1 more,
    )

-- ---- lines

pub plain_body : (line : List ℕ) → list_all is_no_hash line ≡ true → ends_in_backslash line ≡ false → IsBody line line
plain_body line none last = inl (record { each = each_of is_no_hash line none; ends = last }, refl)

-- ---- items, commands and what stands before them

pub item : {form : List ℕ → Bool} {spaced : Bool} {n : ℕ} {x : Item (List ℕ)} {rest : List Tok}
    → IsItem form x → SpellsItem form (word spaced n (item_text x) ∷ rest) (record { negated = is_odd n; item = x }) rest
item {form} {spaced} {n} {x} {rest} h = record { spaced = spaced; bangs = n; toks = refl; item = h; sign = refl }

pub cmnd : {spaced : Bool} {n : ℕ} {x : CmndItem} {rest : List Tok}
    → IsCmndItem x → SpellsCmnd (word spaced n (head_of x) ∷ (args_of x ++ rest)) (record { negated = is_odd n; item = x }) rest
cmnd {spaced} {n} {x} {rest} h = record { spaced = spaced; bangs = n; toks = refl; item = h; sign = refl }

-- a command with nothing before it
abbrev pub only : Signed CmndItem → CmndSpec
only c = record { runas = None; not_before = None; not_after = None; tags = none_given; cmnd = c }

pub only_spelled : {ts : List Tok} {c : Signed CmndItem} {rest : List Tok} → SpellsCmnd ts c rest → SpellsCmndSpec ts (only c) rest
only_spelled {ts} {c} {rest} h = record {
  after_runas = ts;
  dates = [];
  after_dates = ts;
  tags = [];
  after_tags = ts;
  runas = refl;
  dated = refl;
  bounds = (refl, refl);
  tagged = refl;
  given = refl;
  cmnd = h;
}

-- ---- policies

abbrev item_ok : (List ℕ → Bool) → Item (List ℕ) → Bool
item_ok form items.All = true
item_ok form (items.Name name) = form name
item_ok form (items.Alias name) = is_alias_name name

item_is : (form : List ℕ → Bool) (x : Item (List ℕ)) → item_ok form x ≡ true → IsItem form x
item_is form items.All h = tt
item_is form (items.Name name) h = h
item_is form (items.Alias name) h = h

abbrev head_ok : Cmnd → Bool
head_ok commands.All = true
head_ok (commands.Path file rule) = is_file_path file && nat_le (length file) 255 && not (is_sudoedit file)
head_ok (commands.Dir dir) = is_dir_path dir && nat_le (length dir) 255

head_is : (c : Cmnd) → head_ok c ≡ true → IsHead c
head_is commands.All h = tt
head_is (commands.Path file rule) h =
    let parts = and_parts (is_file_path file && nat_le (length file) 255) (not (is_sudoedit file)) h in
    let more = and_parts (is_file_path file) (nat_le (length file) 255) parts.0 in
    (more.0, leb-true (length file) 255 more.1, not-true (is_sudoedit file) parts.1)
head_is (commands.Dir dir) h = let parts = and_parts (is_dir_path dir) (nat_le (length dir) 255) h in (parts.0, leb-true (length dir) 255 parts.1)

all_is : {X : Type 0} (p : X → Bool) (P : X → Type 0) → ((x : X) → p x ≡ true → P x) → (xs : List X) → list_all p xs ≡ true → AllByRecursion P xs
all_is p P is [] h = tt
all_is p P is (x ∷ xs) h = let parts = and_parts (p x) (list_all p xs) h in (is x parts.0, all_is p P is xs parts.1)

abbrev rule_ok : ArgRule → Bool
rule_ok rules.Any = true
rule_ok rules.Empty = true
rule_ok (rules.Exactly args) = list_all is_arg args && nat_le 1 (length args) && nat_le (length args) 16

rule_is : (r : ArgRule) → rule_ok r ≡ true → IsArgRule r
rule_is rules.Any h = tt
rule_is rules.Empty h = tt
rule_is (rules.Exactly args) h =
    let parts = and_parts (list_all is_arg args && nat_le 1 (length args)) (nat_le (length args) 16) h in
    let more = and_parts (list_all is_arg args) (nat_le 1 (length args)) parts.0 in
    (all_is is_arg (λ a. is_arg a ≡ true) (λ a e. e) args more.0, leb-true 1 (length args) more.1, leb-true (length args) 16 parts.1)

abbrev pub cmnd_ok : CmndItem → Bool
cmnd_ok (cmnds.Alias name) = is_alias_name name
cmnd_ok (cmnds.Cmnd c) = head_ok c && rule_ok (rule_of c) && nat_le (length (cmnd_text c)) 1024

pub cmnd_is : (x : CmndItem) → cmnd_ok x ≡ true → IsCmndItem x
cmnd_is (cmnds.Alias name) h = h
cmnd_is (cmnds.Cmnd c) h =
    let parts = and_parts (head_ok c && rule_ok (rule_of c)) (nat_le (length (cmnd_text c)) 1024) h in
    let more = and_parts (head_ok c) (rule_ok (rule_of c)) parts.0 in
    record { head = head_is c more.0; args = rule_is (rule_of c) more.1; short = leb-true (length (cmnd_text c)) 1024 parts.1 }

abbrev list_ok : {X : Type 0} → (X → Bool) → List (Signed X) → Bool
list_ok ok xs = nat_le 1 (length xs) && list_all (λ s. ok s.item) xs

list_is : {X : Type 0} (ok : X → Bool) (Is : X → Type 0) → ((x : X) → ok x ≡ true → Is x) → (xs : List (Signed X)) → list_ok ok xs ≡ true → IsList Is xs
list_is ok Is is xs h =
    let parts = and_parts (nat_le 1 (length xs)) (list_all (λ s. ok s.item) xs) h in
    (leb-true 1 (length xs) parts.0, all_is (λ s. ok s.item) (λ s. Is s.item) (λ s. is s.item) xs parts.1)

abbrev moment_ok : Option ℕ → Bool
moment_ok None = true
moment_ok (Some t) = nat_le t 4_102_444_799

moment_is : (o : Option ℕ) → moment_ok o ≡ true → IfSome o IsMoment
moment_is None h = tt
moment_is (Some t) h = leb-true t 4_102_444_799 h

abbrev pub entry_ok : Entry → Bool
entry_ok (entries.UserAlias name list) = is_alias_name name && list_ok (item_ok is_name) list
entry_ok (entries.RunasAlias name list) = is_alias_name name && list_ok (item_ok is_name) list
entry_ok (entries.HostAlias name list) = is_alias_name name && list_ok (item_ok is_host_name) list
entry_ok (entries.CmndAlias name list) = is_alias_name name && list_ok cmnd_ok list
entry_ok (entries.Rule r) =
    list_ok (item_ok is_name) r.users && (list_ok (item_ok is_host_name) r.hosts
    && (list_ok (item_ok is_name) r.runas && (moment_ok r.not_before && (moment_ok r.not_after && cmnd_ok r.cmnd.item))))

names_is : (form : List ℕ → Bool) (xs : List (Signed (Item (List ℕ)))) → list_ok (item_ok form) xs ≡ true → IsList (IsItem form) xs
names_is form = list_is (item_ok form) (IsItem form) (item_is form)

entry_is : (e : Entry) → entry_ok e ≡ true → IsEntry e
entry_is (entries.UserAlias name list) h =
    let parts = and_parts (is_alias_name name) (list_ok (item_ok is_name) list) h in
    (parts.0, names_is is_name list parts.1)
entry_is (entries.RunasAlias name list) h =
    let parts = and_parts (is_alias_name name) (list_ok (item_ok is_name) list) h in
    (parts.0, names_is is_name list parts.1)
entry_is (entries.HostAlias name list) h =
    let parts = and_parts (is_alias_name name) (list_ok (item_ok is_host_name) list) h in
    (parts.0, names_is is_host_name list parts.1)
entry_is (entries.CmndAlias name list) h =
    let parts = and_parts (is_alias_name name) (list_ok cmnd_ok list) h in
    (parts.0, list_is cmnd_ok IsCmndItem cmnd_is list parts.1)
entry_is (entries.Rule r) h =
    let users = and_parts (list_ok (item_ok is_name) r.users) _ h in
    let hosts = and_parts (list_ok (item_ok is_host_name) r.hosts) _ users.1 in
    let runas = and_parts (list_ok (item_ok is_name) r.runas) _ hosts.1 in
    let first = and_parts (moment_ok r.not_before) _ runas.1 in
    let last = and_parts (moment_ok r.not_after) (cmnd_ok r.cmnd.item) first.1 in
    record {
      users = names_is is_name r.users users.0;
      hosts = names_is is_host_name r.hosts hosts.0;
      runas = names_is is_name r.runas runas.0;
      not_before = moment_is r.not_before first.0;
      not_after = moment_is r.not_after last.0;
      cmnd = cmnd_is r.cmnd.item last.1;
    }

pub entries_are : (es : List Entry) → list_all entry_ok es ≡ true → AllByRecursion IsEntry es
entries_are es h = all_is entry_ok IsEntry entry_is es h

abbrev known : {X : Type 0} → (X → Option (List ℕ)) → List (Definition X) → List (Signed X) → Bool
known alias_of defs list = list_all (λ s. option_map_or (is_defined defs) (alias_of s.item) true) list

known_one : (p : List ℕ → Bool) (o : Option (List ℕ)) → option_map_or p o true ≡ true → IfSome o (λ n. p n ≡ true)
known_one p None h = tt
known_one p (Some n) h = h

known_is : {X : Type 0} (alias_of : X → Option (List ℕ)) (defs : List (Definition X)) (list : List (Signed X))
    → known alias_of defs list ≡ true → KnowsList alias_of defs list
known_is alias_of defs list h =
    all_is (λ s. option_map_or (is_defined defs) (alias_of s.item) true)
    (λ s. IfSome (alias_of s.item) (λ n. is_defined defs n ≡ true)) (λ s. known_one (is_defined defs) (alias_of s.item)) list h

abbrev new_ok : {X : Type 0} → (X → Option (List ℕ)) → List (Definition X) → List ℕ → List (Signed X) → Bool
new_ok alias_of defs name list = not (is_defined defs name) && (known alias_of defs list && nat_le (depth_of alias_of (alias_depth alias_of defs) list) 64)

new_is : {X : Type 0} (alias_of : X → Option (List ℕ)) (defs : List (Definition X)) (name : List ℕ) (list : List (Signed X))
    → new_ok alias_of defs name list ≡ true → IsNew alias_of defs name list
new_is alias_of defs name list h =
    let new = and_parts (not (is_defined defs name)) _ h in
    let rest = and_parts (known alias_of defs list) (nat_le (depth_of alias_of (alias_depth alias_of defs) list) 64) new.1 in
    record {
      new = not_true (is_defined defs name) new.0;
      knows = known_is alias_of defs list rest.0;
      shallow = leb-true (depth_of alias_of (alias_depth alias_of defs) list) 64 rest.1;
    }

abbrev placed_ok : List Entry → Entry → Bool
placed_ok above (entries.UserAlias name list) = new_ok item_alias (user_defs above) name list
placed_ok above (entries.RunasAlias name list) = new_ok item_alias (runas_defs above) name list
placed_ok above (entries.HostAlias name list) = new_ok item_alias (host_defs above) name list
placed_ok above (entries.CmndAlias name list) = new_ok cmnd_alias (cmnd_defs above) name list
placed_ok above (entries.Rule r) =
    known item_alias (user_defs above) r.users
    && (known item_alias (host_defs above) r.hosts && (known item_alias (runas_defs above) r.runas && known cmnd_alias (cmnd_defs above) (r.cmnd ∷ [])))

placed_is : (above : List Entry) (e : Entry) → placed_ok above e ≡ true → IsPlaced above e
placed_is above (entries.UserAlias name list) h = new_is item_alias (user_defs above) name list h
placed_is above (entries.RunasAlias name list) h = new_is item_alias (runas_defs above) name list h
placed_is above (entries.HostAlias name list) h = new_is item_alias (host_defs above) name list h
placed_is above (entries.CmndAlias name list) h = new_is cmnd_alias (cmnd_defs above) name list h
placed_is above (entries.Rule r) h =
    let users = and_parts (known item_alias (user_defs above) r.users) _ h in
    let hosts = and_parts (known item_alias (host_defs above) r.hosts) _ users.1 in
    let runas = and_parts (known item_alias (runas_defs above) r.runas) (known cmnd_alias (cmnd_defs above) (r.cmnd ∷ [])) hosts.1 in
    record {
      users = known_is item_alias (user_defs above) r.users users.0;
      hosts = known_is item_alias (host_defs above) r.hosts hosts.0;
      runas = known_is item_alias (runas_defs above) r.runas runas.0;
      cmnd = known_is cmnd_alias (cmnd_defs above) (r.cmnd ∷ []) runas.1;
    }

abbrev all_placed : List Entry → List Entry → Bool
all_placed above [] = true
all_placed above (e ∷ es) = placed_ok above e && all_placed (e ∷ above) es

are_placed : (above es : List Entry) → all_placed above es ≡ true → ArePlaced above es
are_placed above [] h = tt
are_placed above (e ∷ es) h =
    let parts = and_parts (placed_ok above e) (all_placed (e ∷ above) es) h in
    (placed_is above e parts.0, are_placed (e ∷ above) es parts.1)

abbrev pub policy_ok : List Entry → Bool
policy_ok es =
    list_all entry_ok es && (all_placed [] es && (nat_le (length es) 16_384 && (nat_le (weight es) 131_072 && nat_le (length (canon es)) 16_777_216)))

pub policy_is : (es : List Entry) → policy_ok es ≡ true → IsPolicy es
policy_is es h =
    let each = and_parts (list_all entry_ok es) _ h in
    let placed = and_parts (all_placed [] es) _ each.1 in
    let count = and_parts (nat_le (length es) 16_384) _ placed.1 in
    let light = and_parts (nat_le (weight es) 131_072) (nat_le (length (canon es)) 16_777_216) count.1 in
    record {
      each = all_is entry_ok IsEntry entry_is es each.0;
      placed = are_placed [] es placed.0;
      count = leb-true (length es) 16_384 count.0;
      light = leb-true (weight es) 131_072 light.0;
      short = leb-true (length (canon es)) 16_777_216 light.1;
    }

-- ---- texts

abbrev pub text_ok : List ℕ → Bool
text_ok text = nat_le (length text) 16_777_216 && list_all is_text_byte text

pub spelled : (text : List ℕ) (joined : List (List ℕ)) (es : List Entry) → text_ok text ≡ true
    → Joined (lines_of text) joined → SpellsLines joined es → policy_ok es ≡ true → Spells text es
spelled text joined es ok lines entries policy =
    let parts = and_parts (nat_le (length text) 16_777_216) (list_all is_text_byte text) ok in
    record {
      short = leb-true (length text) 16_777_216 parts.0;
      bytes = each_of is_text_byte text parts.1;
      joined = joined;
      lines = lines;
      entries = entries;
      policy = policy_is es policy;
    }

-- A line begins with the word of a kind of aliases, or as a user specification.
use Rattle.std.proofs.Common.{◌≡◌, ℕ, false, List, [], ◌∷◌, refl, sym, ap, ◌∙◌, Option, Some, None, Result, Ok, Err, arith}
use Rattle.std.specs.Prelude.{codes}
use Rattle.std.proofs.lemmas.Bool.{false≢true}
use Rattle.sudo_words.specs.Word.{is_name, is_alias_name}
use Rattle.sudo_policy.specs.declared.entry.Signed.{Signed}
use Rattle.sudo_policy.specs.declared.entry.Item.{Item}
use Rattle.sudo_policy.specs.declared.entry.Item.TheVariants as items
use Rattle.sudo_policy.specs.declared.entry.CmndItem.{CmndItem}
use Rattle.sudo_policy.specs.declared.tree.Definition.{Definition}
use Rattle.sudo_policy.specs.declared.tree.Part.{Part}
use Rattle.sudo_policy.specs.declared.tree.Line.{Line}
use Rattle.sudo_policy.specs.declared.tree.Line.TheVariants as lines
use Rattle.sudo_policy.specs.Lex.{Tok}
use Rattle.sudo_policy.specs.Printing.{item_text}
use Rattle.sudo_policy.specs.Policy.{IsItem}
use Rattle.sudo_policy.specs.Grammar.{Users, SpellsAliases, SpellsUserSpec, SpellsTree}
use Rattle.sudo_syntax.specs.private.Fronts.{NoKind}

-- ---- the words of the four kinds

abbrev pub users_kind : List ℕ
users_kind = codes "User_Alias"

abbrev pub runas_kind : List ℕ
runas_kind = codes "Runas_Alias"

abbrev pub hosts_kind : List ℕ
hosts_kind = codes "Host_Alias"

abbrev pub cmnds_kind : List ℕ
cmnds_kind = codes "Cmnd_Alias"

abbrev first_byte : List ℕ → ℕ
first_byte [] = 0
first_byte (b ∷ bs) = b

users_runas : users_kind ≡ runas_kind → ⊥
users_runas e = let bytes : ◌≡◌ {A = ℕ} 85 82 = ap first_byte e in absurd (omega arith)

users_hosts : users_kind ≡ hosts_kind → ⊥
users_hosts e = let bytes : ◌≡◌ {A = ℕ} 85 72 = ap first_byte e in absurd (omega arith)

users_cmnds : users_kind ≡ cmnds_kind → ⊥
users_cmnds e = let bytes : ◌≡◌ {A = ℕ} 85 67 = ap first_byte e in absurd (omega arith)

runas_hosts : runas_kind ≡ hosts_kind → ⊥
runas_hosts e = let bytes : ◌≡◌ {A = ℕ} 82 72 = ap first_byte e in absurd (omega arith)

runas_cmnds : runas_kind ≡ cmnds_kind → ⊥
runas_cmnds e = let bytes : ◌≡◌ {A = ℕ} 82 67 = ap first_byte e in absurd (omega arith)

hosts_cmnds : hosts_kind ≡ cmnds_kind → ⊥
hosts_cmnds e = let bytes : ◌≡◌ {A = ℕ} 72 67 = ap first_byte e in absurd (omega arith)

-- none of them is `ALL`, a name or an alias
abbrev pub IsNoItem : List ℕ → Type 0
IsNoItem kind = (codes "ALL" ≡ kind → ⊥) × (is_name kind ≡ false) × (is_alias_name kind ≡ false)

all_users : codes "ALL" ≡ users_kind → ⊥
all_users e = let bytes : ◌≡◌ {A = ℕ} 65 85 = ap first_byte e in absurd (omega arith)

all_runas : codes "ALL" ≡ runas_kind → ⊥
all_runas e = let bytes : ◌≡◌ {A = ℕ} 65 82 = ap first_byte e in absurd (omega arith)

all_hosts : codes "ALL" ≡ hosts_kind → ⊥
all_hosts e = let bytes : ◌≡◌ {A = ℕ} 65 72 = ap first_byte e in absurd (omega arith)

all_cmnds : codes "ALL" ≡ cmnds_kind → ⊥
all_cmnds e = let bytes : ◌≡◌ {A = ℕ} 65 67 = ap first_byte e in absurd (omega arith)

no_item : (kind : List ℕ) → IsNoItem kind → (i : Item (List ℕ)) → IsItem is_name i → item_text i ≡ kind → ⊥
no_item kind n items.All is e = n.0 e
no_item kind n (items.Name w) is e = false≢true (sym n.1 ∙ ap is_name (sym e) ∙ is)
no_item kind n (items.Alias w) is e = false≢true (sym n.2 ∙ ap is_alias_name (sym e) ∙ is)

-- ---- a line of one kind does not begin with another kind's word

aliases_begin : {X : Type 0} (kind other : List ℕ) (Is : List Tok → Signed X → List Tok → Type 0) (ts : List Tok) (defs : List (Definition X))
    → (kind ≡ other → ⊥) → SpellsAliases kind Is ts defs → NoKind other ts
aliases_begin kind other Is ts defs n h = λ a next e.
    let two = sym h.2 ∙ e in
    let same : kind ≡ other = cc in
    n same

users_begin : (kind : List ℕ) → IsNoItem kind → (ts : List Tok) (users : List (Signed (Item (List ℕ)))) (rest : List Tok) → Users ts users rest → NoKind kind ts
users_begin kind n ts [] rest h = absurd h
users_begin kind n ts (u ∷ users) rest h = λ a next e.
    let two = sym h.1.toks ∙ e in
    let same : item_text u.item ≡ kind = cc in
    no_item kind n u.item h.1.item same

user_spec_begin : (kind : List ℕ) → IsNoItem kind → (ts : List Tok) (users : List (Signed (Item (List ℕ)))) (parts : List Part)
    → SpellsUserSpec ts users parts → NoKind kind ts
user_spec_begin kind n ts users parts h = users_begin kind n ts users h.0 h.1

not : (kind other : List ℕ) → (other ≡ kind → ⊥) → kind ≡ other → ⊥
not kind other n e = n (sym e)

-- ---- what holds of lines, by the kind of the line: those of this kind, and those that begin with no word of this kind

pub by_users : (R : Line → Type 0) (ts : List Tok) (l : Line) → SpellsTree ts l
    → ((defs : List (Definition (Item (List ℕ)))) → SpellsTree ts (lines.Users defs) → R (lines.Users defs)) → (NoKind users_kind ts → R l) → R l
by_users R ts (lines.Users defs) h here there = here defs h
by_users R ts (lines.Runas defs) h here there = there (aliases_begin runas_kind users_kind _ ts defs (not runas_kind users_kind users_runas) h)
by_users R ts (lines.Hosts defs) h here there = there (aliases_begin hosts_kind users_kind _ ts defs (not hosts_kind users_kind users_hosts) h)
by_users R ts (lines.Cmnds defs) h here there = there (aliases_begin cmnds_kind users_kind _ ts defs (not cmnds_kind users_kind users_cmnds) h)
by_users R ts (lines.UserSpec users parts) h here there = there (user_spec_begin users_kind (all_users, refl, refl) ts users parts h)

pub by_runas : (R : Line → Type 0) (ts : List Tok) (l : Line) → SpellsTree ts l
    → ((defs : List (Definition (Item (List ℕ)))) → SpellsTree ts (lines.Runas defs) → R (lines.Runas defs)) → (NoKind runas_kind ts → R l) → R l
by_runas R ts (lines.Users defs) h here there = there (aliases_begin users_kind runas_kind _ ts defs users_runas h)
by_runas R ts (lines.Runas defs) h here there = here defs h
by_runas R ts (lines.Hosts defs) h here there = there (aliases_begin hosts_kind runas_kind _ ts defs (not hosts_kind runas_kind runas_hosts) h)
by_runas R ts (lines.Cmnds defs) h here there = there (aliases_begin cmnds_kind runas_kind _ ts defs (not cmnds_kind runas_kind runas_cmnds) h)
by_runas R ts (lines.UserSpec users parts) h here there = there (user_spec_begin runas_kind (all_runas, refl, refl) ts users parts h)

pub by_hosts : (R : Line → Type 0) (ts : List Tok) (l : Line) → SpellsTree ts l
    → ((defs : List (Definition (Item (List ℕ)))) → SpellsTree ts (lines.Hosts defs) → R (lines.Hosts defs)) → (NoKind hosts_kind ts → R l) → R l
by_hosts R ts (lines.Users defs) h here there = there (aliases_begin users_kind hosts_kind _ ts defs users_hosts h)
by_hosts R ts (lines.Runas defs) h here there = there (aliases_begin runas_kind hosts_kind _ ts defs runas_hosts h)
by_hosts R ts (lines.Hosts defs) h here there = here defs h
by_hosts R ts (lines.Cmnds defs) h here there = there (aliases_begin cmnds_kind hosts_kind _ ts defs (not cmnds_kind hosts_kind hosts_cmnds) h)
by_hosts R ts (lines.UserSpec users parts) h here there = there (user_spec_begin hosts_kind (all_hosts, refl, refl) ts users parts h)

pub by_cmnds : (R : Line → Type 0) (ts : List Tok) (l : Line) → SpellsTree ts l
    → ((defs : List (Definition CmndItem)) → SpellsTree ts (lines.Cmnds defs) → R (lines.Cmnds defs)) → (NoKind cmnds_kind ts → R l) → R l
by_cmnds R ts (lines.Users defs) h here there = there (aliases_begin users_kind cmnds_kind _ ts defs users_cmnds h)
by_cmnds R ts (lines.Runas defs) h here there = there (aliases_begin runas_kind cmnds_kind _ ts defs runas_cmnds h)
by_cmnds R ts (lines.Hosts defs) h here there = there (aliases_begin hosts_kind cmnds_kind _ ts defs hosts_cmnds h)
by_cmnds R ts (lines.Cmnds defs) h here there = here defs h
by_cmnds R ts (lines.UserSpec users parts) h here there = there (user_spec_begin cmnds_kind (all_cmnds, refl, refl) ts users parts h)

-- a line that does not begin with any of the words
pub by_user_spec : (R : Line → Type 0) (ts : List Tok) (l : Line) → SpellsTree ts l
    → NoKind users_kind ts → NoKind runas_kind ts → NoKind hosts_kind ts → NoKind cmnds_kind ts
    → ((users : List (Signed (Item (List ℕ)))) (parts : List Part) → SpellsUserSpec ts users parts → R (lines.UserSpec users parts)) → R l
by_user_spec R ts (lines.Users defs) h a b c d here = absurd (a h.0 h.1 h.2)
by_user_spec R ts (lines.Runas defs) h a b c d here = absurd (b h.0 h.1 h.2)
by_user_spec R ts (lines.Hosts defs) h a b c d here = absurd (c h.0 h.1 h.2)
by_user_spec R ts (lines.Cmnds defs) h a b c d here = absurd (d h.0 h.1 h.2)
by_user_spec R ts (lines.UserSpec users parts) h a b c d here = here users parts h

-- ---- answers

pub err_no_ok : {T E : Type 0} (e : E) (x : T) → ◌≡◌ {A = Result T E} (Err e) (Ok x) → ⊥
err_no_ok e x h = absurd cc

pub some_no_none : {T E : Type 0} (o : Option T) (x : T) → o ≡ Some x → ◌≡◌ {A = Result (Option T) E} (Ok o) (Ok None) → ⊥
some_no_none o x s h = absurd cc

pub some_is : {T : Type 0} (o : Option T) (x y : T) → o ≡ Some x → o ≡ Some y → x ≡ y
some_is o x y a b = cc

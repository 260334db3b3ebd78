-- A command of a user specification is read in one way: its targets, dates, tags and the command.
use Rattle.std.proofs.Common.{◌≡◌, ℕ, Bool, false, List, [], ◌∷◌, ◌++◌, Option, Some, None, refl, sym, ap, subst, ◌∙◌, inl, inr, arith}
use Rattle.std.specs.Prelude.{codes}
use Rattle.std.proofs.lemmas.Bool.{false≢true}
use Rattle.sudo_words.specs.Bytes.{equals, comma, colon, closing}
use Rattle.sudo_words.specs.Word.{is_name, is_alias_name, is_reserved, is_file_path, is_dir_path}
use Rattle.sudo_words.specs.Moment as moments
use Rattle.sudo_words.specs.Command.{rule_of}
use Rattle.sudo_words.specs.declared.cmnd.Cmnd.TheVariants as commands
use Rattle.sudo_words.specs.declared.cmnd.ArgRule.{ArgRule}
use Rattle.sudo_words.specs.declared.cmnd.ArgRule.TheVariants.{Any, Empty, Exactly}
use Rattle.sudo_words.proofs.MomentTexts.{one_spelled}
use Rattle.sudo_policy.specs.declared.entry.Signed.{Signed}
use Rattle.sudo_policy.specs.declared.entry.Item.{Item}
use Rattle.sudo_policy.specs.declared.entry.CmndItem.{CmndItem}
use Rattle.sudo_policy.specs.declared.entry.CmndItem.TheVariants as cmnds
use Rattle.sudo_policy.specs.declared.tags.Tag.{Tag}
use Rattle.sudo_policy.specs.declared.tags.Tag.TheVariants.{Passwd, NoPasswd}
use Rattle.sudo_policy.specs.declared.tags.GivenTags.{GivenTags}
use Rattle.sudo_policy.specs.declared.tree.CmndSpec.{CmndSpec}
use Rattle.sudo_policy.specs.Lex.{Tok, word, mark}
use Rattle.sudo_policy.specs.Policy.{IsCmndItem}
use Rattle.sudo_policy.specs.Grammar.{Date, GivesBound, Bounds, Listed, Users, SpellsItem, SpellsCmnd, SpellsRunas}
use Rattle.sudo_policy.specs.Grammar.{SpellsDates, SpellsTags, SpellsCmndSpec, rule_toks, head_of, args_of}
use Rattle.sudo_policy.specs.Tags.{tag_word, given_by}
use Rattle.sudo_policy.proofs.ListTexts.{IsOne, listed_one}
use Rattle.sudo_policy.proofs.ItemTexts.{IsForm, user_form, spelled_item_one, EndsCmnd, spelled_cmnd_one}

-- ---- what tokens do not begin with

-- not with this mark
abbrev pub NotMark : ℕ → List Tok → Type 0
NotMark m [] = Unit {0}
NotMark m (word a n w ∷ ts) = Unit {0}
NotMark m (mark a k ∷ ts) = k ≡ m → ⊥

abbrev pub BeginsWord : List Tok → Type 0
BeginsWord [] = ⊥
BeginsWord (word a n w ∷ ts) = Unit {0}
BeginsWord (mark a m ∷ ts) = ⊥

pub word_no_mark : (m : ℕ) (ts : List Tok) → BeginsWord ts → NotMark m ts
word_no_mark m [] h = tt
word_no_mark m (word a n w ∷ ts) h = tt
word_no_mark m (mark a k ∷ ts) h = absurd h

-- not with a word directly before `=`
abbrev pub NotDate : List Tok → Type 0
NotDate ts = (a : Bool) (w : List ℕ) (next : List Tok) → ts ≡ word a 0 w ∷ mark false equals ∷ next → ⊥

-- not with the word of a tag
abbrev pub NotTag : List Tok → Type 0
NotTag ts = (a : Bool) (t : Tag) (next : List Tok) → ts ≡ word a 0 (tag_word t) ∷ next → ⊥

-- ---- lists of items

pub items_one : (form : List ℕ → Bool) → IsForm form → (G : List Tok → Type 0)
    → ((a : Bool) (next : List Tok) → G (mark a comma ∷ next) → ⊥) → IsOne (Listed comma (SpellsItem form)) G
items_one form f G ended =
    listed_one comma (SpellsItem form) (λ (ts : List Tok). Unit {0}) G (λ a next. tt) (λ r n. tt) ended (spelled_item_one form f (λ (ts : List Tok). Unit {0}))

-- ---- targets

runas_one : IsOne SpellsRunas BeginsWord
runas_one ts None None r s g h n k = (refl, sym g ∙ h)
runas_one ts None (Some ys) r s g h n k = absurd (subst BeginsWord (sym g ∙ h.4) n)
runas_one ts (Some xs) None r s g h n k = absurd (subst BeginsWord (sym h ∙ g.4) k)
runas_one ts (Some xs) (Some ys) r s g h n k =
    let opened = sym g.4 ∙ h.4 in
    let next : g.2 ≡ h.2 = cc in
    let ended : (a : Bool) (more : List Tok) → NotMark comma (mark a comma ∷ more) → ⊥ = λ a more no. no refl in
    let closes : (a : Bool) (mid more : List Tok) → mid ≡ mark a closing ∷ more → NotMark comma mid =
    λ a mid more e. subst (NotMark comma) (sym e) (λ bad. omega arith) in
    let users = items_one is_name user_form (NotMark comma) ended h.2 xs ys g.3 h.3
    (subst (λ (t : List Tok). Users t xs g.3) next g.5) h.5 (closes g.1 g.3 r g.6) (closes h.1 h.3 s h.6) in
    let closed = sym g.6 ∙ users.1 ∙ h.6 in
    (ap (λ (zs : List (Signed (Item (List ℕ)))). Some zs) users.0, cc)

-- ---- dates

abbrev named : List ℕ → ℕ → Date
named name moment = record { word = name; moment = moment }

date_one : (c d : Date) → c.word ≡ d.word → c.moment ≡ d.moment → c ≡ d
date_one c d w m =
    let same : named c.word c.moment ≡ named d.word d.moment = ap (λ (name : List ℕ). named name c.moment) w ∙ ap (λ (t : ℕ). named d.word t) m in
    same

dates_one : IsOne SpellsDates NotDate
dates_one ts [] [] r s g h n k = (refl, sym g ∙ h)
dates_one ts [] (e ∷ es) r s g h n k = absurd (n h.0 e.word (word false 0 h.1 ∷ h.2) (sym g ∙ h.4))
dates_one ts (d ∷ ds) [] r s g h n k = absurd (k g.0 d.word (word false 0 g.1 ∷ g.2) (sym h ∙ g.4))
dates_one ts (d ∷ ds) (e ∷ es) r s g h n k =
    let both = sym g.4 ∙ h.4 in
    let name : d.word ≡ e.word = cc in
    let time : g.1 ≡ h.1 = cc in
    let left : g.2 ≡ h.2 = cc in
    let moment = one_spelled h.1 d.moment e.moment (subst (λ (t : List ℕ). moments.SpellsMoment t d.moment) time g.3) h.3 in
    let more = dates_one h.2 ds es r s (subst (λ (t : List Tok). SpellsDates t ds r) left g.6) h.6 n k in
    (ap (λ (z : Date). z ∷ ds) (date_one d e name moment) ∙ ap (λ (zs : List Date). e ∷ zs) more.0, more.1)

names_differ : codes "NOTBEFORE" ≡ codes "NOTAFTER" → ⊥
names_differ e = absurd cc

-- an option gives its bound in one way
bound_one : (before after : Option ℕ) (d : Date) (b a c e : Option ℕ) → GivesBound before after d b a → GivesBound before after d c e → (b ≡ c) × (a ≡ e)
bound_one before after d b a c e (inl g) (inl h) = (g.2 ∙ sym h.2, g.3 ∙ sym h.3)
bound_one before after d b a c e (inl g) (inr h) = absurd (names_differ (sym g.0 ∙ h.0))
bound_one before after d b a c e (inr g) (inl h) = absurd (names_differ (sym h.0 ∙ g.0))
bound_one before after d b a c e (inr g) (inr h) = (g.3 ∙ sym h.3, g.2 ∙ sym h.2)

pub bounds_one : (before after : Option ℕ) (ds : List Date) (b a c e : Option ℕ) → Bounds before after ds b a → Bounds before after ds c e → (b ≡ c) × (a ≡ e)
bounds_one before after [] b a c e g h = (g.0 ∙ sym h.0, g.1 ∙ sym h.1)
bounds_one before after (d ∷ ds) b a c e g h =
    let first = bound_one before after d g.0 g.1 h.0 h.1 g.2 h.2 in
    bounds_one h.0 h.1 ds b a c e (subst (λ (x : Option ℕ). Bounds x h.1 ds b a) first.0 (subst (λ (x : Option ℕ). Bounds g.0 x ds b a) first.1 g.3)) h.3

-- ---- tags

-- two tags have different words
pub tag_one : (s t : Tag) → tag_word s ≡ tag_word t → s ≡ t
tag_one Passwd Passwd e = refl
tag_one Passwd NoPasswd e = absurd cc
tag_one NoPasswd Passwd e = absurd cc
tag_one NoPasswd NoPasswd e = refl

tags_one : IsOne SpellsTags NotTag
tags_one ts [] [] r s g h n k = (refl, sym g ∙ h)
tags_one ts [] (t ∷ us) r s g h n k = absurd (n h.0 t (mark h.1 colon ∷ h.2) (sym g ∙ h.3))
tags_one ts (t ∷ us) [] r s g h n k = absurd (k g.0 t (mark g.1 colon ∷ g.2) (sym h ∙ g.3))
tags_one ts (t ∷ us) (v ∷ vs) r s g h n k =
    let both = sym g.3 ∙ h.3 in
    let name : tag_word t ≡ tag_word v = cc in
    let left : g.2 ≡ h.2 = cc in
    let more = tags_one h.2 us vs r s (subst (λ (x : List Tok). SpellsTags x us r) left g.4) h.4 n k in
    (ap (λ (z : Tag). z ∷ us) (tag_one t v name) ∙ ap (λ (zs : List Tag). v ∷ zs) more.0, more.1)

-- ---- what stands in front of a command, of tags and of dates

-- a word that is neither an alias nor a command's head
record IsNoHead (w : List ℕ) : Type 0 where
  pub alias : is_alias_name w ≡ false
  pub all : codes "ALL" ≡ w → ⊥
  pub file : is_file_path w ≡ false
  pub dir : is_dir_path w ≡ false

no_head : (w : List ℕ) → IsNoHead w → (c : CmndItem) → IsCmndItem c → head_of c ≡ w → ⊥
no_head w not_head (cmnds.Alias v) h e = false≢true (sym not_head.alias ∙ ap is_alias_name (sym e) ∙ h)
no_head w not_head (cmnds.Cmnd commands.All) h e = not_head.all e
no_head w not_head (cmnds.Cmnd (commands.Path file rule)) h e = false≢true (sym not_head.file ∙ ap is_file_path (sym e) ∙ h.head.0)
no_head w not_head (cmnds.Cmnd (commands.Dir dir)) h e = false≢true (sym not_head.dir ∙ ap is_dir_path (sym e) ∙ h.head.0)

tag_no_head : (t : Tag) → IsNoHead (tag_word t)
unfolding is_reserved
tag_no_head Passwd = record { alias = refl; all = λ e. absurd cc; file = refl; dir = refl }
tag_no_head NoPasswd = record { alias = refl; all = λ e. absurd cc; file = refl; dir = refl }

equals_no_end : (ts next : List Tok) → EndsCmnd ts → ts ≡ mark false equals ∷ next → ⊥
equals_no_end [] next h e = absurd cc
equals_no_end (word a n w ∷ ts) next h e = absurd h
equals_no_end (mark a m ∷ ts) next (inl h) e = let same : m ≡ equals = cc in absurd (omega arith)
equals_no_end (mark a m ∷ ts) next (inr h) e = let same : m ≡ equals = cc in absurd (omega arith)

-- no `=` follows a head
rule_no_equals : (q : ArgRule) (r next : List Tok) → EndsCmnd r → rule_toks q ++ r ≡ mark false equals ∷ next → ⊥
rule_no_equals Any r next n e = equals_no_end r next n e
rule_no_equals Empty r next n e = absurd cc
rule_no_equals (Exactly []) r next n e = equals_no_end r next n e
rule_no_equals (Exactly (a ∷ args)) r next n e = absurd cc

args_no_equals : (c : CmndItem) (r next : List Tok) → EndsCmnd r → args_of c ++ r ≡ mark false equals ∷ next → ⊥
args_no_equals (cmnds.Alias w) r next n e = equals_no_end r next n e
args_no_equals (cmnds.Cmnd c) r next n e = rule_no_equals (rule_of c) r next n e

pub cmnd_word : (ts : List Tok) (s : Signed CmndItem) (r : List Tok) → SpellsCmnd ts s r → BeginsWord ts
cmnd_word ts s r g = subst BeginsWord (sym g.toks) tt

cmnd_no_date : (ts : List Tok) (s : Signed CmndItem) (r : List Tok) → SpellsCmnd ts s r → EndsCmnd r → NotDate ts
cmnd_no_date ts s r g n a w next e =
    let both = sym g.toks ∙ e in
    let behind : args_of s.item ++ r ≡ mark false equals ∷ next = cc in
    args_no_equals s.item r next n behind

cmnd_no_tag : (ts : List Tok) (s : Signed CmndItem) (r : List Tok) → SpellsCmnd ts s r → NotTag ts
cmnd_no_tag ts s r g a t next e =
    let both = sym g.toks ∙ e in
    let head : head_of s.item ≡ tag_word t = cc in
    no_head (tag_word t) (tag_no_head t) s.item g.item head

tags_word : (ts : List Tok) (tags : List Tag) (r : List Tok) → SpellsTags ts tags r → BeginsWord r → BeginsWord ts
tags_word ts [] r g n = subst BeginsWord (sym g) n
tags_word ts (t ∷ tags) r g n = subst BeginsWord (sym g.3) tt

-- `:` is not `=`
colon_no_equals : (a b : Bool) (ts us : List Tok) → mark a colon ∷ ts ≡ mark b equals ∷ us → ⊥
colon_no_equals a b ts us e = let same : ◌≡◌ {A = ℕ} colon equals = cc in absurd (omega arith)

tags_no_date : (ts : List Tok) (tags : List Tag) (r : List Tok) → SpellsTags ts tags r → NotDate r → NotDate ts
tags_no_date ts [] r g n = subst NotDate (sym g) n
tags_no_date ts (t ∷ tags) r g n = λ a w next e.
    let both = sym g.3 ∙ e in
    let same : mark g.1 colon ∷ g.2 ≡ mark false equals ∷ next = cc in
    colon_no_equals g.1 false g.2 next same

dates_word : (ts : List Tok) (dates : List Date) (r : List Tok) → SpellsDates ts dates r → BeginsWord r → BeginsWord ts
dates_word ts [] r g n = subst BeginsWord (sym g) n
dates_word ts (d ∷ dates) r g n = subst BeginsWord (sym g.4) tt

-- ---- the whole

spec_of : Option (List (Signed (Item (List ℕ)))) → Option ℕ → Option ℕ → GivenTags → Signed CmndItem → CmndSpec
spec_of runas not_before not_after tags cmnd = record { runas = runas; not_before = not_before; not_after = not_after; tags = tags; cmnd = cmnd }

same_spec : (s t : CmndSpec) → s.runas ≡ t.runas → s.not_before ≡ t.not_before → s.not_after ≡ t.not_after → s.tags ≡ t.tags → s.cmnd ≡ t.cmnd → s ≡ t
unfolding spec_of
same_spec s t a b c d e =
    let same : spec_of s.runas s.not_before s.not_after s.tags s.cmnd ≡ spec_of t.runas t.not_before t.not_after t.tags t.cmnd =
    ap (λ x. spec_of x s.not_before s.not_after s.tags s.cmnd) a
    ∙ ap (λ x. spec_of t.runas x s.not_after s.tags s.cmnd) b ∙ ap (λ x. spec_of t.runas t.not_before x s.tags s.cmnd) c
    ∙ ap (λ x. spec_of t.runas t.not_before t.not_after x s.cmnd) d ∙ ap (λ x. spec_of t.runas t.not_before t.not_after t.tags x) e in
    same

pub spec_one : IsOne SpellsCmndSpec EndsCmnd
spec_one ts s t r q g h n k =
    let word_g = cmnd_word g.after_tags s.cmnd r g.cmnd in
    let word_h = cmnd_word h.after_tags t.cmnd q h.cmnd in
    let tags_g = tags_word g.after_dates g.tags g.after_tags g.tagged word_g in
    let tags_h = tags_word h.after_dates h.tags h.after_tags h.tagged word_h in
    let runas = runas_one ts s.runas t.runas g.after_runas h.after_runas g.runas h.runas
    (dates_word g.after_runas g.dates g.after_dates g.dated tags_g) (dates_word h.after_runas h.dates h.after_dates h.dated tags_h) in
    let dates = dates_one h.after_runas g.dates h.dates g.after_dates h.after_dates
    (subst (λ (x : List Tok). SpellsDates x g.dates g.after_dates) runas.1 g.dated) h.dated
    (tags_no_date g.after_dates g.tags g.after_tags g.tagged (cmnd_no_date g.after_tags s.cmnd r g.cmnd n))
    (tags_no_date h.after_dates h.tags h.after_tags h.tagged (cmnd_no_date h.after_tags t.cmnd q h.cmnd k)) in
    let tags =
    tags_one h.after_dates g.tags h.tags g.after_tags h.after_tags (subst (λ (x : List Tok). SpellsTags x g.tags g.after_tags) dates.1 g.tagged) h.tagged
    (cmnd_no_tag g.after_tags s.cmnd r g.cmnd) (cmnd_no_tag h.after_tags t.cmnd q h.cmnd) in
    let cmnd = spelled_cmnd_one h.after_tags s.cmnd t.cmnd r q (subst (λ (x : List Tok). SpellsCmnd x s.cmnd r) tags.1 g.cmnd) h.cmnd n k in
    let bounds = bounds_one None None h.dates s.not_before s.not_after t.not_before t.not_after
    (subst (λ (x : List Date). Bounds None None x s.not_before s.not_after) dates.0 g.bounds) h.bounds in
    (same_spec s t runas.0 bounds.0 bounds.1 (g.given ∙ ap given_by tags.0 ∙ sym h.given) cmnd.0, cmnd.1)

-- What stands behind the targets, the dates and the tags of a command.
use Rattle.std.proofs.Common.{◌≡◌, ℕ, false, List, [], ◌∷◌, ◌++◌, refl, sym, ap, subst, ◌∙◌, Option, arith}
use Rattle.sudo_words.specs.Bytes.{equals, comma, colon, opening}
use Rattle.sudo_policy.specs.declared.entry.Signed.{Signed}
use Rattle.sudo_policy.specs.declared.entry.CmndItem.{CmndItem}
use Rattle.sudo_policy.specs.declared.entry.Item.{Item}
use Rattle.sudo_policy.specs.declared.tags.Tag.{Tag}
use Rattle.sudo_policy.specs.declared.tags.GivenTags.{GivenTags}
use Rattle.sudo_policy.specs.declared.tree.CmndSpec.{CmndSpec}
use Rattle.sudo_policy.specs.Lex.{Tok, word, mark}
use Rattle.sudo_policy.specs.Grammar.{Date, SpellsCmnd, SpellsDates, SpellsTags, head_of, args_of}
use Rattle.sudo_policy.specs.Tags.{tag_word}
use Rattle.sudo_syntax.specs.private.Fronts.{EndsBy, NoMark, NoTag, NoDate}
use Rattle.sudo_syntax.proofs.ListLemmas.{no_mark}
use Rattle.sudo_syntax.proofs.CmndLemmas.{cmnd_no_tag, args_no_equals}

-- a command is not a tag
pub cmnd_closes_tags : (ts : List Tok) (s : Signed CmndItem) (rest : List Tok) → SpellsCmnd ts s rest → NoTag ts
cmnd_closes_tags ts s rest h = λ a b tag next e.
    let two = sym h.toks ∙ e in
    let head : head_of s.item ≡ tag_word tag = cc in
    cmnd_no_tag s.item tag h.item head

-- nor a date
cmnd_no_date : (ts : List Tok) (s : Signed CmndItem) (rest : List Tok) → EndsBy comma rest → SpellsCmnd ts s rest → NoDate ts
cmnd_no_date ts s rest f h = λ a name time next e.
    let two = sym h.toks ∙ e in
    let behind : args_of s.item ++ rest ≡ mark false equals ∷ word false 0 time ∷ next = cc in
    no_mark equals (args_of s.item ++ rest) (args_no_equals s.item rest f) false (word false 0 time ∷ next) behind

-- the byte of the mark behind a first token
abbrev second_byte : List Tok → ℕ
second_byte [] = 0
second_byte (t ∷ []) = 0
second_byte (t ∷ word a n w ∷ ts) = 0
second_byte (t ∷ mark a b ∷ ts) = b

colon_no_equals : ◌≡◌ {A = ℕ} colon equals → ⊥
colon_no_equals e = absurd (omega arith)

pub tags_close_dates : (ts : List Tok) (tags : List Tag) (behind : List Tok) (s : Signed CmndItem) (rest : List Tok)
    → EndsBy comma rest → SpellsTags ts tags behind → SpellsCmnd behind s rest → NoDate ts
tags_close_dates ts [] behind s rest f t h = subst NoDate (sym t) (cmnd_no_date behind s rest f h)
tags_close_dates ts (tag ∷ tags) behind s rest f t h = λ a name time next e. colon_no_equals (ap second_byte (sym t.3 ∙ e))

tags_begin_word : (ts : List Tok) (tags : List Tag) (behind : List Tok) (s : Signed CmndItem) (rest : List Tok)
    → SpellsTags ts tags behind → SpellsCmnd behind s rest → NoMark opening ts
tags_begin_word ts [] behind s rest t h = subst (NoMark opening) (sym (t ∙ h.toks)) tt
tags_begin_word ts (tag ∷ tags) behind s rest t h = subst (NoMark opening) (sym t.3) tt

pub dates_close_runas : (ts : List Tok) (dates : List Date) (mid : List Tok) (tags : List Tag) (behind : List Tok) (s : Signed CmndItem) (rest : List Tok)
    → SpellsDates ts dates mid → SpellsTags mid tags behind → SpellsCmnd behind s rest → NoMark opening ts
dates_close_runas ts [] mid tags behind s rest d t h = subst (NoMark opening) (sym d) (tags_begin_word mid tags behind s rest t h)
dates_close_runas ts (date ∷ dates) mid tags behind s rest d t h = subst (NoMark opening) (sym d.4) tt

pub same_spec : (v : CmndSpec) (runas : Option (List (Signed (Item (List ℕ))))) (before after : Option ℕ) (tags : GivenTags) (cmnd : Signed CmndItem)
    → runas ≡ v.runas → before ≡ v.not_before → after ≡ v.not_after → tags ≡ v.tags → cmnd ≡ v.cmnd
    → record { runas = runas; not_before = before; not_after = after; tags = tags; cmnd = cmnd } ≡ v
same_spec v runas before after tags cmnd a b c d e = rw (a, b, c, d, e) refl

-- Tags at the front of tokens are read in one way.
use Rattle.std.proofs.Common.{◌≡◌, Bool, List, [], ◌∷◌, sym, ap, subst, ◌∙◌}
use Rattle.sudo_words.specs.Bytes.{colon}
use Rattle.sudo_policy.specs.declared.tags.Tag.{Tag}
use Rattle.sudo_policy.specs.declared.tags.GivenTags.{GivenTags}
use Rattle.sudo_policy.specs.Lex.{Tok, word, mark}
use Rattle.sudo_policy.specs.Grammar.{SpellsTags}
use Rattle.sudo_policy.specs.Tags.{tag_word, with_tag, given_after}
use Rattle.sudo_policy.proofs.SpecTexts.{tag_one}
use Rattle.sudo_syntax.specs.private.Fronts.{NoTag}
use Rattle.sudo_syntax.proofs.Leads.{Leads}

abbrev pub Ends : GivenTags → List Tok → Type 0
Ends v r = NoTag r

-- behind tags that gave this
abbrev pub Left : GivenTags → List Tok → GivenTags → List Tok → Type 0
Left said ts v r = (tags : List Tag) × SpellsTags ts tags r × (v ≡ given_after said tags)

next_is : (said : GivenTags) (ts : List Tok) (a b : Bool) (tag : Tag) (next : List Tok) → ts ≡ word a 0 (tag_word tag) ∷ mark b colon ∷ next
    → (v : GivenTags) (r : List Tok) → NoTag r → (tags : List Tag) → SpellsTags ts tags r → v ≡ given_after said tags → Left (with_tag said tag) next v r
next_is said ts a b tag next e v r f [] h o = absurd (f a b tag next (sym h ∙ e))
next_is said ts a b tag next e v r f (t ∷ tags) h o =
    let two = sym e ∙ h.3 in
    let words : tag_word t ≡ tag_word tag = cc in
    let next_same : h.2 ≡ next = cc in (
      tags,
      subst (λ (x : List Tok). SpellsTags x tags r) next_same h.4,
      o ∙ ap (λ (x : Tag). given_after (with_tag said x) tags) (tag_one t tag words),
    )

pub tag_read : (said : GivenTags) (ts : List Tok) (a b : Bool) (tag : Tag) (next : List Tok) → ts ≡ word a 0 (tag_word tag) ∷ mark b colon ∷ next
    → Leads Ends (Left said ts) (Left (with_tag said tag) next)
tag_read said ts a b tag next e = record {
  back = λ v r h. (tag ∷ h.0, (a, b, next, e, h.1), h.2);
  on = λ v r f h. next_is said ts a b tag next e v r f h.0 h.1 h.2;
}

no_tags : (said : GivenTags) (ts : List Tok) → NoTag ts → (v : GivenTags) (r : List Tok) (tags : List Tag)
    → SpellsTags ts tags r → v ≡ given_after said tags → (said ≡ v) × (ts ≡ r)
no_tags said ts n v r [] h o = (sym o, h)
no_tags said ts n v r (t ∷ tags) h o = absurd (n h.0 h.1 t h.2 h.3)

pub tags_end : (said : GivenTags) (ts : List Tok) → NoTag ts → (v : GivenTags) (r : List Tok) → Left said ts v r → (said ≡ v) × (ts ≡ r)
tags_end said ts n v r h = no_tags said ts n v r h.0 h.1 h.2

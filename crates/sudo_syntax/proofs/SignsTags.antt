-- Two more signs change nothing, and the last tag counts.
use Rattle.std.proofs.Common.{◌≡◌, ℕ, ◌+◌, ◌%◌, ◌==◌, Bool, List, [], ◌∷◌, ◌++◌, refl, sym, ap, subst, ◌∙◌, arith}
use Rattle.sudo_policy.specs.declared.entry.Signed.{Signed}
use Rattle.sudo_policy.specs.declared.entry.Item.{Item}
use Rattle.sudo_policy.specs.declared.entry.CmndItem.{CmndItem}
use Rattle.sudo_policy.specs.declared.tags.Tag.{Tag}
use Rattle.sudo_policy.specs.declared.tags.Tag.TheVariants.{Passwd, NoPasswd}
use Rattle.sudo_policy.specs.declared.tags.GivenTags.{GivenTags}
use Rattle.sudo_policy.specs.declared.tree.CmndSpec.{CmndSpec}
use Rattle.sudo_policy.specs.Lex.{Tok, word}
use Rattle.sudo_policy.specs.Tags.{given_after, given_by, none_given, with_tag}
use Rattle.sudo_syntax.specs.Inherited.{Gives}
use Rattle.sudo_policy.specs.Printing.{item_text}
use Rattle.sudo_policy.specs.Grammar.{SpellsItem, SpellsCmnd, SpellsCmndSpec, is_odd, head_of, args_of}

odd_more : (n : ℕ) → is_odd (n + 2) ≡ is_odd n
odd_more n = let same : (n + 2) % 2 ≡ n % 2 = omega arith in ap (λ (k : ℕ). k == 1) same

-- the sign of one count is that of the other
item_by : (form : List ℕ → Bool) (a : Bool) (n m : ℕ) (w : List ℕ) (ts : List Tok) (s : Signed (Item (List ℕ))) (rest : List Tok)
    → is_odd n ≡ is_odd m → SpellsItem form (word a n w ∷ ts) s rest → SpellsItem form (word a m w ∷ ts) s rest
item_by form a n m w ts s rest same g =
    let toks = g.toks in
    let count : g.bangs ≡ n = cc in
    let text : w ≡ item_text s.item = cc in
    let behind : ts ≡ rest = cc in
    record {
      spaced = a;
      bangs = m;
      toks = ap (λ (x : List ℕ). word a m x ∷ ts) text ∙ ap (λ (x : List Tok). word a m (item_text s.item) ∷ x) behind;
      item = g.item;
      sign = g.sign ∙ ap is_odd count ∙ same;
    }

cmnd_by : (a : Bool) (n m : ℕ) (w : List ℕ) (ts : List Tok) (s : Signed CmndItem) (rest : List Tok)
    → is_odd n ≡ is_odd m → SpellsCmnd (word a n w ∷ ts) s rest → SpellsCmnd (word a m w ∷ ts) s rest
cmnd_by a n m w ts s rest same g =
    let toks = g.toks in
    let count : g.bangs ≡ n = cc in
    let text : w ≡ head_of s.item = cc in
    let behind : ts ≡ args_of s.item ++ rest = cc in
    record {
      spaced = a;
      bangs = m;
      toks = ap (λ (x : List ℕ). word a m x ∷ ts) text ∙ ap (λ (x : List Tok). word a m (head_of s.item) ∷ x) behind;
      item = g.item;
      sign = g.sign ∙ ap is_odd count ∙ same;
    }

pub items_signs : (form : List ℕ → Bool) (a : Bool) (n : ℕ) (w : List ℕ) (ts : List Tok) (s : Signed (Item (List ℕ))) (rest : List Tok)
    → (SpellsItem form (word a (n + 2) w ∷ ts) s rest → SpellsItem form (word a n w ∷ ts) s rest)
    × (SpellsItem form (word a n w ∷ ts) s rest → SpellsItem form (word a (n + 2) w ∷ ts) s rest)
items_signs form a n w ts s rest = (item_by form a (n + 2) n w ts s rest (odd_more n), item_by form a n (n + 2) w ts s rest (sym (odd_more n)))

pub cmnds_signs : (a : Bool) (n : ℕ) (w : List ℕ) (ts : List Tok) (s : Signed CmndItem) (rest : List Tok)
    → (SpellsCmnd (word a (n + 2) w ∷ ts) s rest → SpellsCmnd (word a n w ∷ ts) s rest)
    × (SpellsCmnd (word a n w ∷ ts) s rest → SpellsCmnd (word a (n + 2) w ∷ ts) s rest)
cmnds_signs a n w ts s rest = (cmnd_by a (n + 2) n w ts s rest (odd_more n), cmnd_by a n (n + 2) w ts s rest (sym (odd_more n)))

last_is : (given : GivenTags) (tags : List Tag) (tag : Tag) → given_after given (tags ++ tag ∷ []) ≡ with_tag (given_after given tags) tag
last_is given [] tag = refl
last_is given (t ∷ tags) tag = last_is (with_tag given t) tags tag

gives : (given : GivenTags) (tag : Tag) → Gives (with_tag given tag) tag
gives given Passwd = refl
gives given NoPasswd = refl

pub last_counts : (ts : List Tok) (s : CmndSpec) (rest : List Tok) (g : SpellsCmndSpec ts s rest) (before : List Tag) (tag : Tag)
    → g.tags ≡ before ++ tag ∷ [] → Gives s.tags tag
last_counts ts s rest g before tag are =
    subst (λ (given : GivenTags). Gives given tag) (sym (g.given ∙ ap given_by are ∙ last_is none_given before tag)) (gives (given_by before) tag)

-- A list with marks between is read in one way.
use Rattle.std.proofs.Common.{◌≡◌, inl, inr, ℕ, Bool, true, false, List, [], ◌∷◌, ◌++◌, length, refl, sym, ap, ◌∙◌, subst, append_assoc, arith}
use Rattle.std.specs.Prelude.{◌==◌}
use Rattle.std.proofs.lemmas.Bool.{false≢true, eqb-true}
use Rattle.std.proofs.lemmas.List.{append-nil}
use Rattle.sudo_words.specs.Bytes.{equals, comma, colon}
use Rattle.sudo_words.specs.Word.{is_alias_name}
use Rattle.sudo_policy.specs.declared.entry.Signed.{Signed}
use Rattle.sudo_policy.specs.declared.entry.Item.{Item}
use Rattle.sudo_syntax.specs.declared.token.Token.{Token}
use Rattle.sudo_policy.specs.declared.tree.Definition.{Definition}
use Rattle.sudo_policy.specs.declared.tree.Part.{Part}
use Rattle.sudo_policy.specs.Lex.{Tok, word, mark}
use Rattle.sudo_syntax.specs.private.Tokens.{toks}
use Rattle.sudo_syntax.specs.private.Fronts.{NoMark, EndsBy, Defines}
use Rattle.sudo_policy.specs.Grammar.{More, Listed, Hosts, SpellsDef, SpellsPart, begins_spaced}
use Rattle.sudo_syntax.proofs.Leads.{Leads, leads_on}

-- tokens with `NoMark m` do not begin with the mark `m`
pub no_mark : (m : ℕ) (ts : List Tok) → NoMark m ts → (a : Bool) (next : List Tok) → ts ≡ mark a m ∷ next → ⊥
no_mark m [] n a next e = absurd cc
no_mark m (word b k text ∷ ts) n a next e = absurd cc
no_mark m (mark b byte ∷ ts) n a next e = let same : byte ≡ m = cc in n same

module _ {X : Type 0} (m : ℕ) (Is : List Tok → X → List Tok → Type 0) (F : List Tok → Type 0) where
  -- the items before are read, and these are left
  abbrev pub Left : List X → List Tok → List X → List Tok → Type 0
  Left out ts xs r = (more : List X) × (xs ≡ out ++ more) × More m Is ts more r

  -- the one at the front is read in one way
  abbrev pub IsOnly : List Tok → X → List Tok → Type 0
  IsOnly ts x rest = (y : X) (r : List Tok) → F r → Is ts y r → (x ≡ y) × (rest ≡ r)

  -- what may stand behind a list
  abbrev pub Behind : List X → List Tok → Type 0
  Behind xs r = F r × NoMark m r

module _ {X : Type 0} (m : ℕ) (Is : List Tok → X → List Tok → Type 0) (F : List Tok → Type 0) (closes : (a : Bool) (r : List Tok) → F (mark a m ∷ r)) where
  follows_more : (mid : List Tok) (xs : List X) (r : List Tok) → F r → More m Is mid xs r → F mid
  follows_more mid [] r f h = subst F (sym h) f
  follows_more mid (x ∷ xs) r f h = subst F (sym h.3) (closes h.0 h.1)

  pub first_of_list : (ts : List Tok) (xs : List X) (r : List Tok) → F r → Listed m Is ts xs r → (y : X) × (mid : List Tok) × F mid × Is ts y mid
  first_of_list ts [] r f h = absurd h
  first_of_list ts (x ∷ xs) r f h = (x, h.0, follows_more h.0 xs r f h.2, h.1)

  first_left : (ts : List Tok) (x : X) (rest : List Tok) → IsOnly m Is F ts x rest
      → (xs : List X) (r : List Tok) → F r → Listed m Is ts xs r → Left m Is F (x ∷ []) rest xs r
  first_left ts x rest o [] r f h = absurd h
  first_left ts x rest o (y ∷ ys) r f h =
      let p = o y h.0 (follows_more h.0 ys r f h.2) h.1 in
      (ys, ap (λ z. z ∷ ys) (sym p.0), subst (λ (t : List Tok). More m Is t ys r) (sym p.1) h.2)

  whole_of : (ts : List Tok) (x : X) (rest : List Tok) → Is ts x rest → (xs : List X) (r : List Tok) → Left m Is F (x ∷ []) rest xs r → Listed m Is ts xs r
  whole_of ts x rest is xs r h = rw h.1 (rest, is, h.2)

  pub first_read : (ts : List Tok) (x : X) (rest : List Tok) → Is ts x rest
      → IsOnly m Is F ts x rest → Leads (Behind m Is F) (Listed m Is ts) (Left m Is F (x ∷ []) rest)
  first_read ts x rest is o = record {
    back = whole_of ts x rest is;
    on = λ xs r b h. first_left ts x rest o xs r b.0 h;
  }

  -- behind a mark stands one more
  pub record Next (out : List X) (others : List Tok) (xs : List X) (r : List Tok) : Type 0 where
    pub item : X
    pub mid : List Tok
    pub more : List X
    pub follows : F mid
    pub is : Is others item mid
    pub list : xs ≡ out ++ item ∷ more
    pub left : More m Is mid more r

  next_is : (out : List X) (ts : List Tok) (a : Bool) (others : List Tok) → ts ≡ mark a m ∷ others → (xs : List X) (r : List Tok)
      → Behind m Is F xs r → (more : List X) → xs ≡ out ++ more → More m Is ts more r → Next out others xs r
  next_is out ts a others e xs r b [] x t = absurd (no_mark m r b.1 a others (sym t ∙ e))
  next_is out ts a others e xs r b (y ∷ ys) x t =
      let two = sym e ∙ t.3 in
      let same : t.1 ≡ others = cc in
      record {
        item = y;
        mid = t.2;
        more = ys;
        follows = follows_more t.2 ys r b.0 t.5;
        is = subst (λ (o : List Tok). Is o y t.2) same t.4;
        list = x;
        left = t.5;
      }

  pub next_of_list : (out : List X) (ts : List Tok) (a : Bool) (others : List Tok) → ts ≡ mark a m ∷ others
      → (xs : List X) (r : List Tok) → Behind m Is F xs r → Left m Is F out ts xs r → Next out others xs r
  next_of_list out ts a others e xs r b h = next_is out ts a others e xs r b h.0 h.1 h.2

  next_back : (out : List X) (ts : List Tok) (a : Bool) (others : List Tok) → ts ≡ mark a m ∷ others → (x : X) (after : List Tok)
      → Is others x after → (xs : List X) (r : List Tok) → Left m Is F (out ++ x ∷ []) after xs r → Left m Is F out ts xs r
  next_back out ts a others e x after is xs r h = (x ∷ h.0, h.1 ∙ append_assoc out (x ∷ []) h.0, (a, others, after, e, is, h.2))

  next_on : (out : List X) (ts : List Tok) (a : Bool) (others : List Tok) → ts ≡ mark a m ∷ others → (x : X) (after : List Tok)
      → IsOnly m Is F others x after → (xs : List X) (r : List Tok) → Behind m Is F xs r → Left m Is F out ts xs r → Left m Is F (out ++ x ∷ []) after xs r
  next_on out ts a others e x after o xs r b h =
      let n = next_of_list out ts a others e xs r b h in
      let p = o n.item n.mid n.follows n.is in (
        n.more,
        n.list ∙ ap (λ z. out ++ z ∷ n.more) (sym p.0) ∙ sym (append_assoc out (x ∷ []) n.more),
        subst (λ (t : List Tok). More m Is t n.more r) (sym p.1) n.left,
      )

  pub next_read : (W : List X → List Tok → Type 0) (out : List X) (ts : List Tok) (a : Bool) (others : List Tok) (x : X) (after : List Tok)
      → Leads (Behind m Is F) W (Left m Is F out ts) → ts ≡ mark a m ∷ others → Is others x after
      → IsOnly m Is F others x after → Leads (Behind m Is F) W (Left m Is F (out ++ x ∷ []) after)
  next_read W out ts a others x after l e is o =
      leads_on (Behind m Is F) W (Left m Is F out ts) (Left m Is F (out ++ x ∷ []) after) l (record {
        back = λ xs r h. next_back out ts a others e x after is xs r h;
        on = λ xs r b h. next_on out ts a others e x after o xs r b h;
      })

-- where no mark follows, the list is whole
pub list_is : {X : Type 0} (m : ℕ) (Is : List Tok → X → List Tok → Type 0) (out : List X) (ts : List Tok) → NoMark m ts
    → (xs : List X) (r : List Tok) → (more : List X) → xs ≡ out ++ more → More m Is ts more r → (out ≡ xs) × (ts ≡ r)
list_is m Is out ts n xs r [] x t = (sym (x ∙ append-nil out), t)
list_is m Is out ts n xs r (y ∷ ys) x t = absurd (no_mark m ts n t.0 t.1 t.3)

pub list_ends : {X : Type 0} (m : ℕ) (Is : List Tok → X → List Tok → Type 0) (F : List Tok → Type 0) (W : List X
    → List Tok → Type 0) (out : List X) (ts : List Tok) → Leads (Behind m Is F) W (Left m Is F out ts) → W out ts
list_ends m Is F W out ts l = l.back out ts ([], sym (append-nil out), refl)

-- ---- tokens that are all read

pub none_left : (ts : List Token) → (length ts == 0) ≡ true → toks ts ≡ []
none_left [] e = refl
none_left (t ∷ ts) e = let none : length (t ∷ ts) ≡ 0 = eqb-true (length (t ∷ ts)) 0 e in absurd (omega arith)

pub some_left : (ts : List Token) → (length ts == 0) ≡ false → toks ts ≡ [] → ⊥
some_left [] e h = false≢true (sym e)
some_left (t ∷ ts) e h = absurd cc

-- ---- definitions behind the word of their kind

abbrev behind_first : List Tok → List Tok
behind_first [] = []
behind_first (t ∷ ts) = ts

pub defined_behind : {X : Type 0} {kind : List ℕ} (Is : List Tok → X → List Tok → Type 0) {ts : List Tok} {a : Bool} (next : List Tok)
    → ts ≡ word a 0 kind ∷ next → (defs : List X) → Defines kind Is ts defs → (begins_spaced next ≡ true) × Listed colon Is next defs []
defined_behind Is next e defs (b, behind, is, spaced, list) =
    let same : behind ≡ next = ap behind_first (sym is ∙ e) in
    (subst (λ (r : List Tok). begins_spaced r ≡ true) same spaced, subst (λ (r : List Tok). Listed colon Is r defs []) same list)

-- ---- parts of a user specification

hosts_begin : (ts : List Tok) (hosts : List (Signed (Item (List ℕ)))) (rest : List Tok) → Hosts ts hosts rest → NoMark comma ts
hosts_begin ts [] rest h = absurd h
hosts_begin ts (s ∷ hosts) rest h = subst (NoMark comma) (sym h.1.toks) tt

-- users are followed by no `,`: a part begins with a word
pub no_comma : (next : List Tok) (parts : List Part) → Listed colon SpellsPart next parts [] → NoMark comma next
no_comma next [] h = absurd h
no_comma next (p ∷ parts) h = hosts_begin next p.hosts _ h.1.hosts

-- ---- a definition behind its name

-- what may stand behind a definition may stand behind its list
pub ends_list : (rest : List Tok) → EndsBy colon rest → EndsBy comma rest × NoMark comma rest
ends_list [] h = (tt, tt)
ends_list (word a n text ∷ ts) h = absurd h
ends_list (mark a byte ∷ ts) (inl is) = (inr is, λ h. absurd (omega (arith, is, h)))
ends_list (mark a byte ∷ ts) (inr is) = (inr is, λ h. absurd (omega (arith, is, h)))

pub behind_name : {X : Type 0} (Is : List Tok → Signed X → List Tok
    → Type 0) (ts : List Tok) (d : Definition X) (rest : List Tok) (a b : Bool) (name : List ℕ) (next : List Tok)
    → ts ≡ word a 0 name ∷ mark b equals ∷ next → SpellsDef Is ts d rest → (name ≡ d.name) × (is_alias_name name ≡ true) × Listed comma Is next d.list rest
behind_name Is ts d rest a b name next e s =
    let same : name ≡ d.name = cc in
    let others : s.next ≡ next = cc in
    (same, subst (λ (n : List ℕ). is_alias_name n ≡ true) (sym same) s.name, subst (λ (ns : List Tok). Listed comma Is ns d.list rest) others s.list)

pub same_def : {X : Type 0} (d : Definition X) (name : List ℕ) (list : List (Signed X))
    → name ≡ d.name → list ≡ d.list → (record { name = name; list = list }) ≡ d
same_def d name list name_is list_is = rw (name_is, list_is) refl

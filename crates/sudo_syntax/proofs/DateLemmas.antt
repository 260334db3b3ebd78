-- Dates at the front of tokens are read in one way.
use Rattle.std.proofs.Common.{◌≡◌, ℕ, Bool, true, false, List, [], ◌∷◌, Option, Some, refl, sym, ap, subst, ◌∙◌, inl, inr}
use Rattle.std.specs.Prelude.{codes}
use Rattle.sudo_words.specs.Bytes.{equals}
use Rattle.sudo_words.specs.Moment as moments
use Rattle.sudo_policy.specs.Lex.{Tok, word, mark}
use Rattle.sudo_policy.specs.Grammar.{Date, GivesBound, Bounds, SpellsDates, begins_spaced}
use Rattle.sudo_syntax.specs.private.Fronts.{AddsBound, Dated, NoDate}
use Rattle.sudo_syntax.proofs.Leads.{Leads}

-- the two options have different words
other_word : codes "NOTAFTER" ≡ codes "NOTBEFORE" → ⊥
other_word e = absurd cc

-- an option that gives the first bound
pub first_bound : (before after : Option ℕ) (name time : List ℕ) (t : ℕ) → name ≡ codes "NOTBEFORE" → ((m : ℕ) → moments.SpellsMoment time m → m ≡ t)
    → (new_before new_after : Option ℕ) → AddsBound before after name time new_before new_after → (Some t ≡ new_before) × (after ≡ new_after)
first_bound before after name time t e one new_before new_after (m, spelled, inl g) = (sym (g.2 ∙ ap (λ (n : ℕ). Some n) (one m spelled)), sym g.3)
first_bound before after name time t e one new_before new_after (m, spelled, inr g) = absurd (other_word (sym g.0 ∙ e))

-- and the one that gives the last
pub last_bound : (before after : Option ℕ) (name time : List ℕ) (t : ℕ) → name ≡ codes "NOTAFTER" → ((m : ℕ) → moments.SpellsMoment time m → m ≡ t)
    → (new_before new_after : Option ℕ) → AddsBound before after name time new_before new_after → (before ≡ new_before) × (Some t ≡ new_after)
last_bound before after name time t e one new_before new_after (m, spelled, inl g) = absurd (other_word (sym e ∙ g.0))
last_bound before after name time t e one new_before new_after (m, spelled, inr g) = (sym g.3, sym (g.2 ∙ ap (λ (n : ℕ). Some n) (one m spelled)))

-- no date stands behind these bounds and before what is left
abbrev pub Ends : Option ℕ × Option ℕ → List Tok → Type 0
Ends v r = NoDate r

abbrev pub Left : Option ℕ → Option ℕ → List Tok → Option ℕ × Option ℕ → List Tok → Type 0
Left before after ts v r = Dated before after ts v.0 v.1 r

named : List ℕ → ℕ → Date
named name moment = record { word = name; moment = moment }

-- the date at the front, and the bounds with it
pub record Next (before after : Option ℕ) (name time : List ℕ) (next : List Tok) (v : Option ℕ × Option ℕ) (r : List Tok) : Type 0 where
  pub new_before : Option ℕ
  pub new_after : Option ℕ
  pub adds : AddsBound before after name time new_before new_after
  pub gap : begins_spaced next ≡ true
  pub left : Left new_before new_after next v r

next_is : (before after : Option ℕ) (ts : List Tok) (a : Bool) (name time : List ℕ) (next : List Tok)
    → ts ≡ word a 0 name ∷ mark false equals ∷ word false 0 time ∷ next → (v : Option ℕ × Option ℕ) (r : List Tok) → NoDate r
    → (dates : List Date) → SpellsDates ts dates r → Bounds before after dates v.0 v.1 → Next before after name time next v r
unfolding named
next_is before after ts a name time next e v r f [] h b = absurd (f a name time next (sym h ∙ e))
next_is before after ts a name time next e v r f (date ∷ dates) h b =
    let two = sym e ∙ h.4 in
    let word_is : date.word ≡ name = cc in
    let time_is : h.1 ≡ time = cc in
    let next_same : h.2 ≡ next = cc in
    record {
      new_before = b.0;
      new_after = b.1;
      adds = (
        date.moment,
        subst (λ (w : List ℕ). moments.SpellsMoment w date.moment) time_is h.3,
        subst (λ (w : List ℕ). GivesBound before after (named w date.moment) b.0 b.1) word_is b.2,
      );
      gap = subst (λ (t : List Tok). begins_spaced t ≡ true) next_same h.5;
      left = (dates, subst (λ (t : List Tok). SpellsDates t dates r) next_same h.6, b.3);
    }

pub next_date : (before after : Option ℕ) (ts : List Tok) (a : Bool) (name time : List ℕ) (next : List Tok)
    → ts ≡ word a 0 name ∷ mark false equals ∷ word false 0 time ∷ next
    → (v : Option ℕ × Option ℕ) (r : List Tok) → NoDate r → Left before after ts v r → Next before after name time next v r
next_date before after ts a name time next e v r f h = next_is before after ts a name time next e v r f h.0 h.1 h.2

same_left : (before after new_before new_after : Option ℕ) (ts : List Tok) (v : Option ℕ × Option ℕ) (r : List Tok)
    → before ≡ new_before → after ≡ new_after → Left new_before new_after ts v r → Left before after ts v r
same_left before after new_before new_after ts v r b a h = rw (b, a) h

pub date_read : (before after : Option ℕ) (ts : List Tok) (a : Bool) (name time : List ℕ) (next : List Tok) (new_before new_after : Option ℕ)
    → ts ≡ word a 0 name ∷ mark false equals ∷ word false 0 time ∷ next → begins_spaced next ≡ true → AddsBound before after name time new_before new_after
    → ((x y : Option ℕ) → AddsBound before after name time x y → (new_before ≡ x) × (new_after ≡ y))
    → Leads Ends (Left before after ts) (Left new_before new_after next)
date_read before after ts a name time next new_before new_after e gap adds one = record {
  back = λ v r h. (record { word = name; moment = adds.0 } ∷ h.0, (a, time, next, adds.1, e, gap, h.1), (new_before, new_after, adds.2, h.2));
  on = λ v r f h.
      let n = next_date before after ts a name time next e v r f h in
      let p = one n.new_before n.new_after n.adds in
      same_left new_before new_after n.new_before n.new_after next v r p.0 p.1 n.left;
}

no_dates : (before after : Option ℕ) (ts : List Tok) → NoDate ts → (v : Option ℕ × Option ℕ) (r : List Tok) (dates : List Date)
    → SpellsDates ts dates r → Bounds before after dates v.0 v.1 → (before ≡ v.0) × (after ≡ v.1) × (ts ≡ r)
no_dates before after ts n v r [] h b = (sym b.0, sym b.1, h)
no_dates before after ts n v r (date ∷ dates) h b = absurd (n h.0 date.word h.1 h.2 h.4)

-- where no date stands at the front, the bounds are these
pub dates_end : (before after : Option ℕ) (ts : List Tok) → NoDate ts → (v : Option ℕ × Option ℕ) (r : List Tok)
    → Left before after ts v r → (before ≡ v.0) × (after ≡ v.1) × (ts ≡ r)
dates_end before after ts n v r h = no_dates before after ts n v r h.0 h.1 h.2

pub dates_done : (before after : Option ℕ) (ts : List Tok) → Left before after ts (before, after) ts
dates_done before after ts = ([], refl, (refl, refl))

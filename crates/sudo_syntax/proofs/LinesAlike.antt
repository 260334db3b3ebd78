-- A line with a comment is joined as the line without it, and a line that goes on as the one line in its place.
use Rattle.std.proofs.Common.{◌≡◌, ℕ, Bool, true, false, ◌==◌, List, [], ◌∷◌, ◌++◌, refl, sym, ap, subst, ◌∙◌, inl, inr, append_assoc}
use Rattle.std.proofs.lemmas.Bool.{false≢true, eqb-true, or_cases}
use Rattle.sudo_words.specs.Bytes.{space, tab, backslash, hash}
use Rattle.sudo_policy.specs.Span.{Each}
use Rattle.sudo_policy.specs.private.Cuts.{IsCut}
use Rattle.sudo_policy.specs.Lex.{is_blank}
use Rattle.sudo_policy.specs.Lines.{is_no_hash, last_passes, may_go_on, is_before_comment, IsBody, IsContinued, Joined}
use Rattle.sudo_syntax.specs.Alike.{SpellAlike, DifferIn, MayHaveNote, GoesOnWith}
use Rattle.sudo_policy.proofs.Spans.{one_cut}
use Rattle.sudo_syntax.proofs.CutLemmas.{cut_is}
use Rattle.sudo_policy.proofs.LineTexts.{is_backslash, last_passes_last, backslash_last, last_split, one_front}
use Rattle.sudo_policy.proofs.LineTexts.{each_append, IsNote, cut_of, body_of, body_one, body_or_front, front_one}

-- ---- texts that are joined alike

-- these lines, before others, are joined as those
abbrev JoinAlike : List (List ℕ) → List (List ℕ) → Type 0
JoinAlike these those = (after joined : List (List ℕ)) → Joined (these ++ after) joined → Joined (those ++ after) joined

alike_behind : (these those : List (List ℕ)) → JoinAlike these those → (before after joined : List (List ℕ))
    → Joined (before ++ (these ++ after)) joined → Joined (before ++ (those ++ after)) joined
alike_behind these those alike [] after joined h = alike after joined h
alike_behind these those alike (l ∷ before) after joined (inl (body, more, is, e, rest)) =
    inl (body, more, is, e, alike_behind these those alike before after more rest)
alike_behind these those alike (l ∷ before) after joined (inr (front, body, more, is, e, rest)) =
    inr (front, body, more, is, e, alike_behind these those alike before after (body ∷ more) rest)

pub spell_alike : (text other : List ℕ) (these those : List (List ℕ)) → JoinAlike these those
    → JoinAlike those these → DifferIn text other these those → SpellAlike text other
spell_alike text other these those there back d ok fine es = (
  λ s. record {
    short = fine.0;
    bytes = fine.1;
    joined = s.joined;
    lines =
        subst (λ (ls : List (List ℕ)). Joined ls s.joined) (sym d.other_is)
        (alike_behind these those there d.before d.after s.joined (subst (λ (ls : List (List ℕ)). Joined ls s.joined) d.text_is s.lines));
    entries = s.entries;
    policy = s.policy;
  },
  λ s. record {
    short = ok.0;
    bytes = ok.1;
    joined = s.joined;
    lines =
        subst (λ (ls : List (List ℕ)). Joined ls s.joined) (sym d.text_is)
        (alike_behind those these back d.before d.after s.joined (subst (λ (ls : List (List ℕ)). Joined ls s.joined) d.other_is s.lines));
    entries = s.entries;
    policy = s.policy;
  },
)

-- ---- comments

blank_no_backslash : (b : ℕ) → is_blank b ≡ true → is_backslash b ≡ false
blank_no_backslash b h = elim (or_cases (b == space) (b == tab) h) [
  | inl e ↦ ap is_backslash (eqb-true b space e)
  | inr e ↦ ap is_backslash (eqb-true b tab e)
]

before_no_backslash : (line : List ℕ) → is_before_comment line ≡ true → last_passes is_backslash line ≡ false
before_no_backslash [] h = refl
before_no_backslash (b ∷ bs) h = blank_no_backslash _ h

noted_body : (line note : List ℕ) → MayHaveNote line note → IsBody (line ++ hash ∷ note) line
noted_body line note m = inr (note, record { whole = refl; each = m.each; before = m.before; allowed = m.comment })

bare_body : (line note : List ℕ) → MayHaveNote line note → IsBody line line
bare_body line note m = inl (record { each = m.each; ends = backslash_last line ∙ before_no_backslash line m.before }, refl)

same_body : (a b body : List ℕ) → IsBody a body → IsBody b body → JoinAlike (a ∷ []) (b ∷ [])
same_body a b body of_a of_b after joined (inl (other, more, is, e, rest)) = inl (other, more, subst (IsBody b) (body_one a body other of_a is) of_b, e, rest)
same_body a b body of_a of_b after joined (inr (front, other, more, is, e, rest)) = absurd (body_or_front a body front of_a is)

pub comments : (text other line note : List ℕ) → MayHaveNote line note → DifferIn text other ((line ++ hash ∷ note) ∷ []) (line ∷ []) → SpellAlike text other
comments text other line note m d =
    let a = noted_body line note m in
    let b = bare_body line note m in
    spell_alike text other ((line ++ hash ∷ note) ∷ []) (line ∷ []) (same_body (line ++ hash ∷ note) line line a b)
    (same_body line (line ++ hash ∷ note) line b a) d

-- ---- what a line ends with, where some bytes stand before it

ends_behind : (p : ℕ → Bool) (xs : List ℕ) (b : ℕ) (bs : List ℕ) → last_passes p (xs ++ b ∷ bs) ≡ last_passes p (b ∷ bs)
ends_behind p xs b bs =
    let split = last_split (λ x. true) (b ∷ bs) refl in
    ap (λ (w : List ℕ). last_passes p (xs ++ w)) split.2 ∙ ap (last_passes p) (sym (append_assoc xs split.0 (split.1 ∷ [])))
    ∙ last_passes_last p (xs ++ split.0) split.1
    ∙ sym (last_passes_last p split.0 split.1) ∙ ap (last_passes p) (sym split.2)

ends_behind_blank : (p : ℕ → Bool) (front w : List ℕ) → p space ≡ false → last_passes p (front ++ space ∷ w) ≡ last_passes p w
ends_behind_blank p front [] fails = last_passes_last p front space ∙ fails
ends_behind_blank p front (b ∷ bs) fails = ends_behind p front space (b ∷ bs) ∙ ends_behind p (space ∷ []) b bs

before_is : (front w : List ℕ) → is_before_comment (front ++ space ∷ w) ≡ last_passes is_blank (front ++ space ∷ w)
before_is [] w = refl
before_is (b ∷ front) w = refl

before_behind : (front w : List ℕ) → is_before_comment (front ++ space ∷ w) ≡ is_before_comment w
before_behind front [] = before_is front [] ∙ last_passes_last is_blank front space
before_behind front (b ∷ bs) = before_is front (b ∷ bs) ∙ ends_behind is_blank front space (b ∷ bs) ∙ ends_behind is_blank (space ∷ []) b bs

note_behind : (front body rest : List ℕ) → IsNote body rest → IsNote (front ++ space ∷ body) rest
note_behind front body [] n = ends_behind_blank is_backslash front body refl ∙ n
note_behind front body (h ∷ note) n = (before_behind front body ∙ n.0, n.1)

note_back : (front body rest : List ℕ) → IsNote (front ++ space ∷ body) rest → IsNote body rest
note_back front body [] n = sym (ends_behind_blank is_backslash front body refl) ∙ n
note_back front body (h ∷ note) n = (sym (before_behind front body) ∙ n.0, n.1)

-- ---- the next line, behind a front and a blank

each_behind : (front body : List ℕ) → Each is_no_hash front → Each is_no_hash body → Each is_no_hash (front ++ space ∷ body)
each_behind front body f b = each_append is_no_hash front (space ∷ body) f (refl, b)

cut_behind : (front next body rest : List ℕ) → Each is_no_hash front → IsCut is_no_hash next body rest
    → IsCut is_no_hash (front ++ space ∷ next) (front ++ space ∷ body) rest
cut_behind front next body rest f c = record {
  whole = ap (λ (w : List ℕ). front ++ space ∷ w) c.whole ∙ sym (append_assoc front (space ∷ body) rest);
  each = each_behind front body f c.each;
  stops = c.stops;
}

body_behind : (front next body : List ℕ) → Each is_no_hash front → IsBody next body → IsBody (front ++ space ∷ next) (front ++ space ∷ body)
body_behind front next body f is =
    let cut = cut_of next body is in
    body_of (front ++ space ∷ next) (front ++ space ∷ body) cut.0 (cut_behind front next body cut.0 f cut.1) (note_behind front body cut.0 cut.2)

body_of_cut : (front next own left whole rest : List ℕ) → Each is_no_hash front → IsCut is_no_hash next own left
    → IsCut is_no_hash (front ++ space ∷ next) whole rest → IsNote whole rest → (body : List ℕ) × (whole ≡ front ++ space ∷ body) × IsBody next body
body_of_cut front next own left whole rest f cut c n =
    let both = cut_behind front next own left f cut in
    let same = one_cut is_no_hash whole rest (front ++ space ∷ own) left c.each c.stops both.each both.stops (sym c.whole ∙ both.whole) in (
      own,
      same.0,
      body_of next own left cut (note_back front own left (subst (IsNote (front ++ space ∷ own)) same.1 (subst (λ (b : List ℕ). IsNote b rest) same.0 n))),
    )

body_back : (front next whole : List ℕ) → Each is_no_hash front → IsBody (front ++ space ∷ next) whole
    → (body : List ℕ) × (whole ≡ front ++ space ∷ body) × IsBody next body
body_back front next whole f is =
    let cut = cut_of (front ++ space ∷ next) whole is in
    body_of_cut front next _ _ whole cut.0 f (cut_is is_no_hash next) cut.1 cut.2

goes_behind : (front next part : List ℕ) → Each is_no_hash front → IsContinued next part → IsContinued (front ++ space ∷ next) (front ++ space ∷ part)
goes_behind front next [] f c = absurd (false≢true c.ends)
goes_behind front next (b ∷ bs) f c = record {
  whole = ap (λ (w : List ℕ). front ++ space ∷ w) c.whole ∙ sym (append_assoc front (space ∷ b ∷ bs) (backslash ∷ []));
  each = each_behind front (b ∷ bs) f c.each;
  ends = ends_behind may_go_on front space (b ∷ bs) ∙ ends_behind may_go_on (space ∷ []) b bs ∙ c.ends;
}

each_back : (p : ℕ → Bool) (xs ys : List ℕ) → Each p (xs ++ ys) → Each p ys
each_back p [] ys h = h
each_back p (x ∷ xs) ys h = each_back p xs ys h.1

-- the part of the next line that goes on
part_of : (front next part whole : List ℕ) → next ≡ part ++ backslash ∷ [] → front ++ space ∷ part ≡ whole
    → (next ≡ backslash ∷ [] → ⊥) → IsContinued (front ++ space ∷ next) whole → IsContinued next part
part_of front next [] whole e same some c = absurd (some e)
part_of front next (b ∷ bs) whole e same some c = record {
  whole = e;
  each = (each_back is_no_hash front (space ∷ b ∷ bs) (subst (Each is_no_hash) (sym same) c.each)).1;
  ends =
      sym (ends_behind may_go_on (space ∷ []) b bs) ∙ sym (ends_behind may_go_on front space (b ∷ bs))
      ∙ ap (last_passes may_go_on) same ∙ c.ends;
}

goes_back : (front next whole : List ℕ) → (next ≡ backslash ∷ [] → ⊥) → IsContinued (front ++ space ∷ next) whole
    → (part : List ℕ) × (whole ≡ front ++ space ∷ part) × IsContinued next part
goes_back front next whole some c =
    let last : last_passes is_backslash (front ++ space ∷ next) ≡ true =
    ap (last_passes is_backslash) c.whole ∙ last_passes_last is_backslash whole backslash in
    let split = last_split is_backslash next (sym (ends_behind_blank is_backslash front next refl) ∙ last) in
    let e : next ≡ split.0 ++ backslash ∷ [] = split.2 ∙ ap (λ (x : ℕ). split.0 ++ x ∷ []) (eqb-true split.1 backslash split.3) in
    let same : front ++ space ∷ split.0 ≡ whole =
    one_front (front ++ space ∷ split.0) whole backslash
    (append_assoc front (space ∷ split.0) (backslash ∷ []) ∙ sym (ap (λ (w : List ℕ). front ++ space ∷ w) e) ∙ c.whole) in
    (split.0, sym same, part_of front next split.0 whole e same some c)

-- ---- continuations

abbrev Two : List ℕ → List ℕ → List (List ℕ)
Two front next = (front ++ backslash ∷ []) ∷ next ∷ []

abbrev One : List ℕ → List ℕ → List (List ℕ)
One front next = (front ++ space ∷ next) ∷ []

next_joined : (front next body : List ℕ) (after joined more : List (List ℕ)) → Each is_no_hash front
    → joined ≡ (front ++ space ∷ body) ∷ more → Joined (next ∷ after) (body ∷ more) → Joined (One front next ++ after) joined
next_joined front next body after joined more f e (inl (other, rest, is, same, last)) =
    let bodies : body ≡ other = cc in
    let mores : more ≡ rest = cc in
    inl (
      front ++ space ∷ other,
      rest,
      body_behind front next other f is,
      e ∙ ap (λ (b : List ℕ). (front ++ space ∷ b) ∷ more) bodies ∙ ap (λ (m : List (List ℕ)). (front ++ space ∷ other) ∷ m) mores,
      last,
    )
next_joined front next body after joined more f e (inr (part, other, rest, is, same, last)) =
    let bodies : body ≡ part ++ space ∷ other = cc in
    let mores : more ≡ rest = cc in
    inr (
      front ++ space ∷ part,
      other,
      rest,
      goes_behind front next part f is,
      e ∙ ap (λ (b : List ℕ). (front ++ space ∷ b) ∷ more) bodies ∙ ap (λ (m : List (List ℕ)). (front ++ space ∷ (part ++ space ∷ other)) ∷ m) mores
          ∙ ap (λ (w : List ℕ). w ∷ rest) (sym (append_assoc front (space ∷ part) (space ∷ other))),
      last,
    )

to_one : (front next : List ℕ) → GoesOnWith front next → JoinAlike (Two front next) (One front next)
to_one front next g after joined (inl (body, more, is, e, rest)) = absurd (body_or_front (front ++ backslash ∷ []) body front is g.0)
to_one front next g after joined (inr (other, body, more, is, e, rest)) =
    let same : other ≡ front = front_one (front ++ backslash ∷ []) other front is g.0 in
    next_joined front next body after joined more g.0.each (e ∙ ap (λ (f : List ℕ). (f ++ space ∷ body) ∷ more) same) rest

to_two : (front next : List ℕ) → GoesOnWith front next → JoinAlike (One front next) (Two front next)
to_two front next g after joined (inl (whole, more, is, e, rest)) =
    let back = body_back front next whole g.0.each is in
    inr (front, back.0, more, g.0, e ∙ ap (λ (w : List ℕ). w ∷ more) back.1, inl (back.0, more, back.2, refl, rest))
to_two front next g after joined (inr (whole, body, more, is, e, rest)) =
    let back = goes_back front next whole g.1 is in
    inr (
      front,
      back.0 ++ space ∷ body,
      more,
      g.0,
      e ∙ ap (λ (w : List ℕ). (w ++ space ∷ body) ∷ more) back.1 ∙ ap (λ (w : List ℕ). w ∷ more) (append_assoc front (space ∷ back.0) (space ∷ body)),
      inr (back.0, body, more, back.2, refl, rest),
    )

pub continuations : (text other front next : List ℕ) → GoesOnWith front next
    → DifferIn text other ((front ++ backslash ∷ []) ∷ next ∷ []) ((front ++ space ∷ next) ∷ []) → SpellAlike text other
continuations text other front next g d = spell_alike text other (Two front next) (One front next) (to_one front next g) (to_two front next g) d

-- The lines of a text are read one by one: what is read so far stands before what is left.
use Rattle.std.proofs.Common.{cond, count_by, eqb, ◌⊎◌, ◌≡◌, ℕ, ◌+◌, ◌<◌, ◌≤◌, Bool, true, List, [], ◌∷◌, ◌++◌}
use Rattle.std.proofs.Common.{length, get_or, drop, refl, sym, ap, subst, ◌∙◌, inl, inr, append_assoc, arith}
use Rattle.std.proofs.lemmas.Bool.{false≢true}
use Rattle.std.proofs.lemmas.List.{append-nil, length-append, drop_more}
use Rattle.std.proofs.lemmas.List.Splits.{length-slice_split}
use Rattle.std.proofs.lemmas.List.Sums.{sum_by-append}
use Rattle.sudo_words.specs.Bytes.{space, newline}
use Rattle.sudo_policy.specs.declared.entry.Entry.{Entry}
use Rattle.sudo_policy.specs.private.Cuts.{IsCut}
use Rattle.sudo_policy.specs.Span.{Each}
use Rattle.sudo_policy.specs.Lex.{is_text_byte}
use Rattle.sudo_policy.specs.Lines.{lines_of, IsBody, IsContinued, Joined}
use Rattle.sudo_syntax.specs.private.Pending.{JoinedAfter, SpellsAfter, Leads}
use Rattle.sudo_policy.specs.Policy.{IsPolicy}
use Rattle.sudo_policy.specs.Reading.{HasOtherByte, IsLineOf}
use Rattle.sudo_syntax.specs.private.Pending.{SpellsBy}
use Rattle.sudo_policy.specs.Spelling.{SpellsLine, SpellsLines}
use Rattle.sudo_syntax.proofs.EntryLemmas.{front_is}
use Rattle.sudo_policy.proofs.LineTexts.{body_one, front_one, body_or_front}

-- ---- the first of the lines

-- where there is a line, there is a joined one that begins with the front
behind_first : (front line : List ℕ) (rest joined : List (List ℕ)) → JoinedAfter front (line ∷ rest) joined
    → (body : List ℕ) × (more : List (List ℕ)) × (joined ≡ (front ++ body) ∷ more) × Joined (line ∷ rest) (body ∷ more)
behind_first front line rest joined (inl (none, inl (body, more, is, e, j))) = (body, more, rw none e, inl (body, more, is, refl, j))
behind_first front line rest joined (inl (none, inr (part, body, more, is, e, j))) =
    (part ++ space ∷ body, more, rw none e, inr (part, body, more, is, refl, j))
behind_first front line rest joined (inr (some, body, more, e, j)) = (body, more, e, j)

first_behind : (front line : List ℕ) (rest : List (List ℕ)) (body : List ℕ) (more : List (List ℕ))
    → Joined (line ∷ rest) (body ∷ more) → JoinedAfter front (line ∷ rest) ((front ++ body) ∷ more)
first_behind [] line rest body more j = inl (refl, j)
first_behind (b ∷ front) line rest body more j = inr (omega arith, body, more, refl, j)

-- a line that neither is a body nor goes on is in no text
pub stands_nowhere : (front line : List ℕ) (rest : List (List ℕ)) → ((body : List ℕ) → IsBody line body → ⊥)
    → ((part : List ℕ) → IsContinued line part → ⊥) → (es : List Entry) → SpellsAfter front (line ∷ rest) es → ⊥
stands_nowhere front line rest no_body no_part es (joined, j, s) =
    elim (behind_first front line rest joined j).3 [
      | inl h ↦ no_body h.0 h.2
      | inr h ↦ no_part h.0 h.3
    ]

-- ---- a line that ends

ends_first : (line body : List ℕ) (rest : List (List ℕ)) (other : List ℕ) (more : List (List ℕ))
    → IsBody line body → Joined (line ∷ rest) (other ∷ more) → (other ≡ body) × Joined rest more
ends_first line body rest other more is (inl (b, m, is_b, e, j)) =
    let one = body_one line b body is_b is in
    let same : other ≡ b = cc in
    let others : m ≡ more = cc in
    (same ∙ one, subst (Joined rest) others j)
ends_first line body rest other more is (inr (part, b, m, is_part, e, j)) = absurd (body_or_front line body part is is_part)

-- without a front the lines are joined as they stand
pub none_behind : (lines joined : List (List ℕ)) → JoinedAfter [] lines joined → Joined lines joined
none_behind lines joined (inl (none, j)) = j
none_behind lines joined (inr (some, body, more, e, j)) = absurd (omega (arith, some))

-- the entries begin with those of the line
ends_with_more : (front line body : List ℕ) (rest : List (List ℕ)) → IsBody line body → (es : List Entry) → SpellsAfter front (line ∷ rest) es
    → (here more : List Entry) × SpellsLine (front ++ body) here × (es ≡ here ++ more) × SpellsAfter [] rest more
ends_with_more front line body rest is es (joined, j, spelled) =
    let first = behind_first front line rest joined j in
    let ends = ends_first line body rest first.0 first.1 is first.3 in
    let whole = subst (λ (lines : List (List ℕ)). SpellsLines lines es) (first.2 ∙ ap (λ (b : List ℕ). (front ++ b) ∷ first.1) ends.0) spelled in
    (whole.0, whole.1, whole.2, whole.3, (first.1, inl (refl, ends.1), whole.4))

pub leads_ends : (front line body : List ℕ) (rest : List (List ℕ)) (here : List Entry) → IsBody line body → SpellsLine (front ++ body) here
    → ((es : List Entry) → SpellsLine (front ++ body) es → es ≡ here) → Leads front (line ∷ rest) here [] rest
leads_ends front line body rest here is s one = record {
  adds = λ es (joined, j, more). (
    (front ++ body) ∷ joined,
    first_behind front line rest body joined (inl (body, joined, is, refl, none_behind rest joined j)),
    (here, es, s, refl, more),
  );
  only = λ es spelled.
      let first = ends_with_more front line body rest is es spelled in
      (first.1, first.3 ∙ ap (λ (h : List Entry). h ++ first.1) (one first.0 first.2), first.4);
}

-- `P`, which holds if the entries so far and those of a line that ends are a policy, holds if these and those of all that follow are
pub ends_stuck : (front line body : List ℕ) (rest : List (List ℕ)) (out : List Entry) (P : Type 0) → IsBody line body
    → ((es : List Entry) → SpellsLine (front ++ body) es → IsPolicy (out ++ es) → P)
    → (es : List Entry) → SpellsAfter front (line ∷ rest) es → IsPolicy (out ++ es) → P
ends_stuck front line body rest out P is then es s policy =
    let first = ends_with_more front line body rest is es s in
    then first.0 first.2 (front_is out first.0 first.1 (out ++ es) (ap (λ (more : List Entry). out ++ more) (sym first.3)) policy)

-- ---- a line that goes on

goes_on_first : (line part : List ℕ) (rest : List (List ℕ)) (first : List ℕ) (more : List (List ℕ)) → IsContinued line part
    → Joined (line ∷ rest) (first ∷ more) → (body : List ℕ) × (first ≡ part ++ space ∷ body) × Joined rest (body ∷ more)
goes_on_first line part rest first more is (inl (b, m, is_b, e, j)) = absurd (body_or_front line b part is_b is)
goes_on_first line part rest first more is (inr (p, b, m, is_p, e, j)) =
    let one = front_one line p part is_p is in
    let same : first ≡ p ++ space ∷ b = cc in
    let others : m ≡ more = cc in
    (b, same ∙ ap (λ (q : List ℕ). q ++ space ∷ b) one, subst (λ (ls : List (List ℕ)). Joined rest (b ∷ ls)) others j)

some_front : (front part : List ℕ) → 0 < length ((front ++ part) ++ space ∷ [])
some_front front part = omega (arith, length-append (front ++ part) (space ∷ []))

joined_front : (front part body : List ℕ) → front ++ (part ++ space ∷ body) ≡ ((front ++ part) ++ space ∷ []) ++ body
joined_front front part body = sym (append_assoc (front ++ part) (space ∷ []) body ∙ append_assoc front part (space ∷ body))

goes_on : (front line part : List ℕ) (rest joined : List (List ℕ)) → IsContinued line part
    → JoinedAfter front (line ∷ rest) joined → JoinedAfter ((front ++ part) ++ space ∷ []) rest joined
goes_on front line part rest joined is j =
    let first = behind_first front line rest joined j in
    let on = goes_on_first line part rest first.0 first.1 is first.3 in
    inr (
      some_front front part,
      on.0,
      first.1,
      first.2 ∙ ap (λ (line : List ℕ). line ∷ first.1) (ap (λ (b : List ℕ). front ++ b) on.1 ∙ joined_front front part on.0),
      on.2,
    )

came_from : (front line part : List ℕ) (rest joined : List (List ℕ)) → IsContinued line part
    → JoinedAfter ((front ++ part) ++ space ∷ []) rest joined → JoinedAfter front (line ∷ rest) joined
came_from front line part rest joined is (inl (none, j)) = absurd (omega (arith, some_front front part, ap length none))
came_from front line part rest joined is (inr (some, body, more, e, j)) =
    subst (JoinedAfter front (line ∷ rest)) (ap (λ (line : List ℕ). line ∷ more) (joined_front front part body) ∙ sym e)
    (first_behind front line rest (part ++ space ∷ body) more (inr (part, body, more, is, refl, j)))

pub leads_on : (front line part : List ℕ) (rest : List (List ℕ)) → IsContinued line part → Leads front (line ∷ rest) [] ((front ++ part) ++ space ∷ []) rest
leads_on front line part rest is = record {
  adds = λ es (joined, j, s). (joined, came_from front line part rest joined is j, s);
  only = λ es (joined, j, s). (es, refl, (joined, goes_on front line part rest joined is j, s));
}

-- ---- all lines

pub leads_more :
    (a : List ℕ) (lines : List (List ℕ)) (out : List Entry) (b : List ℕ) (rest : List (List ℕ)) (here : List Entry) (c : List ℕ) (last : List (List ℕ))
    → Leads a lines out b rest → Leads b rest here c last → Leads a lines (out ++ here) c last
leads_more a lines out b rest here c last l m = record {
  adds = λ es h. rw append_assoc (l.adds (here ++ es) (m.adds es h));
  only = λ es h.
      let first = l.only es h in
      let second = m.only first.0 first.2 in
      (second.0, first.1 ∙ ap (λ (more : List Entry). out ++ more) second.1 ∙ sym (append_assoc out here second.0), second.2);
}

spells_all : (lines : List (List ℕ)) (es : List Entry) → SpellsBy lines es → SpellsAfter [] lines es
spells_all lines es (joined, j, s) = (joined, inl (refl, j), s)

nothing_left : (es : List Entry) → SpellsAfter [] [] es → es ≡ []
nothing_left es (joined, j, s) = subst (λ (lines : List (List ℕ)). SpellsLines lines es) (none_behind [] joined j) s

nothing_behind : (front : List ℕ) (es : List Entry) → 0 < length front → SpellsAfter front [] es → ⊥
nothing_behind front es some (joined, inl (none, j), s) = absurd (omega (arith, some, ap length none))
nothing_behind front es some (joined, inr (more, body, others, e, j), s) = absurd cc

pub leads_end : (lines : List (List ℕ)) (out : List Entry) → Leads [] lines out [] [] → SpellsBy lines out × ((es : List Entry) → SpellsBy lines es → out ≡ es)
leads_end lines out l =
    let none : SpellsAfter [] [] [] = ([], inl (refl, refl), refl) in
    let found = l.adds [] none in (
      subst (SpellsBy lines) (append-nil out) (found.0, none_behind lines found.0 found.1, found.2),
      λ es h.
          let a = l.only es (spells_all lines es h) in
          sym (a.1 ∙ ap (λ (more : List Entry). out ++ more) (nothing_left a.0 a.2) ∙ append-nil out),
    )

-- where the last line goes on, the lines spell nothing
pub leads_nowhere : (lines : List (List ℕ)) (out : List Entry) (front : List ℕ)
    → Leads [] lines out front [] → 0 < length front → (es : List Entry) → SpellsBy lines es → ⊥
leads_nowhere lines out front l some es h = let a = l.only es (spells_all lines es h) in nothing_behind front a.0 some a.2

-- `P`, which holds if the entries so far and those of the rest are a policy, holds if those of all lines are
pub leads_stuck : (lines : List (List ℕ)) (out : List Entry) (front : List ℕ) (rest : List (List ℕ)) (P : Type 0) → Leads [] lines out front rest
    → ((es : List Entry) → SpellsAfter front rest es → IsPolicy (out ++ es) → P) → (es : List Entry) → SpellsBy lines es → IsPolicy es → P
leads_stuck lines out front rest P l then es h policy =
    let a = l.only es (spells_all lines es h) in then a.0 a.2 (subst IsPolicy a.1 policy)

-- ---- the line at a place, and those after it

pub at_line : (lines : List (List ℕ)) (place : ℕ) (line : List ℕ)
    → (place < length lines) × (line ≡ get_or lines place line) → drop place lines ≡ line ∷ drop (place + 1) lines
at_line lines place line at = drop_more lines place line at.0 ∙ ap (λ (l : List ℕ). l ∷ drop (place + 1) lines) (sym at.1)

-- ---- bytes and lines of a text

each_at : (p : ℕ → Bool) (front rest : List ℕ) (b : ℕ) → Each p (front ++ b ∷ rest) → p b ≡ true
each_at p [] rest b h = h.0
each_at p (x ∷ front) rest b h = each_at p front rest b h.1

-- a text whose front is all of it passes as the front does
pub cut_none : (p : ℕ → Bool) (text front rest : List ℕ) → IsCut p text front rest → length rest < 1 → Each p text
cut_none p text front [] cut none = subst (Each p) (sym (cut.whole ∙ append-nil front)) cut.each
cut_none p text front (b ∷ rest) cut none = absurd (omega (arith, none))

-- what stops a front is a byte that does not pass
pub cut_some : (text front rest : List ℕ) → IsCut is_text_byte text front rest → 1 ≤ length rest → HasOtherByte text
cut_some text front [] cut some = absurd (omega (arith, some))
cut_some text front (b ∷ rest) cut some = (front, rest, b, cut.whole, cut.stops)

-- a text of the right bytes and length has no fault in them
pub no_byte_fault : (text : List ℕ) (A B : Type 0) → length text ≤ 16_777_216
    → Each is_text_byte text → (A × (16_777_216 < length text)) ⊎ (B × HasOtherByte text) → ⊥
no_byte_fault text A B short bytes (inl long) = omega (arith, short, long.1)
no_byte_fault text A B short bytes (inr (b, (front, rest, x, e, out))) =
    false≢true (sym out ∙ each_at is_text_byte front rest x (subst (Each is_text_byte) e bytes))

pub line_in : (text : List ℕ) (line : ℕ) → 1 ≤ line → line ≤ length (lines_of text) → IsLineOf text line
line_in text line some within = (some, omega (arith, within, length-slice_split (λ b. eqb b newline) text))

-- the line behind a front is a line of the text
pub front_line : (text front rest : List ℕ) (line : ℕ) → text ≡ front ++ rest → line ≡ 1 + count_by (λ b. eqb b newline) front → IsLineOf text line
front_line text front rest line whole is =
    (omega (arith, is), rw whole (omega (arith, is, sum_by-append (λ b. cond (eqb b newline) 1 0) front rest)))

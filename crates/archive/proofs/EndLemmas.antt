-- The last ends of a set's names, as a message more comes.
use Rattle.std.proofs.Common.{◌≡◌, ℕ, ◌<◌, ◌≤◌, nat_le, Bool, true, false, not, List, [], ◌∷◌, ◌++◌, inl, inr}
use Rattle.std.proofs.Common.{Option, Some, None, refl, sym, ap, ◌∙◌, subst, arith}
use Rattle.std.specs.Prelude.{◌↔◌, IsTrue, MatchOption}
use Rattle.std.specs.List.{Contains}
use Rattle.std.proofs.lemmas.Bool.{cases_Bool, leb-true, leb-false}
use Rattle.std.proofs.lemmas.List.Elements.{Contains-append_left, Contains-push, Contains-push_cases}
use Rattle.messages.specs.Fields.{RequestFields, VerdictFields}
use Rattle.messages.specs.Names.{IsNamed, NobodyAsks, name_of}
use Rattle.messages.specs.declared.message.Message.{Message}
use Rattle.messages.specs.declared.message.Message.TheVariants.{Request, Verdict}
use Rattle.messages.specs.declared.request_name.RequestName.{RequestName}
use Rattle.outcomes.proofs.Membership.{no_member}
use Rattle.outcomes.proofs.NameMaps.{SetsAt, at_none, at_same, same_cases}
use Rattle.outcomes.proofs.Standing.{name_from_named}
use Rattle.archive.specs.Archive.{HasEnded}
use Rattle.archive.specs.private.Ends.{AreEnds, Ends, IsLastEnd, end_at, is_past, reaches}

one_asked : (p q : RequestFields) → ◌≡◌ {A = Message} (Request p) (Request q) → p ≡ q
one_asked p q e = cc

-- what a map says of a name
abbrev Says : List Message → RequestName → Option ℕ → Type 0
Says set name o = MatchOption o (NobodyAsks set name) (IsLastEnd set name)

says_more : (s t : List Message) (name : RequestName) (o : Option ℕ) → (NobodyAsks s name → NobodyAsks t name)
    → ((last : ℕ) → IsLastEnd s name last → IsLastEnd t name last) → Says s name o → Says t name o
says_more s t name None nobody last says = nobody says
says_more s t name (Some l) nobody last says = last l says

pub no_ends : (ends : Ends) → ends.entries ≡ [] → AreEnds [] ends
no_ends ends empty name =
    subst (Says [] name) (sym (at_none ends name empty)) (λ q h named. no_member (Request q) h)

pub same_ends : (set : List Message) (old new : Ends) → new.entries ≡ old.entries → AreEnds set old → AreEnds set new
same_ends set old new same are name = subst (Says set name) (sym (at_same old new name same)) (are name)

-- ---- a message comes that asks for nothing under the name

module _ (set : List Message) (m : Message) (name : RequestName) (other : (q : RequestFields) → m ≡ Request q → IsNamed q name → ⊥) where
  was_there : (q : RequestFields) → IsNamed q name → Contains (set ++ m ∷ []) (Request q) → Contains set (Request q)
  was_there q named h =
      elim (Contains-push_cases set m (Request q) h) as (λ _. Contains set (Request q)) [ inl old ↦ old | inr new ↦ absurd (other q new named) ]

  pub beside : (o : Option ℕ) → Says set name o → Says (set ++ m ∷ []) name o
  beside o says =
      says_more set (set ++ m ∷ []) name o (λ nobody q h named. nobody q (was_there q named h) named)
      (λ last is. record {
        request = is.request;
        asked = Contains-append_left set (m ∷ []) (Request is.request) is.asked;
        named = is.named;
        ends = is.ends;
        each = λ q h named. is.each q (was_there q named h) named;
      }) says

pub with_verdict : (set : List Message) (v : VerdictFields) (ends : Ends) → AreEnds set ends → AreEnds (set ++ Verdict v ∷ []) ends
with_verdict set v ends are name = beside set (Verdict v) name (λ q wrong named. absurd cc) (end_at ends name) (are name)

-- ---- a request comes

module _ (set : List Message) (q : RequestFields) where
  abbrev more : List Message
  more = set ++ Request q ∷ []

  elsewhere : (name : RequestName) → (name_of q ≡ name → ⊥) → (o : Option ℕ) → Says set name o → Says more name o
  elsewhere name differ =
      beside set (Request q) name (λ p same named. differ (ap name_of (one_asked q p same) ∙ name_from_named p name named))

  each_of : (name : RequestName) (last : ℕ) → ((p : RequestFields) → Contains set (Request p) → IsNamed p name → p.until ≤ last) → q.until ≤ last
      → (p : RequestFields) → Contains more (Request p) → IsNamed p name → p.until ≤ last
  each_of name last before here p h named =
      elim (Contains-push_cases set (Request q) (Request p) h) as (λ _. p.until ≤ last) [
        | inl old ↦ before p old named
        | inr new ↦ subst (λ (r : RequestFields). r.until ≤ last) (one_asked q p new) here
      ]

  -- an end is there that is no earlier
  stays_last : (o : Option ℕ) → reaches o q.until ≡ true → Says set (name_of q) o → Says more (name_of q) o
  stays_last None late says = absurd cc
  stays_last (Some last) late is = record {
    request = is.request;
    asked = Contains-append_left set (Request q ∷ []) (Request is.request) is.asked;
    named = is.named;
    ends = is.ends;
    each = each_of (name_of q) last is.each (leb-true q.until last late);
  }

  -- none is
  before_it : (o : Option ℕ) → reaches o q.until ≡ false → Says set (name_of q) o → (p : RequestFields) → Contains set (Request p)
      → IsNamed p (name_of q) → p.until ≤ q.until
  before_it None late nobody p h named = absurd (nobody p h named)
  before_it (Some last) late is p h named =
      let earlier : last < q.until = leb-false q.until last late in
      let within : p.until ≤ last = is.each p h named in
      omega (arith, earlier, within)

  is_last : (o : Option ℕ) → reaches o q.until ≡ false → Says set (name_of q) o → IsLastEnd more (name_of q) q.until
  is_last o late says = record {
    request = q;
    asked = Contains-push set (Request q);
    named = (refl, refl);
    ends = refl;
    each = each_of (name_of q) q.until (before_it o late says) (omega arith);
  }

  pub not_later : (ends : Ends) → reaches (end_at ends (name_of q)) q.until ≡ true → AreEnds set ends → AreEnds more ends
  not_later ends late are name =
      elim (same_cases (name_of q) name) as (λ _. Says more name (end_at ends name)) [
        | inl same ↦ subst (λ (n : RequestName). Says more n (end_at ends n)) same (stays_last (end_at ends (name_of q)) late (are (name_of q)))
        | inr differ ↦ elsewhere name differ (end_at ends name) (are name)
      ]

  pub later : (old new : Ends) → reaches (end_at old (name_of q)) q.until ≡ false → SetsAt old new (name_of q) q.until → AreEnds set old → AreEnds more new
  later old new late sets are name =
      elim (same_cases (name_of q) name) as (λ _. Says more name (end_at new name)) [
        | inl same ↦ subst (λ (n : RequestName). Says more n (end_at new n)) same
            (subst (Says more (name_of q)) (sym sets.here) (is_last (end_at old (name_of q)) late (are (name_of q))))
        | inr differ ↦ subst (Says more name) (sym (sets.elsewhere name differ)) (elsewhere name differ (end_at old name) (are name))
      ]

-- ---- which names have ended

module _ (set : List Message) (moment : ℕ) (name : RequestName) where
  ended_to : (o : Option ℕ) → Says set name o → is_past o moment ≡ true → HasEnded set moment name
  ended_to None says before = absurd cc
  ended_to (Some last) is before =
      let early : last < moment = leb-false moment last (from_not (nat_le moment last) before) in
      record {
        request = is.request;
        asked = is.asked;
        named = is.named;
        each = λ q h named. let within : q.until ≤ last = is.each q h named in omega (arith, early, within);
      }
    where
      from_not : (b : Bool) → not b ≡ true → b ≡ false
      from_not true e = absurd cc
      from_not false e = refl

  ended_back : (o : Option ℕ) → Says set name o → HasEnded set moment name → is_past o moment ≡ true
  ended_back None nobody ended = absurd (nobody ended.request ended.asked ended.named)
  ended_back (Some last) is ended =
      let ends : is.request.until < moment = ended.each is.request is.asked is.named in
      let early : last < moment = subst (λ (n : ℕ). n < moment) is.ends ends in
      ap not (not_le moment last early)
    where
      not_le : (m n : ℕ) → n < m → nat_le m n ≡ false
      not_le m n less =
          elim (cases_Bool (nat_le m n)) as (λ _. nat_le m n ≡ false) [
            | inl le ↦ let wrong : m ≤ n = leb-true m n le in absurd (omega (arith, less, wrong))
            | inr gt ↦ gt
          ]

  pub ended_iff : (ends : Ends) (b : Bool) → AreEnds set ends → b ≡ is_past (end_at ends name) moment → IsTrue b ↔ HasEnded set moment name
  ended_iff ends b are is =
      (λ yes. ended_to (end_at ends name) (are name) (sym is ∙ yes), λ ended. is ∙ ended_back (end_at ends name) (are name) ended)

-- The summaries by name, as a set grows.
use Rattle.std.proofs.Common.{◌≡◌, ◌⊎◌, List, [], ◌∷◌, ◌++◌, map, Option, Some, None, sym, ap, subst, inl, inr}
use Rattle.std.specs.List.{Contains}
use Rattle.std.specs.Option.{MatchOption}
use Rattle.std.specs.BTreeMap.{BTreeMap, IsOrdered}
use Rattle.std.proofs.lemmas.List.Elements.{Contains-append_left, Contains-push, Contains-push_cases}
use Rattle.messages.specs.Fields.{RequestFields, VerdictFields}
use Rattle.messages.specs.Names.{IsNamed, NobodyAsks, name_cmp, name_meant, name_of}
use Rattle.messages.specs.declared.request_name.RequestName.{RequestName}
use Rattle.messages.specs.declared.message.Message.{Message}
use Rattle.messages.specs.declared.message.Message.TheVariants.{Request, Verdict}
use Rattle.grants.specs.Summaries.{Kept, StandsFor}
use Rattle.outcomes.specs.Parked.{IsParked}
use Rattle.outcomes.specs.private.ByName.{Gathers, IsSummaryOf, at_name}
use Rattle.outcomes.proofs.Membership.{no_member, Contains-head, Contains-behind, Contains-cases}
use Rattle.outcomes.proofs.NameMaps.{SetsAt, at_none, at_same, same_cases}
use Rattle.outcomes.proofs.Standing.{Mentions, name_from_named, named_from_name, stands_in, stands_still}

-- what the map has at a name, for a set
abbrev pub IsAt : List Message → RequestName → Option Kept → Type 0
IsAt set name o = MatchOption o (NobodyAsks set name) (IsSummaryOf set name)

-- the map has a summary at its request's name
pub named_at : (set : List Message) (m : BTreeMap RequestName Kept) → Gathers set m
    → (name : RequestName) (k : Kept) → at_name m name ≡ Some k → name_of k.request ≡ name
named_at set m g name k there =
    let is : IsSummaryOf set name k = subst (IsAt set name) there (g.each name) in name_from_named k.request name is.named

pub none_gathered : (m : BTreeMap RequestName Kept) → IsOrdered name_cmp m → m.entries ≡ [] → Gathers [] m
none_gathered m ordered empty = record {
  ordered = ordered;
  each = λ name. subst (IsAt [] name) (sym (at_none m name empty)) (λ q h named. no_member (Request q) h);
}

-- ---- a message about another name

pub still_at : (set : List Message) (m : Message) (name : RequestName) → (Mentions m name → ⊥)
    → (o : Option Kept) → IsAt set name o → IsAt (set ++ m ∷ []) name o
still_at set m name other None nobody = λ q h named.
    elim (Contains-push_cases set m (Request q) h) as (λ _. ⊥) [
      | inl old ↦ nobody q old named
      | inr new ↦ other (subst (λ (x : Message). Mentions x name) (sym new) (name_from_named q name named))
    ]
still_at set m name other (Some k) is = record {
  named = is.named;
  stands = stands_still set m k (λ mentions. other (subst (Mentions m) (name_from_named k.request name is.named) mentions)) is.stands;
}

-- one name is set, to what it is for the longer set, and the others stay
pub one_more : (set : List Message) (m : Message) (name : RequestName) (old new : BTreeMap RequestName Kept) (k : Kept)
    → ((other : RequestName) → Mentions m other → name ≡ other) → SetsAt old new name k → IsOrdered name_cmp new
    → IsSummaryOf (set ++ m ∷ []) name k → Gathers set old → Gathers (set ++ m ∷ []) new
one_more set m name old new k only sets ordered here g = record { ordered = ordered; each = λ other. at other (same_cases name other) }
  where
    at : (other : RequestName) → (name ≡ other) ⊎ (name ≡ other → ⊥) → IsAt (set ++ m ∷ []) other (at_name new other)
    at other (inl same) = subst (λ (n : RequestName). IsAt (set ++ m ∷ []) n (at_name new n)) same (subst (IsAt (set ++ m ∷ []) name) (sym sets.here) here)
    at other (inr differ) =
        subst (IsAt (set ++ m ∷ []) other) (sym (sets.elsewhere other differ))
        (still_at set m other (λ mentions. differ (only other mentions)) (at_name old other) (g.each other))

-- ---- a request comes

request_only : (q : RequestFields) (other : RequestName) → Mentions (Request q) other → name_of q ≡ other
request_only q other mentions = mentions

-- ---- the first request of a name, after the verdicts that waited for it

one_request : (p q : RequestFields) → ◌≡◌ {A = Message} (Request p) (Request q) → p ≡ q
one_request p q e = cc

one_verdict : (v w : VerdictFields) → ◌≡◌ {A = Message} (Verdict v) (Verdict w) → v ≡ w
one_verdict v w e = cc

abbrev pub of_verdict : VerdictFields → Message
of_verdict v = Verdict v

pub among_messages : (vs : List VerdictFields) (v : VerdictFields) → Contains vs v → Contains (map of_verdict vs) (Verdict v)
among_messages [] v m = absurd (no_member v m)
among_messages (w ∷ vs) v m =
    elim (Contains-cases w vs v m) as (λ _. Contains (map of_verdict (w ∷ vs)) (Verdict v)) [
      | inl same ↦ subst (λ (x : VerdictFields). Contains (map of_verdict (w ∷ vs)) (Verdict x)) same (Contains-head (Verdict w) (map of_verdict vs))
      | inr later ↦ Contains-behind (Verdict w) (map of_verdict vs) (Verdict v) (among_messages vs v later)
    ]

pub among_verdicts : (vs : List VerdictFields) (v : VerdictFields) → Contains (map of_verdict vs) (Verdict v) → Contains vs v
among_verdicts [] v m = absurd (no_member (Verdict v) m)
among_verdicts (w ∷ vs) v m =
    elim (Contains-cases (Verdict w) (map of_verdict vs) (Verdict v) m) as (λ _. Contains (w ∷ vs) v) [
      | inl same ↦ subst (Contains (w ∷ vs)) (one_verdict w v same) (Contains-head w vs)
      | inr later ↦ Contains-behind w vs v (among_verdicts vs v later)
    ]

pub no_request : (vs : List VerdictFields) (q : RequestFields) → Contains (map of_verdict vs) (Request q) → ⊥
no_request [] q m = no_member (Request q) m
no_request (w ∷ vs) q m =
    elim (Contains-cases (Verdict w) (map of_verdict vs) (Request q) m) as (λ _. ⊥) [ inl wrong ↦ absurd cc | inr later ↦ no_request vs q later ]

-- a summary of the request alone is its own
pub of_itself : (q : RequestFields) (k : Kept) → StandsFor (Request q ∷ []) k → k.request ≡ q
of_itself q k stands =
    elim (Contains-cases (Request q) [] (Request k.request) stands.asked) as (λ _. k.request ≡ q) [
      | inl same ↦ sym (one_request q k.request same)
      | inr none ↦ absurd (no_member (Request k.request) none)
    ]

-- A summary that stands for the request and those verdicts stands for the set with the request, since the set has no other message about the name.
module _ (set : List Message) (q : RequestFields) (vs : List VerdictFields) (nobody : NobodyAsks set (name_of q)) (waited : (v : VerdictFields)
    → (Contains vs v → (name_meant v ≡ name_of q) × IsParked set v) × ((name_meant v ≡ name_of q) × IsParked set v → Contains vs v)) where
  abbrev own : List Message
  own = Request q ∷ map of_verdict vs

  abbrev longer : List Message
  longer = set ++ Request q ∷ []

  there : (m : Message) → Mentions m (name_of q) → Contains own m → Contains longer m
  there (Request p) named m =
      elim (Contains-cases (Request q) (map of_verdict vs) (Request p) m) as (λ _. Contains longer (Request p)) [
        | inl same ↦ subst (Contains longer) same (Contains-push set (Request q))
        | inr later ↦ absurd (no_request vs p later)
      ]
  there (Verdict v) named m =
      elim (Contains-cases (Request q) (map of_verdict vs) (Verdict v) m) as (λ _. Contains longer (Verdict v)) [
        | inl wrong ↦ absurd cc
        | inr later ↦ Contains-append_left set (Request q ∷ []) (Verdict v) ((waited v).0 (among_verdicts vs v later)).1.given
      ]

  back : (m : Message) → Mentions m (name_of q) → Contains longer m → Contains own m
  back (Request p) named m =
      elim (Contains-push_cases set (Request q) (Request p) m) as (λ _. Contains own (Request p)) [
        | inl old ↦ absurd (nobody p old (named_from_name p (name_of q) named))
        | inr same ↦ subst (Contains own) same (Contains-head (Request q) (map of_verdict vs))
      ]
  back (Verdict v) named m =
      elim (Contains-push_cases set (Request q) (Verdict v) m) as (λ _. Contains own (Verdict v)) [
        | inl old ↦
            let waits : NobodyAsks set (name_meant v) = subst (NobodyAsks set) (sym named) nobody in
            Contains-behind (Request q) (map of_verdict vs) (Verdict v) (among_messages vs v ((waited v).1 (named, record { given = old; waits = waits })))
        | inr wrong ↦ absurd cc
      ]

  pub first_stands : (k : Kept) → k.request ≡ q → StandsFor own k → StandsFor longer k
  first_stands k same stands =
      let mine : name_of q ≡ name_of k.request = ap name_of (sym same) in
      stands_in own longer k (subst (λ (n : RequestName). (m : Message) → Mentions m n → Contains own m → Contains longer m) mine there)
      (subst (λ (n : RequestName). (m : Message) → Mentions m n → Contains longer m → Contains own m) mine back) stands

pub first_asked : (set : List Message) (q : RequestFields) (old new : BTreeMap RequestName Kept) (k : Kept) → SetsAt old new (name_of q) k
    → IsOrdered name_cmp new → k.request ≡ q → StandsFor (set ++ Request q ∷ []) k → Gathers set old → Gathers (set ++ Request q ∷ []) new
first_asked set q old new k sets ordered same stands g =
    one_more set (Request q) (name_of q) old new k (request_only q) sets ordered (record {
      named = named_from_name k.request (name_of q) (ap name_of same);
      stands = stands;
    }) g

pub asked_again : (set : List Message) (q : RequestFields) (old new : BTreeMap RequestName Kept) (before after : Kept)
    → at_name old (name_of q) ≡ Some before → SetsAt old new (name_of q) after → IsOrdered name_cmp new → after.request ≡ before.request
    → ((s : List Message) → StandsFor s before → StandsFor (s ++ Request q ∷ []) after) → Gathers set old → Gathers (set ++ Request q ∷ []) new
asked_again set q old new before after found sets ordered same stands g =
    let was : IsSummaryOf set (name_of q) before = subst (IsAt set (name_of q)) found (g.each (name_of q)) in
    one_more set (Request q) (name_of q) old new after (request_only q) sets ordered (record {
      named = subst (λ (r : RequestFields). IsNamed r (name_of q)) (sym same) was.named;
      stands = stands set was.stands;
    }) g

-- ---- a verdict comes

verdict_only : (v : VerdictFields) (other : RequestName) → Mentions (Verdict v) other → name_meant v ≡ other
verdict_only v other mentions = mentions

pub heard : (set : List Message) (v : VerdictFields) (old new : BTreeMap RequestName Kept) (before after : Kept)
    → at_name old (name_meant v) ≡ Some before → SetsAt old new (name_meant v) after → IsOrdered name_cmp new → after.request ≡ before.request
    → ((s : List Message) → StandsFor s before → StandsFor (s ++ Verdict v ∷ []) after) → Gathers set old → Gathers (set ++ Verdict v ∷ []) new
heard set v old new before after found sets ordered same stands g =
    let was : IsSummaryOf set (name_meant v) before = subst (IsAt set (name_meant v)) found (g.each (name_meant v)) in
    one_more set (Verdict v) (name_meant v) old new after (verdict_only v) sets ordered (record {
      named = subst (λ (r : RequestFields). IsNamed r (name_meant v)) (sym same) was.named;
      stands = stands set was.stands;
    }) g

-- a verdict without its request changes nothing
pub unheard : (set : List Message) (v : VerdictFields) (m : BTreeMap RequestName Kept)
    → at_name m (name_meant v) ≡ None → Gathers set m → Gathers (set ++ Verdict v ∷ []) m
unheard set v m bare g = record { ordered = g.ordered; each = λ other. at other (same_cases (name_meant v) other) }
  where
    nobody : NobodyAsks (set ++ Verdict v ∷ []) (name_meant v)
    nobody = λ q h named.
        let before : NobodyAsks set (name_meant v) = subst (IsAt set (name_meant v)) bare (g.each (name_meant v)) in
        elim (Contains-push_cases set (Verdict v) (Request q) h) as (λ _. ⊥) [ inl old ↦ before q old named | inr new ↦ absurd cc ]

    at : (other : RequestName) → (name_meant v ≡ other) ⊎ (name_meant v ≡ other → ⊥) → IsAt (set ++ Verdict v ∷ []) other (at_name m other)
    at other (inl same) =
        subst (λ (n : RequestName). IsAt (set ++ Verdict v ∷ []) n (at_name m n)) same (subst (IsAt (set ++ Verdict v ∷ []) (name_meant v)) (sym bare) nobody)
    at other (inr differ) = still_at set (Verdict v) other (λ mentions. differ mentions) (at_name m other) (g.each other)

-- ---- the same stands at each name

pub gathers_still : (set : List Message) (old new : BTreeMap RequestName Kept) → IsOrdered name_cmp new
    → ((name : RequestName) → at_name new name ≡ at_name old name) → Gathers set old → Gathers set new
gathers_still set old new ordered same g =
    record { ordered = ordered; each = λ name. subst (IsAt set name) (sym (same name)) (g.each name) }

-- a map with the same entries gathers the same
pub gathers_same : (set : List Message) (old new : BTreeMap RequestName Kept)
    → new.entries ≡ old.entries → IsOrdered name_cmp new → Gathers set old → Gathers set new
gathers_same set old new same ordered g = gathers_still set old new ordered (λ name. at_same old new name same) g

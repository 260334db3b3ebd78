-- What is known of a set by name, as a message comes; and the same as lists.
use Rattle.std.proofs.Common.{◌≡◌, List, [], ◌∷◌, ◌++◌, map, Option, Some, None, Result, Ok, Err, Vec, refl, sym, ap, ◌∙◌, subst, inl, inr, append_assoc}
use Rattle.std.proofs.lemmas.List.{append-nil}
use Rattle.std.specs.Prelude.{OnErr, OnOk, MatchResult}
use Rattle.std.specs.List.{Contains}
use Rattle.std.specs.BTreeMap.{BTreeMap, IsOrdered, values}
use Rattle.std.specs.declared.alloc.Global.{Global}
use Rattle.std.proofs.lemmas.List.Elements.{Contains-append_left, Contains-append_right, Contains-append_cases}
use Rattle.messages.specs.Fields.{RequestFields, VerdictFields}
use Rattle.messages.specs.Names.{NobodyAsks, name_cmp, name_meant, name_of}
use Rattle.messages.specs.declared.request_name.RequestName.{RequestName}
use Rattle.messages.specs.declared.message.Message.{Message}
use Rattle.messages.specs.declared.message.Message.TheVariants.{Request, Verdict}
use Rattle.grants.specs.Summaries.{Kept, StandsFor}
use Rattle.outcomes.specs.Gathered.{AreGathered, Known}
use Rattle.outcomes.specs.Parked.{IsParked}
use Rattle.outcomes.specs.Summaries.{AreSummaries}
use Rattle.outcomes.specs.private.ByName.{AreByName, Gathers, IsByName, IsSummaryOf, Waits, at_name, in_turn, listed, verdicts_at}
use Rattle.outcomes.proofs.GatherLemmas.{IsAt, asked_again, first_asked, first_stands, gathers_still, heard, named_at, none_gathered, of_verdict, unheard}
use Rattle.outcomes.proofs.Membership.{no_member, Contains-head, Contains-behind, Contains-cases}
use Rattle.outcomes.proofs.NameMaps.{SetsAt, at_entry, same_cases, value_at, value_from_entry}
use Rattle.outcomes.proofs.Standing.{name_from_named, named_from_name}
use Rattle.outcomes.proofs.SummaryLemmas.{are_summaries}
use Rattle.outcomes.proofs.WaitLemmas.{Waiting, none_waits, wait_still, waits_again, waits_first, waits_heard, waits_more}

abbrev pub Summaries : Type 0
Summaries = BTreeMap RequestName Kept

-- ---- no message

pub none_by_name : (s : Summaries) (w : Waiting) → IsOrdered name_cmp s → s.entries ≡ [] → IsOrdered name_cmp w → w.entries ≡ [] → AreByName [] s w
none_by_name s w ordered empty w_ordered w_empty =
    record { summaries = none_gathered s ordered empty; waiting = none_waits w w_ordered w_empty }

-- ---- who asks

-- if the map has a summary at a name, somebody asks under it
somebody : (set : List Message) (s : Summaries) → Gathers set s → (name : RequestName) (k : Kept) → at_name s name ≡ Some k → NobodyAsks set name → ⊥
somebody set s g name k there nobody =
    let is : IsSummaryOf set name k = subst (IsAt set name) there (g.each name) in nobody k.request is.stands.asked is.named

nobody_there : (set : List Message) (s : Summaries) → Gathers set s → (name : RequestName) → at_name s name ≡ None → NobodyAsks set name
nobody_there set s g name bare = subst (IsAt set name) bare (g.each name)

-- ---- a request comes

module _ (set : List Message) (q : RequestFields) (old new : Summaries) where
  pub request_again : (w : Waiting) (before after : Kept) → at_name old (name_of q) ≡ Some before
      → SetsAt old new (name_of q) after → IsOrdered name_cmp new → after.request ≡ before.request
      → ((s : List Message) → StandsFor s before → StandsFor (s ++ Request q ∷ []) after) → AreByName set old w → AreByName (set ++ Request q ∷ []) new w
  request_again w before after found sets ordered same stands by = record {
    summaries = asked_again set q old new before after found sets ordered same stands by.summaries;
    waiting = waits_again set q w (somebody set old by.summaries (name_of q) before found) by.waiting;
  }

  pub request_first : (w taken : Waiting) (k : Kept) → at_name old (name_of q) ≡ None → SetsAt old new (name_of q) k → IsOrdered name_cmp new
      → k.request ≡ q → StandsFor (Request q ∷ map of_verdict (verdicts_at w (name_of q))) k → IsOrdered name_cmp taken
      → at_name taken (name_of q) ≡ None → ((other : RequestName) → (name_of q ≡ other → ⊥) → at_name taken other ≡ at_name w other)
      → AreByName set old w → AreByName (set ++ Request q ∷ []) new taken
  request_first w taken k bare sets ordered same stands t_ordered gone others by =
      let nobody = nobody_there set old by.summaries (name_of q) bare in
      let whole = first_stands set q (verdicts_at w (name_of q)) nobody (by.waiting.each (name_of q)) k same stands in
      record {
        summaries = first_asked set q old new k sets ordered same whole by.summaries;
        waiting = waits_first set q w taken t_ordered (ap listed gone) (λ other differ. ap listed (others other differ)) by.waiting;
      }

-- ---- a verdict comes

sets_nothing : (old new : Summaries) (name : RequestName) (before after : Kept) → at_name old name ≡ Some before
    → SetsAt old new name after → after ≡ before → (other : RequestName) → at_name new other ≡ at_name old other
sets_nothing old new name before after found sets same other =
    elim (same_cases name other) as (λ _. at_name new other ≡ at_name old other) [
      | inl is ↦ subst (λ (n : RequestName). at_name new n ≡ at_name old n) is (sets.here ∙ ap (λ (k : Kept). Some k) same ∙ sym found)
      | inr differ ↦ sets.elsewhere other differ
    ]

module _ (set : List Message) (v : VerdictFields) where
  -- a verdict whose request is there
  pub verdict_heard : {X E : Type 0} (r : Result X E) (old new : Summaries) (w : Waiting) (before after : Kept)
      → at_name old (name_meant v) ≡ Some before → SetsAt old new (name_meant v) after → IsOrdered name_cmp new → after.request ≡ before.request
      → ((s : List Message) → StandsFor s before → OnOk r (StandsFor (s ++ Verdict v ∷ []) after)) → OnErr r (after ≡ before)
      → AreByName set old w → MatchResult r (λ _. AreByName (set ++ Verdict v ∷ []) new w) (λ _. AreByName set new w)
  verdict_heard (Ok x) old new w before after found sets ordered same stands kept by = record {
    summaries = heard set v old new before after found sets ordered same stands by.summaries;
    waiting = waits_heard set v w (somebody set old by.summaries (name_meant v) before found) by.waiting;
  }
  verdict_heard (Err e) old new w before after found sets ordered same stands kept by =
      record {
        summaries = gathers_still set old new ordered (sets_nothing old new (name_meant v) before after found sets kept) by.summaries;
        waiting = by.waiting;
      }

  -- a verdict that has to wait
  pub verdict_waits : {X E : Type 0} (r : Result X E) (s : Summaries) (old new : Waiting) → at_name s (name_meant v) ≡ None
      → (IsOrdered name_cmp old → IsOrdered name_cmp new) → OnOk r (verdicts_at new (name_meant v) ≡ verdicts_at old (name_meant v) ++ v ∷ [])
      → ((other : RequestName) → (name_meant v ≡ other → ⊥) → verdicts_at new other ≡ verdicts_at old other)
      → OnErr r (verdicts_at new (name_meant v) ≡ verdicts_at old (name_meant v)) → AreByName set s old
      → MatchResult r (λ _. AreByName (set ++ Verdict v ∷ []) s new) (λ _. AreByName set s new)
  verdict_waits (Ok x) s old new bare ordered more others kept by = record {
    summaries = unheard set v s bare by.summaries;
    waiting = waits_more set v old new (nobody_there set s by.summaries (name_meant v) bare) (ordered by.waiting.ordered) more others by.waiting;
  }
  verdict_waits (Err e) s old new bare ordered more others kept by =
      record { summaries = by.summaries; waiting = wait_still set old new (ordered by.waiting.ordered) same by.waiting }
    where
      same : (name : RequestName) → verdicts_at new name ≡ verdicts_at old name
      same name = elim (same_cases (name_meant v) name) as (λ _. verdicts_at new name ≡ verdicts_at old name) [
        | inl is ↦ subst (λ (n : RequestName). verdicts_at new n ≡ verdicts_at old n) is kept
        | inr differ ↦ others name differ
      ]

-- ---- as lists

abbrev pub Entry : Type 0
Entry = RequestName × Vec VerdictFields Global

from_turn : (ls : List (Vec VerdictFields Global)) (v : VerdictFields) → Contains (in_turn ls) v
    → (l : Vec VerdictFields Global) × Contains ls l × Contains l.items v
from_turn [] v m = absurd (no_member v m)
from_turn (l ∷ ls) v m =
    elim (Contains-append_cases l.items (in_turn ls) v m) as (λ _. (k : Vec VerdictFields Global) × Contains (l ∷ ls) k × Contains k.items v) [
      | inl here ↦ (l, Contains-head l ls, here)
      | inr later ↦ let found = from_turn ls v later in (found.0, Contains-behind l ls found.0 found.1, found.2)
    ]

to_turn : (ls : List (Vec VerdictFields Global)) (l : Vec VerdictFields Global) (v : VerdictFields)
    → Contains ls l → Contains l.items v → Contains (in_turn ls) v
to_turn [] l v m here = absurd (no_member l m)
to_turn (k ∷ ls) l v m here =
    elim (Contains-cases k ls l m) as (λ _. Contains (k.items ++ in_turn ls) v) [
      | inl same ↦ Contains-append_left k.items (in_turn ls) v (subst (λ (x : Vec VerdictFields Global). Contains x.items v) (sym same) here)
      | inr later ↦ Contains-append_right k.items (in_turn ls) v (to_turn ls l v later here)
    ]

pub turn_more : (ls : List (Vec VerdictFields Global)) (l : Vec VerdictFields Global) → in_turn (ls ++ l ∷ []) ≡ in_turn ls ++ l.items
turn_more [] l = append-nil l.items
turn_more (k ∷ ls) l = ap (λ (vs : List VerdictFields). k.items ++ vs) (turn_more ls l) ∙ sym (append_assoc k.items (in_turn ls) l.items)

module _ (w : Waiting) (ordered : IsOrdered name_cmp w) where
  -- what waits is kept at some name
  name_of_waiting : (v : VerdictFields) → Contains (in_turn (values w)) v → (name : RequestName) × Contains (verdicts_at w name) v
  name_of_waiting v m =
      let list = from_turn (values w) v m in
      let entry = value_from_entry w.entries list.0 list.1 in
      let there : at_name w entry.0.0 ≡ Some entry.0.1 = at_entry w ordered entry.0 entry.1 in (
        entry.0.0,
        subst (λ (o : Option (Vec VerdictFields Global)). Contains (listed o) v) (sym there)
            (subst (λ (l : Vec VerdictFields Global). Contains l.items v) (sym entry.2) list.2),
      )

waits_in_turn : (w : Waiting) (name : RequestName) (v : VerdictFields) → Contains (verdicts_at w name) v → Contains (in_turn (values w)) v
waits_in_turn w name v m = at (at_name w name) refl m
  where
    at : (o : Option (Vec VerdictFields Global)) → at_name w name ≡ o → Contains (listed o) v → Contains (in_turn (values w)) v
    at None was here = absurd (no_member v here)
    at (Some l) was here = to_turn (values w) l v (value_at w name l was) here

abbrev pub known : Summaries → Waiting → Known
known s w = record { summaries = values s; waiting = in_turn (values w) }

pub gathered_from : (set : List Message) (s : Summaries) (w : Waiting) → AreByName set s w → AreGathered set (known s w)
gathered_from set s w by = record {
  summaries = are_summaries set s (values s) by.summaries refl;
  waiting = λ v. (
    λ m. let found = name_of_waiting w by.waiting.ordered v m in ((by.waiting.each found.0 v).0 found.1).1,
    λ parked. waits_in_turn w (name_meant v) v ((by.waiting.each (name_meant v) v).1 (refl, parked)),
  );
}

-- The map has each summary in the list at its request's name.
pub kept_at : (set : List Message) (s : Summaries) → Gathers set s → (k : Kept) → Contains (values s) k → at_name s (name_of k.request) ≡ Some k
kept_at set s g k m =
    let entry = value_from_entry s.entries k m in
    let there : at_name s entry.0.0 ≡ Some k = at_entry s g.ordered entry.0 entry.1 ∙ ap (λ (x : Kept). Some x) entry.2 in
    subst (λ (n : RequestName). at_name s n ≡ Some k) (sym (named_at set s g entry.0.0 k there)) there

pub gathers_from : (set some : List Message) (s : Summaries) → Gathers some s → AreSummaries set (values s) → Gathers set s
gathers_from set some s g are = record { ordered = g.ordered; each = λ name. at name (at_name s name) refl }
  where
    at : (name : RequestName) (o : Option Kept) → at_name s name ≡ o → IsAt set name o
    at name None bare = λ q asked named.
        let found = are.all q asked in
        let there : at_name s name ≡ Some found.0 =
        subst (λ (n : RequestName). at_name s n ≡ Some found.0)
        (name_from_named found.0.request (name_of q) found.2 ∙ name_from_named q name named) (kept_at some s g found.0 found.1) in
        let wrong : ◌≡◌ {A = Option Kept} None (Some found.0) = sym bare ∙ there in
        absurd cc
    at name (Some k) there = record {
      named = named_from_name k.request name (named_at some s g name k there);
      stands = are.each k (value_at s name k there);
    }

waits_from : (set some : List Message) (w : Waiting) → Waits some w
    → ((v : VerdictFields) → (Contains (in_turn (values w)) v → IsParked set v) × (IsParked set v → Contains (in_turn (values w)) v)) → Waits set w
waits_from set some w waits are = record {
  ordered = waits.ordered;
  each = λ name v. (
    λ m. (((waits.each name v).0 m).0, (are v).0 (waits_in_turn w name v m)),
    λ both.
        let found = name_of_waiting w waits.ordered v ((are v).1 both.1) in
        let name_is : found.0 ≡ name = sym ((waits.each found.0 v).0 found.1).0 ∙ both.0 in
        subst (λ (n : RequestName). Contains (verdicts_at w n) v) name_is found.1,
  );
}

pub by_name_from : (set : List Message) (s : Summaries) (w : Waiting) → IsByName s w → AreGathered set (known s w) → AreByName set s w
by_name_from set s w some are = record {
  summaries = gathers_from set some.0 s some.1.summaries are.summaries;
  waiting = waits_from set some.0 w some.1.waiting are.waiting;
}

-- whether memory lasts or runs out, the maps are what is known of some set afterwards
pub still_by_name : {X E : Type 0} (r : Result X E) (set longer : List Message) (s : Summaries) (w : Waiting)
    → MatchResult r (λ _. AreByName longer s w) (λ _. AreByName set s w) → IsByName s w
still_by_name (Ok x) set longer s w by = (longer, by)
still_by_name (Err e) set longer s w by = (set, by)

-- where memory lasts, and where it runs out
pub after_ok : {X E : Type 0} (r : Result X E) (set longer : List Message) (s : Summaries) (w : Waiting)
    → MatchResult r (λ _. AreByName longer s w) (λ _. AreByName set s w) → OnOk r (AreGathered longer (known s w))
after_ok (Ok x) set longer s w by = gathered_from longer s w by
after_ok (Err e) set longer s w by = tt

pub after_err : {X E : Type 0} (r : Result X E) (set longer : List Message) (s : Summaries) (w : Waiting)
    → MatchResult r (λ _. AreByName longer s w) (λ _. AreByName set s w) → OnErr r (AreGathered set (known s w))
after_err (Ok x) set longer s w by = tt
after_err (Err e) set longer s w by = gathered_from set s w by

-- what is known, as the two maps
pub opened : (set : List Message) (s : Summaries) (w : Waiting) (value : Known) → known s w ≡ value → IsByName s w → AreGathered set value → AreByName set s w
opened set s w value view_is some are = by_name_from set s w some (subst (AreGathered set) (sym view_is) are)

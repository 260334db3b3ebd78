-- Suspects: as a message comes, and as the summaries are gone through.
use Rattle.std.proofs.Common.{◌≡◌, ℕ, Bool, true, false, not, List, [], ◌∷◌, ◌++◌, Option, Some, None, refl, sym, ap, ◌∙◌, subst, inl, inr}
use Rattle.std.specs.List.{Contains}
use Rattle.std.proofs.lemmas.List.Elements.{Contains-append_left, Contains-push_cases}
use Rattle.sudo_words.specs.declared.cmnd.Cmnd.{Cmnd}
use Rattle.messages.specs.Fields.{RequestFields}
use Rattle.messages.specs.Names.{IsNamed, name_of}
use Rattle.messages.specs.declared.request_name.RequestName.{RequestName}
use Rattle.messages.specs.declared.message.Message.{Message}
use Rattle.messages.specs.declared.message.Message.TheVariants.{Request, Verdict}
use Rattle.roster.specs.Fields.{CeilingFields, RosterFields}
use Rattle.roster.specs.Relations.{ceiling_at, eligible}
use Rattle.grants.specs.Summaries.{AreApprovals, Kept, StandsFor}
use Rattle.grants.specs.Verdicts.{IsDisputed, StandsAlone}
use Rattle.outcomes.specs.About.{name_in}
use Rattle.outcomes.proofs.Existence.{who_asks}
use Rattle.outcomes.proofs.Standing.{name_from_named}
use Rattle.suspects.specs.LookedAt.{AllCount, AreReviewed, AreSuspects, approval}

-- ---- a message more

-- a message about another name is none of those about this one
pub other_message : (set : List Message) (m n : Message) → (name_in m ≡ name_in n → ⊥) → Contains (set ++ m ∷ []) n → Contains set n
other_message set m n other there =
    elim (Contains-push_cases set m n there) as (λ _. Contains set n) [
      | inl old ↦ old
      | inr new ↦ absurd (other (ap name_in new))
    ]

alone_before : (set : List Message) (m : Message) (q : RequestFields) → (name_in m ≡ name_of q → ⊥) → StandsAlone (set ++ m ∷ []) q → StandsAlone set q
alone_before set m q other alone = record {
  asked = other_message set m (Request q) other alone.asked;
  alone = λ p asked same. alone.alone p (Contains-append_left set (m ∷ []) (Request p) asked) same;
}

pub count_still : (f : RosterFields Cmnd) (set : List Message) (m : Message) (name : RequestName)
    → (name_in m ≡ name → ⊥) → AllCount f set name → AllCount f (set ++ m ∷ []) name
count_still f set m name other count q c person at named alone ceiling given =
    let differ : name_in m ≡ name_of q → ⊥ = λ same. other (same ∙ name_from_named q name named) in
    count q c person at named (alone_before set m q differ alone) ceiling (other_message set m (Verdict (approval q person at)) differ given)

-- once the message's name is a suspect, all others are as they were
pub suspects_more : (f : RosterFields Cmnd) (set : List Message) (m : Message) (old new : List RequestName) → AreSuspects f set old
    → Contains new (name_in m) → ((name : RequestName) → Contains old name → Contains new name) → AreSuspects f (set ++ m ∷ []) new
suspects_more f set m old new before here stays name not_new =
    count_still f set m name (λ same. not_new (subst (Contains new) same here)) (before name (λ there. not_new (stays name there)))

-- ---- names under which nothing can be approved

disputed_twice : (set : List Message) (name : RequestName) (q : RequestFields) → IsDisputed set name → IsNamed q name → StandsAlone set q → ⊥
disputed_twice set name q two named alone =
    let first = alone.alone two.first two.first_asked (two.first_named.0 ∙ sym named.0, two.first_named.1 ∙ sym named.1) in
    let second = alone.alone two.second two.second_asked (two.second_named.0 ∙ sym named.0, two.second_named.1 ∙ sym named.1) in
    two.differ (first ∙ sym second)

pub count_in_dispute : (f : RosterFields Cmnd) (set : List Message) (name : RequestName) → IsDisputed set name → AllCount f set name
count_in_dispute f set name two q c person at named alone ceiling given = absurd (disputed_twice set name q two named alone)

pub not_alone_in_dispute : (set : List Message) (name : RequestName) (q : RequestFields) → IsDisputed set name → IsNamed q name → StandsAlone set q → ⊥
not_alone_in_dispute set name q two named alone = disputed_twice set name q two named alone

-- ---- all that are not listed count

-- names that are not listed, where each summary's name is listed or all approvals under it count
pub are_suspects : (f : RosterFields Cmnd) (set : List Message) (at : ℕ) (list : List Kept) (names : List RequestName) → AreReviewed f set at list
    → ((k : Kept) → Contains list k → (Contains names (name_of k.request) → ⊥) → AllCount f set (name_of k.request)) → AreSuspects f set names
are_suspects f set at list names are each name other =
    elim (who_asks set name) as (λ _. AllCount f set name) [
      | inr nobody ↦ λ q c person moment named alone ceiling given. absurd (nobody q alone.asked named)
      | inl found ↦
          let q = found.0 in
          let is : name_of q ≡ name = name_from_named q name found.2 in
          elim (are.all q found.1) as (λ _. AllCount f set name) [
            | inr over ↦ subst (AllCount f set) is over.all_count
            | inl kept ↦
                let same : name_of kept.0.request ≡ name = name_from_named kept.0.request (name_of q) kept.2 ∙ is in
                subst (AllCount f set) same
                (each kept.0 kept.1 (λ there. other (subst (Contains names) same there)))
          ]
    ]

-- ---- the approvals of a summary

-- a request that stands alone under a summary's name is the summary's
own_request : (set : List Message) (k : Kept) (q : RequestFields) → StandsFor set k → IsNamed q (name_of k.request) → StandsAlone set q → k.request ≡ q
own_request set k q stands named alone = alone.alone k.request stands.asked (sym named.0, sym named.1)

same_ceiling : (o : Option (CeilingFields Cmnd)) (c d : CeilingFields Cmnd) → o ≡ Some c → o ≡ Some d → c ≡ d
same_ceiling o c d first second = cc

no_ceiling : (o : Option (CeilingFields Cmnd)) (c : CeilingFields Cmnd) → o ≡ None → o ≡ Some c → ⊥
no_ceiling o c none some = let wrong : ◌≡◌ {A = Option (CeilingFields Cmnd)} None (Some c) = sym none ∙ some in absurd cc

module _ (f : RosterFields Cmnd) (set : List Message) (k : Kept) (stands : StandsFor set k) where
  -- under a ceiling that the roster has not, nobody can approve
  pub count_under_none : ceiling_at f k.request.ceiling ≡ None → AllCount f set (name_of k.request)
  count_under_none none q c person at named alone ceiling given =
      absurd (no_ceiling (ceiling_at f q.ceiling) c
      (subst (λ (r : RequestFields). ceiling_at f r.ceiling ≡ None) (own_request set k q stands named alone) none) ceiling)

  pub all_count : (c : CeilingFields Cmnd) (list : List (List ℕ × ℕ)) → ceiling_at f k.request.ceiling ≡ Some c → AreApprovals set k.request list
      → ((person : List ℕ) (at : ℕ) → Contains list (person, at) → eligible f person k.request.by c at ≡ true) → AllCount f set (name_of k.request)
  all_count c list is are each q d person at named alone ceiling given =
      let own = own_request set k q stands named alone in
      let here = subst (λ (r : RequestFields). ceiling_at f r.ceiling ≡ Some c) own is in
      let same : c ≡ d = same_ceiling (ceiling_at f q.ceiling) c d here ceiling in
      let told : Contains set (Verdict (approval k.request person at)) =
      subst (λ (r : RequestFields). Contains set (Verdict (approval r person at))) (sym own) given in
      let counts = each person at ((are.each person at).1 told) in
      subst (λ (r : RequestFields). eligible f person r.by d at ≡ true) own
      (subst (λ (e : CeilingFields Cmnd). eligible f person k.request.by e at ≡ true) same counts)

pub from_not : (b : Bool) → not b ≡ false → b ≡ true
from_not true is = refl
from_not false is = absurd cc

-- The grants in force at a moment, from what the summaries of a set give.
use Rattle.std.proofs.Common.{◌≡◌, ℕ, ◌≤◌, Bool, true, false, cond, ◌&&◌, leb, List, [], ◌∷◌, ◌++◌, Option, Some, None, refl, sym, ap, ◌∙◌, subst, inl, inr}
use Rattle.std.specs.List.{Contains}
use Rattle.std.proofs.lemmas.List.{append-nil}
use Rattle.std.proofs.lemmas.Bool.{and_parts, and_from, leb-true, le-leb}
use Rattle.sudo_words.specs.declared.cmnd.Cmnd.{Cmnd}
use Rattle.messages.specs.Fields.{RequestFields}
use Rattle.messages.specs.Names.{name_of}
use Rattle.messages.specs.declared.message.Message.{Message}
use Rattle.roster.specs.Fields.{RosterFields}
use Rattle.grants.specs.Statuses.{IsStatus, window_at}
use Rattle.grants.specs.Summaries.{Kept, StandsFor}
use Rattle.grants.specs.declared.outcome.Status.{Status}
use Rattle.grants.specs.declared.outcome.Status.TheVariants.{Disputed, Lapsed, Refused, Waiting, Void, Granted}
use Rattle.grants.specs.declared.outcome.Window.{Window}
use Rattle.outcomes.specs.private.InTurn.{Give, grant_of, grants_of, live_for}
use Rattle.messages.specs.Order.{AreInOrder}
use Rattle.outcomes.specs.Outcomes.{AreLive, IsLive, LiveGrant, LivePrecedes}
use Rattle.outcomes.proofs.GivenLists.{AsksPast, IsRollOf, given_by, given_in_order, gives}
use Rattle.outcomes.proofs.HostLines.{granted_moments, granted_name}
use Rattle.outcomes.proofs.Membership.{no_member, Contains-head, Contains-cases}
use Rattle.outcomes.proofs.Standing.{name_from_named}
use Rattle.outcomes.proofs.Windows.{between}

record IsGrant (at : ℕ) (q : RequestFields) (status : Status) (l : LiveGrant) : Type 0 where
  window : Window
  granted : status ≡ Granted window
  begun : window.start ≤ at
  lasts : at ≤ window.end
  grant_is : l ≡ grant_of q window

chosen : (b : Bool) (q : RequestFields) (w : Window) (l : LiveGrant) → Contains (grants_of q (cond b (Some w) None)) l → (b ≡ true) × (l ≡ grant_of q w)
chosen false q w l m = absurd (no_member l m)
chosen true q w l m = (refl, only)
  where
    only : l ≡ grant_of q w
    only = elim (Contains-cases (grant_of q w) [] l m) as (λ _. l ≡ grant_of q w) [ inl same ↦ sym same | inr none ↦ absurd (no_member l none) ]

grant_in : (at : ℕ) (q : RequestFields) (status : Status) (l : LiveGrant) → Contains (live_for at q status) l → IsGrant at q status l
grant_in at q Disputed l m = absurd (no_member l m)
grant_in at q Lapsed l m = absurd (no_member l m)
grant_in at q Refused l m = absurd (no_member l m)
grant_in at q Waiting l m = absurd (no_member l m)
grant_in at q Void l m = absurd (no_member l m)
grant_in at q (Granted w) l m =
    let found = chosen (leb w.start at && leb at w.end) q w l m in
    let both = and_parts (leb w.start at) (leb at w.end) found.0 in
    record { window = w; granted = refl; begun = leb-true w.start at both.0; lasts = leb-true at w.end both.1; grant_is = found.1 }

own_name : (at : ℕ) (q : RequestFields) (status : Status) (l : LiveGrant) → Contains (live_for at q status) l → l.name ≡ name_of q
own_name at q status l m = ap (λ (x : LiveGrant). x.name) (grant_in at q status l m).grant_is

either_ordered : (b : Bool) (q : RequestFields) (w : Window) → AreInOrder LivePrecedes (grants_of q (cond b (Some w) None))
either_ordered true q w = (tt, tt)
either_ordered false q w = tt

each_ordered : (at : ℕ) (q : RequestFields) (status : Status) → AreInOrder LivePrecedes (live_for at q status)
each_ordered at q Disputed = tt
each_ordered at q Lapsed = tt
each_ordered at q Refused = tt
each_ordered at q Waiting = tt
each_ordered at q Void = tt
each_ordered at q (Granted w) = either_ordered (leb w.start at && leb at w.end) q w

module _ (f : RosterFields Cmnd) (set : List Message) (at : ℕ) (ks : List Kept)
    (roll : IsRollOf set (AsksPast at) ks) (list : List LiveGrant) (given : Give f set (live_for at) ks list) where
  is_live : (k : Kept) (status : Status) (l : LiveGrant) → StandsFor set k
      → IsStatus f set (name_of k.request) status → IsGrant at k.request status l → IsLive f set at l
  is_live k status l stands is i =
      let w = i.window in
      let moments = granted_moments f set k w stands (subst (IsStatus f set (name_of k.request)) i.granted is) in
      subst (IsLive f set at) (sym i.grant_is) (record {
        request = k.request;
        named = (refl, refl);
        ceiling_is = refl;
        inside = between f set k.request w.start at w.end moments.0.inside moments.1.inside i.begun i.lasts;
        first = moments.0;
        last = moments.1;
      })

  each_live : (l : LiveGrant) → Contains list l → IsLive f set at l
  each_live l among =
      let found = given_by f set (live_for at) ks list given l among in
      is_live found.k found.status l (roll.stands found.k found.among) found.status_is (grant_in at found.k.request found.status l found.given)

  grant_inside : (l : LiveGrant) (is : IsLive f set at l) → Contains (live_for at is.request (Granted l.window)) l
  grant_inside l is =
      let w = l.window in
      let test : (leb w.start at && leb at w.end) ≡ true =
      and_from (leb w.start at) (leb at w.end) (le-leb w.start at (is.first.least at is.inside)) (le-leb at w.end (is.last.greatest at is.inside)) in
      let named : name_of is.request ≡ l.name = name_from_named is.request l.name is.named in
      let same : grant_of is.request w ≡ l = rw (named, sym is.ceiling_is) refl in
      subst (λ (b : Bool). Contains (grants_of is.request (cond b (Some w) None)) l) (sym test)
      (subst (Contains (grant_of is.request w ∷ [])) same (Contains-head (grant_of is.request w) []))

  all_live : (l : LiveGrant) → IsLive f set at l → Contains list l
  all_live l is =
      let found = roll.alone is.request is.inside.alone (le-leb at is.request.until is.inside.until) in
      let status : Status = Granted l.window in
      let here = subst (λ (q : RequestFields). IsStatus f set (name_of q) status) (sym found.2)
      (granted_name f set is.request l.window.start l.window.end is.first is.last) in
      gives f set (live_for at) ks list given found.0 found.1 status here l
      (subst (λ (q : RequestFields). Contains (live_for at q status) l) (sym found.2) (grant_inside l is))

  pub are_live : AreLive f set at list
  are_live = record {
    in_order =
        given_in_order f set (live_for at) LivePrecedes (λ (l : LiveGrant). l.name) (own_name at) (each_ordered at) (λ x y b. b) ks list roll.in_order given;
    each = each_live;
    all = all_live;
  }

-- ---- one more

pub pushed : (q r : RequestFields) (at : ℕ) (status : Status) (w : Window) (old new : List LiveGrant) (l : LiveGrant)
    → window_at at status ≡ Some w → r ≡ q → l ≡ grant_of r w → new ≡ old ++ l ∷ [] → new ≡ old ++ live_for at q status
pushed q r at status w old new l e same is more =
    more ∙ ap (λ (x : LiveGrant). old ++ x ∷ []) (is ∙ ap (λ (x : RequestFields). grant_of x w) same) ∙ ap (λ (o : Option Window). old ++ grants_of q o) (sym e)

pub not_pushed : (q : RequestFields) (at : ℕ) (status : Status) (old : List LiveGrant) → window_at at status ≡ None → old ≡ old ++ live_for at q status
not_pushed q at status old e =
    sym (append-nil old) ∙ ap (λ (o : Option Window). old ++ grants_of q o) (sym e)

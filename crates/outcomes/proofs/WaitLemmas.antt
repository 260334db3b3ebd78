-- The verdicts that wait by name, as a set grows.
use Rattle.std.proofs.Common.{◌≡◌, ◌⊎◌, List, [], ◌∷◌, ◌++◌, Option, Vec, sym, ap, ◌∙◌, subst, inl, inr}
use Rattle.std.specs.List.{Contains}
use Rattle.std.specs.BTreeMap.{BTreeMap, IsOrdered}
use Rattle.std.specs.declared.alloc.Global.{Global}
use Rattle.std.proofs.lemmas.List.Elements.{Contains-append_left, Contains-push, Contains-push_cases}
use Rattle.messages.specs.Fields.{RequestFields, VerdictFields}
use Rattle.messages.specs.Names.{NobodyAsks, name_cmp, name_meant, name_of}
use Rattle.messages.specs.declared.request_name.RequestName.{RequestName}
use Rattle.messages.specs.declared.message.Message.{Message}
use Rattle.messages.specs.declared.message.Message.TheVariants.{Request, Verdict}
use Rattle.outcomes.specs.Parked.{IsParked}
use Rattle.outcomes.specs.private.ByName.{Waits, listed, verdicts_at}
use Rattle.outcomes.proofs.Membership.{no_member}
use Rattle.outcomes.proofs.NameMaps.{at_none, same_cases}
use Rattle.outcomes.proofs.Standing.{name_from_named, named_from_name}

one_request : (p q : RequestFields) → ◌≡◌ {A = Message} (Request p) (Request q) → p ≡ q
one_request p q e = cc

one_verdict : (v w : VerdictFields) → ◌≡◌ {A = Message} (Verdict v) (Verdict w) → v ≡ w
one_verdict v w e = cc

abbrev pub Waiting : Type 0
Waiting = BTreeMap RequestName (Vec VerdictFields Global)

-- ---- which verdicts are parked, once a message comes

module _ (set : List Message) where
  pub nobody_before : (m : Message) (name : RequestName) → NobodyAsks (set ++ m ∷ []) name → NobodyAsks set name
  nobody_before m name nobody = λ q old named. nobody q (Contains-append_left set (m ∷ []) (Request q) old) named

  pub nobody_with_verdict : (v : VerdictFields) (name : RequestName) → NobodyAsks set name → NobodyAsks (set ++ Verdict v ∷ []) name
  nobody_with_verdict v name nobody = λ q h named.
      elim (Contains-push_cases set (Verdict v) (Request q) h) as (λ _. ⊥) [ inl old ↦ nobody q old named | inr wrong ↦ absurd cc ]

  nobody_with_request : (q : RequestFields) (name : RequestName) → (name_of q ≡ name → ⊥) → NobodyAsks set name → NobodyAsks (set ++ Request q ∷ []) name
  nobody_with_request q name other nobody = λ p h named.
      elim (Contains-push_cases set (Request q) (Request p) h) as (λ _. ⊥) [
        | inl old ↦ nobody p old named
        | inr new ↦ other (ap name_of (one_request q p new) ∙ name_from_named p name named)
      ]

  still_parked : (v w : VerdictFields) → IsParked set w → IsParked (set ++ Verdict v ∷ []) w
  still_parked v w is = record {
    given = Contains-append_left set (Verdict v ∷ []) (Verdict w) is.given;
    waits = nobody_with_verdict v (name_meant w) is.waits;
  }

  parked_cases : (v w : VerdictFields) → IsParked (set ++ Verdict v ∷ []) w → IsParked set w ⊎ (v ≡ w)
  parked_cases v w is =
      elim (Contains-push_cases set (Verdict v) (Verdict w) is.given) as (λ _. IsParked set w ⊎ (v ≡ w)) [
        | inl old ↦ inl (record { given = old; waits = nobody_before (Verdict v) (name_meant w) is.waits })
        | inr new ↦ inr (one_verdict v w new)
      ]

  parked_beside : (q : RequestFields) (w : VerdictFields) → (name_meant w ≡ name_of q → ⊥) → IsParked set w → IsParked (set ++ Request q ∷ []) w
  parked_beside q w other is = record {
    given = Contains-append_left set (Request q ∷ []) (Verdict w) is.given;
    waits = nobody_with_request q (name_meant w) (λ same. other (sym same)) is.waits;
  }

  parked_before : (q : RequestFields) (w : VerdictFields) → IsParked (set ++ Request q ∷ []) w → IsParked set w
  parked_before q w is = record {
    given = elim (Contains-push_cases set (Request q) (Verdict w) is.given) as (λ _. Contains set (Verdict w)) [ inl old ↦ old | inr wrong ↦ absurd cc ];
    waits = nobody_before (Request q) (name_meant w) is.waits;
  }

  not_asked : (q : RequestFields) (w : VerdictFields) → IsParked (set ++ Request q ∷ []) w → name_meant w ≡ name_of q → ⊥
  not_asked q w is same = is.waits q (Contains-push set (Request q)) (named_from_name q (name_meant w) (sym same))

-- ---- nothing waits

pub none_waits : (m : Waiting) → IsOrdered name_cmp m → m.entries ≡ [] → Waits [] m
none_waits m ordered empty = record {
  ordered = ordered;
  each = λ name v. (
    λ among. absurd (no_member v (subst (λ (o : Option (Vec VerdictFields Global)). Contains (listed o) v) (at_none m name empty) among)),
    λ both. absurd (no_member (Verdict v) both.1.given),
  );
}

-- ---- the same waits

pub wait_still : (set : List Message) (old new : Waiting) → IsOrdered name_cmp new
    → ((name : RequestName) → verdicts_at new name ≡ verdicts_at old name) → Waits set old → Waits set new
wait_still set old new ordered same waits = record {
  ordered = ordered;
  each = λ name v. (
    λ among. (waits.each name v).0 (subst (λ (vs : List VerdictFields). Contains vs v) (same name) among),
    λ both. subst (λ (vs : List VerdictFields). Contains vs v) (sym (same name)) ((waits.each name v).1 both),
  );
}

-- ---- a request comes

-- where it is the first of its name, nothing waits there any longer
pub waits_first : (set : List Message) (q : RequestFields) (old new : Waiting) → IsOrdered name_cmp new → verdicts_at new (name_of q) ≡ []
    → ((other : RequestName) → (name_of q ≡ other → ⊥) → verdicts_at new other ≡ verdicts_at old other) → Waits set old → Waits (set ++ Request q ∷ []) new
waits_first set q old new ordered taken others waits = record { ordered = ordered; each = λ name v. at name v (same_cases (name_of q) name) }
  where
    at : (name : RequestName) (v : VerdictFields) → (name_of q ≡ name) ⊎ (name_of q ≡ name → ⊥)
        → (Contains (verdicts_at new name) v → (name_meant v ≡ name) × IsParked (set ++ Request q ∷ []) v)
        × ((name_meant v ≡ name) × IsParked (set ++ Request q ∷ []) v → Contains (verdicts_at new name) v)
    at name v (inl same) = (
      λ among. absurd (no_member v (subst (λ (vs : List VerdictFields). Contains vs v) (ap (verdicts_at new) (sym same) ∙ taken) among)),
      λ both. absurd (not_asked set q v both.1 (both.0 ∙ sym same)),
    )
    at name v (inr differ) = (
      λ among.
          let was = (waits.each name v).0 (subst (λ (vs : List VerdictFields). Contains vs v) (others name differ) among) in
          (was.0, parked_beside set q v (λ is. differ (sym is ∙ was.0)) was.1),
      λ both. subst (λ (vs : List VerdictFields). Contains vs v) (sym (others name differ)) ((waits.each name v).1 (both.0, parked_before set q v both.1)),
    )

-- if somebody already asks under its name
pub waits_again : (set : List Message) (q : RequestFields) (m : Waiting) → (NobodyAsks set (name_of q) → ⊥) → Waits set m → Waits (set ++ Request q ∷ []) m
waits_again set q m asked waits = record {
  ordered = waits.ordered;
  each = λ name v. (
    λ among.
        let was = (waits.each name v).0 among in
        (was.0, parked_beside set q v (λ same. asked (subst (NobodyAsks set) same was.1.waits)) was.1),
    λ both. (waits.each name v).1 (both.0, parked_before set q v both.1),
  );
}

-- ---- a verdict comes

-- a verdict whose request is there
pub waits_heard : (set : List Message) (v : VerdictFields) (m : Waiting) → (NobodyAsks set (name_meant v) → ⊥) → Waits set m → Waits (set ++ Verdict v ∷ []) m
waits_heard set v m asked waits = record {
  ordered = waits.ordered;
  each = λ name w. (
    λ among. let was = (waits.each name w).0 among in (was.0, still_parked set v w was.1),
    λ both. elim (parked_cases set v w both.1) as (λ _. Contains (verdicts_at m name) w) [
      | inl old ↦ (waits.each name w).1 (both.0, old)
      | inr new ↦ absurd (asked (nobody_before set (Verdict v) (name_meant v)
          (subst (λ (x : VerdictFields). NobodyAsks (set ++ Verdict v ∷ []) (name_meant x)) (sym new) both.1.waits)))
    ],
  );
}

-- a verdict that has to wait
pub waits_more : (set : List Message) (v : VerdictFields) (old new : Waiting) → NobodyAsks set (name_meant v)
    → IsOrdered name_cmp new → verdicts_at new (name_meant v) ≡ verdicts_at old (name_meant v) ++ v ∷ []
    → ((other : RequestName) → (name_meant v ≡ other → ⊥) → verdicts_at new other ≡ verdicts_at old other) → Waits set old → Waits (set ++ Verdict v ∷ []) new
waits_more set v old new nobody ordered more others waits = record { ordered = ordered; each = λ name w. at name w (same_cases (name_meant v) name) }
  where
    mine : IsParked (set ++ Verdict v ∷ []) v
    mine = record { given = Contains-push set (Verdict v); waits = nobody_with_verdict set v (name_meant v) nobody }

    at : (name : RequestName) (w : VerdictFields) → (name_meant v ≡ name) ⊎ (name_meant v ≡ name → ⊥)
        → (Contains (verdicts_at new name) w → (name_meant w ≡ name) × IsParked (set ++ Verdict v ∷ []) w)
        × ((name_meant w ≡ name) × IsParked (set ++ Verdict v ∷ []) w → Contains (verdicts_at new name) w)
    at name w (inl same) =
        let is : verdicts_at new name ≡ verdicts_at old name ++ v ∷ [] =
        subst (λ (n : RequestName). verdicts_at new n ≡ verdicts_at old n ++ v ∷ []) same more in (
          λ among. elim (Contains-push_cases (verdicts_at old name) v w (subst (λ (vs : List VerdictFields). Contains vs w) is among))
              as (λ _. (name_meant w ≡ name) × IsParked (set ++ Verdict v ∷ []) w) [
                | inl there ↦ let was = (waits.each name w).0 there in (was.0, still_parked set v w was.1)
                | inr new ↦ subst (λ (x : VerdictFields). (name_meant x ≡ name) × IsParked (set ++ Verdict v ∷ []) x) new (same, mine)
              ],
          λ both. subst (λ (vs : List VerdictFields). Contains vs w) (sym is)
              (elim (parked_cases set v w both.1) as (λ _. Contains (verdicts_at old name ++ v ∷ []) w) [
                | inl was ↦ Contains-append_left (verdicts_at old name) (v ∷ []) w ((waits.each name w).1 (both.0, was))
                | inr new ↦ subst (Contains (verdicts_at old name ++ v ∷ [])) new (Contains-push (verdicts_at old name) v)
              ]),
        )
    at name w (inr differ) = (
      λ among.
          let was = (waits.each name w).0 (subst (λ (vs : List VerdictFields). Contains vs w) (others name differ) among) in
          (was.0, still_parked set v w was.1),
      λ both. subst (λ (vs : List VerdictFields). Contains vs w) (sym (others name differ))
          (elim (parked_cases set v w both.1) as (λ _. Contains (verdicts_at old name) w) [
            | inl was ↦ (waits.each name w).1 (both.0, was)
            | inr new ↦ absurd (differ (ap name_meant new ∙ both.0))
          ]),
    )

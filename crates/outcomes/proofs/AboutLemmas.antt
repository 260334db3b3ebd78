-- The messages about a name, from what is known of the set.
use Rattle.std.proofs.Common.{◌≡◌, ◌∙◌, ℕ, true, List, [], ◌∷◌, map, Option, Some, None, Vec, Global, refl, ap, sym, subst, inl, inr}
use Rattle.std.specs.List.{Contains}
use Rattle.sudo_words.specs.Word.{is_name}
use Rattle.messages.specs.Fields.{RequestFields, VerdictFields}
use Rattle.messages.specs.Names.{IsAbout, NobodyAsks, SameMessages, name_meant, name_of}
use Rattle.messages.specs.Wire.{IsMessage}
use Rattle.messages.specs.declared.message.Message.{Message}
use Rattle.messages.specs.declared.message.Message.TheVariants.{Request, Verdict}
use Rattle.messages.specs.declared.request_name.RequestName.{RequestName}
use Rattle.grants.specs.Summaries.{AreVerdictsOn}
use Rattle.grants.specs.Verdicts.{StandsAlone}
use Rattle.outcomes.specs.About.{AreAbout, AreTold, name_in}
use Rattle.outcomes.specs.Parked.{IsParked}
use Rattle.outcomes.proofs.GatherLemmas.{among_messages, among_verdicts, no_request, of_verdict}
use Rattle.outcomes.proofs.Membership.{no_member, Contains-head, Contains-behind, Contains-cases}
use Rattle.outcomes.proofs.Standing.{named_from_name}

-- ---- of a name that somebody asks under

meant_from_about : (q : RequestFields) (v : VerdictFields) → IsAbout q v → name_meant v ≡ name_of q
meant_from_about q v about =
    ap (λ (by : List ℕ). record { by = by; no = v.no }) about.0 ∙ ap (λ (no : ℕ). record { by = q.by; no = no }) about.1

about_from_meant : (q : RequestFields) (v : VerdictFields) → name_meant v ≡ name_of q → IsAbout q v
about_from_meant q v same = (ap (λ (n : RequestName). n.by) same, ap (λ (n : RequestName). n.no) same)

module _ (set : List Message) (q : RequestFields) (vs : List VerdictFields) (alone : StandsAlone set q) (verdicts : AreVerdictsOn set q vs) where
  abbrev asked : List Message
  asked = Request q ∷ map of_verdict vs

  of_asked : (m : Message) → Contains (map of_verdict vs) m → Contains set m × (name_in m ≡ name_of q)
  of_asked (Request p) m = absurd (no_request vs p m)
  of_asked (Verdict v) m = let is = (verdicts v).0 (among_verdicts vs v m) in (is.0, meant_from_about q v is.1)

  from_asked : (m : Message) → Contains asked m → Contains set m × (name_in m ≡ name_of q)
  from_asked m among =
      elim (Contains-cases (Request q) (map of_verdict vs) m among) as (λ _. Contains set m × (name_in m ≡ name_of q)) [
        | inl same ↦ subst (λ (n : Message). Contains set n × (name_in n ≡ name_of q)) same (alone.asked, refl)
        | inr later ↦ of_asked m later
      ]

  to_asked : (m : Message) → Contains set m × (name_in m ≡ name_of q) → Contains asked m
  to_asked (Request p) both =
      let same : p ≡ q = alone.alone p both.0 (named_from_name p (name_of q) both.1) in
      subst (λ (r : RequestFields). Contains asked (Request r)) (sym same) (Contains-head (Request q) (map of_verdict vs))
  to_asked (Verdict v) both =
      let kept : Contains vs v = (verdicts v).1 (both.0, about_from_meant q v both.1) in
      Contains-behind (Request q) (map of_verdict vs) (Verdict v) (among_messages vs v kept)

  pub about_asked : AreAbout set (name_of q) asked
  about_asked = λ m. (from_asked m, to_asked m)

-- ---- of a name that nobody asks under

module _ (set : List Message) (name : RequestName) (vs : List VerdictFields) (nobody : NobodyAsks set name) (waiting : (v : VerdictFields)
    → (Contains vs v → (name_meant v ≡ name) × IsParked set v) × ((name_meant v ≡ name) × IsParked set v → Contains vs v)) where
  from_waiting : (m : Message) → Contains (map of_verdict vs) m → Contains set m × (name_in m ≡ name)
  from_waiting (Request p) m = absurd (no_request vs p m)
  from_waiting (Verdict v) m = let is = (waiting v).0 (among_verdicts vs v m) in (is.1.given, is.0)

  to_waiting : (m : Message) → Contains set m × (name_in m ≡ name) → Contains (map of_verdict vs) m
  to_waiting (Request p) both = absurd (nobody p both.0 (named_from_name p name both.1))
  to_waiting (Verdict v) both =
      let parked : IsParked set v = record { given = both.0; waits = subst (NobodyAsks set) (sym both.1) nobody } in
      among_messages vs v ((waiting v).1 (both.1, parked))

  pub about_waiting : AreAbout set name (map of_verdict vs)
  about_waiting = λ m. (from_waiting m, to_waiting m)

-- ---- of a name that nobody can have

module _ (set : List Message) (asker : List ℕ) (number : ℕ) (messages : (m : Message) → Contains set m → IsMessage m)
    (unlawful : is_name asker ≡ true → ⊥) where
  abbrev named : RequestName
  named = record { by = asker; no = number }

  nothing_said : (m : Message) → Contains set m → name_in m ≡ named → ⊥
  nothing_said (Request q) there same =
      let by : q.by ≡ asker = ap (λ (n : RequestName). n.by) same in
      unlawful (subst (λ (w : List ℕ). is_name w ≡ true) by (messages (Request q) there).by)
  nothing_said (Verdict v) there same =
      let of : v.of ≡ asker = ap (λ (n : RequestName). n.by) same in
      unlawful (subst (λ (w : List ℕ). is_name w ≡ true) of (messages (Verdict v) there).of)

  pub about_nobody : (list : List Message) → list ≡ [] → AreAbout set named list
  about_nobody list none = λ m. (
    (λ among. absurd (no_member m (subst (λ (ms : List Message). Contains ms m) none among))),
    (λ both. absurd (nothing_said m both.0 both.1)),
  )

-- ---- what is told of one list of the set is told of each

pub told_of_set : (s t : List Message) (name : RequestName) (o : Option (Vec Message Global)) → SameMessages s t → AreTold s name o → AreTold t name o
told_of_set s t name None same is = record {
  first = is.first;
  second = is.second;
  first_asked = (same (Request is.first)).0 is.first_asked;
  second_asked = (same (Request is.second)).0 is.second_asked;
  first_named = is.first_named;
  second_named = is.second_named;
  differ = is.differ;
}
told_of_set s t name (Some list) same are = λ m. (
  (λ among. let is = (are m).0 among in ((same m).0 is.0, is.1)),
  (λ both. (are m).1 ((same m).1 both.0, both.1)),
)

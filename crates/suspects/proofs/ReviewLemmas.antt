-- What a report looks at: all summaries, or those of a part of the messages.
use Rattle.std.proofs.Common.{◌≡◌, ◌⊎◌, ℕ, List, [], ◌∷◌, ◌++◌, map, refl, ap, ◌∙◌, subst, inl, inr}
use Rattle.std.specs.List.{Contains}
use Rattle.std.proofs.lemmas.List.Elements.{Contains-append_left, Contains-append_right}
use Rattle.sudo_words.specs.declared.cmnd.Cmnd.{Cmnd}
use Rattle.sudo_words.proofs.Lists.{contains_map}
use Rattle.messages.specs.Names.{IsNamed, SameMessages, name_of}
use Rattle.messages.specs.declared.request_name.RequestName.{RequestName}
use Rattle.messages.specs.declared.message.Message.{Message}
use Rattle.messages.specs.declared.message.Message.TheVariants.{Request, Verdict}
use Rattle.roster.specs.Fields.{RosterFields}
use Rattle.grants.specs.Summaries.{Kept}
use Rattle.grants.specs.Verdicts.{IsDisputed}
use Rattle.outcomes.specs.About.{name_in}
use Rattle.outcomes.specs.Gathered.{Known}
use Rattle.outcomes.specs.Outcomes.{AreLive, LiveGrant}
use Rattle.outcomes.specs.Summaries.{AreSummaries}
use Rattle.outcomes.proofs.Membership.{no_member, Contains-head, Contains-behind, Contains-cases}
use Rattle.outcomes.proofs.NameMaps.{same_cases}
use Rattle.outcomes.proofs.SetLemmas.{alike_sets, live_one_alike}
use Rattle.outcomes.proofs.Standing.{Mentions, stands_in, stands_same}
use Rattle.suspects.specs.LookedAt.{AreReviewed, AreSuspects, MayBePassedOver, approval}
use Rattle.suspects.specs.private.Parts.{IsPartFor}
use Rattle.suspects.proofs.SuspectLemmas.{count_in_dispute, not_alone_in_dispute}

-- where all summaries are there, no name is passed over
pub all_reviewed : (f : RosterFields Cmnd) (set : List Message) (at : ℕ) (list : List Kept) → AreSummaries set list → AreReviewed f set at list
all_reviewed f set at list are = record { in_order = are.in_order; each = are.each; all = λ q asked. inl (are.all q asked) }

is_listed : (names : List RequestName) (name : RequestName) → Contains names name ⊎ (Contains names name → ⊥)
is_listed [] name = inr (λ there. no_member name there)
is_listed (n ∷ names) name =
    elim (same_cases n name) as (λ _. Contains (n ∷ names) name ⊎ (Contains (n ∷ names) name → ⊥)) [
      | inl same ↦ inl (subst (Contains (n ∷ names)) same (Contains-head n names))
      | inr other ↦ elim (is_listed names name) as (λ _. Contains (n ∷ names) name ⊎ (Contains (n ∷ names) name → ⊥)) [
        | inl later ↦ inl (Contains-behind n names name later)
        | inr apart ↦ inr (λ there. elim (Contains-cases n names name there) as (λ _. ⊥) [ inl same ↦ other same | inr later ↦ apart later ])
      ]
    ]

mentioned : (m : Message) (name : RequestName) → Mentions m name → name_in m ≡ name
mentioned (Request q) name is = is
mentioned (Verdict v) name is = is

-- a disputed name is not in force, and nobody's approval under it is told
over_in_dispute : (f : RosterFields Cmnd) (set : List Message) (at : ℕ) (name : RequestName) → IsDisputed set name → MayBePassedOver f set at name
over_in_dispute f set at name two = record {
  not_live = λ l live same. not_alone_in_dispute set name live.request two
      (live.named.0 ∙ ap (λ (n : RequestName). n.by) same, live.named.1 ∙ ap (λ (n : RequestName). n.no) same) live.inside.alone;
  all_count = count_in_dispute f set name two;
}

module _ (f : RosterFields Cmnd) (set : List Message) (at : ℕ) (suspects : List RequestName) (live : List LiveGrant) where
  abbrev looked_at : List RequestName
  looked_at = suspects ++ map (λ (l : LiveGrant). l.name) live

  -- what is not looked at
  passed_over : AreSuspects f set suspects → AreLive f set at live → (name : RequestName) → (Contains looked_at name → ⊥) → MayBePassedOver f set at name
  passed_over are in_force name apart = record {
    not_live = λ l is same. apart
        (subst (Contains looked_at) same
        (Contains-append_right suspects (map (λ (x : LiveGrant). x.name) live) l.name
        (contains_map (λ (x : LiveGrant). x.name) live l (in_force.all l is))));
    all_count = are name (λ there. apart (Contains-append_left suspects (map (λ (x : LiveGrant). x.name) live) name there));
  }

  -- the summaries of the part are what a report looks at
  pub part_reviewed : AreSuspects f set suspects → AreLive f set at live → (known : Known) (is : IsPartFor set looked_at known)
      → (list : List Kept) → AreSummaries is.part list → AreReviewed f set at list
  part_reviewed are in_force known is list summaries = record {
    in_order = summaries.in_order;
    each = λ k there.
        let stands = summaries.each k there in
        stands_in is.part set k (λ m about held. is.own m held)
        (λ m about held. is.whole (Request k.request) m stands.asked held (mentioned m (name_of k.request) about)) stands;
    all = λ q asked.
        let Told : Type 0 = ((k : Kept) × Contains list k × IsNamed k.request (name_of q)) ⊎ MayBePassedOver f set at (name_of q) in
        elim (is_listed looked_at (name_of q)) as (λ _. Told) [
          | inr apart ↦ inr (passed_over are in_force (name_of q) apart)
          | inl there ↦ elim (is.covers (name_of q) there) as (λ _. Told) [
            | inl two ↦ inr (over_in_dispute f set at (name_of q) two)
            | inr whole ↦ inl (summaries.all q (whole (Request q) asked refl))
          ]
        ];
  }

-- ---- the same messages in another list

-- whether a name may be passed over depends on the set alone
over_of_set : (f : RosterFields Cmnd) (s t : List Message) (at : ℕ) (name : RequestName) → SameMessages s t → MayBePassedOver f s at name
    → MayBePassedOver f t at name
over_of_set f s t at name same over = record {
  not_live = λ l live. over.not_live l (live_one_alike f t s (alike_sets f t s (λ m. ((same m).1, (same m).0))) at l live);
  all_count = λ q c person moment named alone ceiling given. over.all_count q c person moment named
      (record { asked = (same (Request q)).1 alone.asked; alone = λ p asked. alone.alone p ((same (Request p)).0 asked) })
      ceiling ((same (Verdict (approval q person moment))).1 given);
}

pub reviewed_of_set : (f : RosterFields Cmnd) (s t : List Message) (at : ℕ) (list : List Kept) → SameMessages s t → AreReviewed f s at list
    → AreReviewed f t at list
reviewed_of_set f s t at list same are = record {
  in_order = are.in_order;
  each = λ k there. stands_same s t k same (are.each k there);
  all = λ q asked. elim (are.all q ((same (Request q)).1 asked)) as
      (λ _. ((k : Kept) × Contains list k × IsNamed k.request (name_of q)) ⊎ MayBePassedOver f t at (name_of q)) [
        | inl found ↦ inl found
        | inr over ↦ inr (over_of_set f s t at (name_of q) same over)
      ];
}

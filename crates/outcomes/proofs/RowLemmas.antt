-- What is known of a set, from a row for each name with a request and from its verdicts.
use Rattle.std.proofs.Common.{◌≡◌, ◌≢◌, ◌⊎◌, Bool, true, false, suc, List, [], ◌∷◌, ◌++◌, map, Option, Some, None, refl, sym, ap, ◌∙◌, subst, inl, inr, arith}
use Rattle.std.specs.List.{Contains}
use Rattle.std.specs.Prelude.{Result, Ok, Err, IfOk}
use Rattle.std.specs.Option.{MatchOption}
use Rattle.std.specs.BTreeMap.{IsOrdered}
use Rattle.std.proofs.lemmas.Bool.{cases_Bool}
use Rattle.std.proofs.lemmas.List.Elements.{Contains-append_left, Contains-append_right, Contains-append_cases, Contains-push, Contains-push_cases}
use Rattle.messages.specs.Fields.{RequestFields, VerdictFields}
use Rattle.messages.specs.Names.{NobodyAsks, SameMessages, SameName, name_cmp, name_of}
use Rattle.messages.specs.NameRows.{IsMarked, ShowSet}
use Rattle.messages.specs.declared.name_row.NameRow.{NameRow}
use Rattle.messages.specs.declared.request_name.RequestName.{RequestName}
use Rattle.messages.specs.declared.message.Message.{Message}
use Rattle.messages.specs.declared.message.Message.TheVariants.{Request, Verdict}
use Rattle.messages.specs.declared.kind.VerdictKind.{VerdictKind}
use Rattle.messages.specs.declared.kind.VerdictKind.TheVariants.{Approve, Refuse, Revoke}
use Rattle.grants.specs.declared.marks.Mark.{Mark}
use Rattle.grants.specs.Marks.{Keep, verdict_of}
use Rattle.grants.specs.Summaries.{Kept, StandsFor}
use Rattle.outcomes.specs.Gathered.{AreGathered, Known}
use Rattle.outcomes.specs.private.ByName.{AreAlone, AreByName, Gathers, GathersRows, HasNoVerdict, IsRowOf, IsSummaryOf, NoRowOf, at_name, listed}
use Rattle.outcomes.proofs.ByNameLemmas.{Summaries}
use Rattle.outcomes.proofs.GatherLemmas.{IsAt, among_messages, among_verdicts, no_request, none_gathered, of_itself, of_verdict, still_at}
use Rattle.outcomes.proofs.Membership.{no_member, Contains-head, Contains-behind, Contains-cases}
use Rattle.outcomes.proofs.NameMaps.{SetsAt, at_none, same_cases}
use Rattle.outcomes.proofs.SetLemmas.{parked_one, turned_set}
use Rattle.outcomes.proofs.Standing.{name_from_named, named_from_name}
use Rattle.outcomes.proofs.SummaryLemmas.{summaries_of_set}
use Rattle.outcomes.proofs.WaitLemmas.{Waiting}

one_request : (p q : RequestFields) → ◌≡◌ {A = Message} (Request p) (Request q) → p ≡ q
one_request p q e = cc

abbrev In : List Message → Message → Type 0
In set m = Contains set m

-- ---- a summary before any verdict

module _ (S T : List Message) (k : Kept) (none : HasNoVerdict S) (bare : HasNoVerdict T) where
  keep_none : (kind : VerdictKind) (marks : List Mark) → Keep S k.request kind marks → Keep T k.request kind marks
  keep_none kind marks keep = record {
    each = λ mark. (
      λ m. absurd (none (verdict_of k.request kind mark) ((keep.each mark).0 m)),
      λ given. absurd (bare (verdict_of k.request kind mark) given),
    );
    once = keep.once;
  }

  -- a summary that stands for a set without verdicts stands for each such set in which its request is disputed or not as it says
  row_stands : Contains T (Request k.request) → IsMarked (In T) k.request k.is_disputed → StandsFor S k → StandsFor T k
  row_stands there marked stands = record {
    asked = there;
    alone = λ single. subst (IsMarked (In T) k.request) single marked;
    other = λ two. subst (IsMarked (In T) k.request) two marked;
    approvals = keep_none Approve k.approvals stands.approvals;
    refusals = keep_none Refuse k.refusals stands.refusals;
    revocations = keep_none Revoke k.revocations stands.revocations;
  }

single : (q : RequestFields) (k : Kept) → StandsFor (Request q ∷ []) k → k.is_disputed ≡ false
single q k stands = elim (cases_Bool k.is_disputed) as (λ _. k.is_disputed ≡ false) [
  | inl two ↦
      let found = stands.other two in
      absurd (elim (Contains-cases (Request q) [] (Request found.0) found.1) as (λ _. ⊥) [
        | inl same ↦ found.3 (sym (one_request q found.0 same) ∙ sym (of_itself q k stands))
        | inr none ↦ no_member (Request found.0) none
      ])
  | inr one ↦ one
]

double : (set : List Message) (p : RequestFields) (k : Kept) → SameName p k.request → p ≢ k.request → StandsFor (set ++ Request p ∷ []) k → k.is_disputed ≡ true
double set p k same differ stands = elim (cases_Bool k.is_disputed) as (λ _. k.is_disputed ≡ true) [
  | inl two ↦ two
  | inr one ↦ absurd (differ (stands.alone one p (Contains-push set (Request p)) same))
]

no_verdict_one : (q : RequestFields) → HasNoVerdict (Request q ∷ [])
no_verdict_one q v m = elim (Contains-cases (Request q) [] (Verdict v) m) as (λ _. ⊥) [ inl wrong ↦ absurd cc | inr none ↦ no_member (Verdict v) none ]

no_verdict_more : (set : List Message) (q : RequestFields) → HasNoVerdict set → HasNoVerdict (set ++ Request q ∷ [])
no_verdict_more set q bare v m = elim (Contains-push_cases set (Request q) (Verdict v) m) as (λ _. ⊥) [ inl old ↦ bare v old | inr wrong ↦ absurd cc ]

-- what is known of a result's value, both at once
pub both_of : {X Y : Type 0} (r : Result X Y) (P Q : X → Type 0) → IfOk r P → IfOk r Q → IfOk r (λ x. P x × Q x)
both_of (Ok x) P Q p q = (p, q)
both_of (Err y) P Q p q = tt

-- a summary of the row's request
module _ (set : List Message) (row : NameRow) (bare : HasNoVerdict set) (is : IsRowOf set row) where
  pub row_single : (k : Kept) → StandsFor (Request row.request ∷ []) k → row.is_disputed ≡ false → StandsFor set k
  row_single k stands one =
      let q_is : k.request ≡ row.request = of_itself row.request k stands in
      let P : RequestFields → Bool → Type 0 = λ q d. IsMarked (In set) q d in
      row_stands (Request row.request ∷ []) set k (no_verdict_one row.request) bare (subst (λ (q : RequestFields). Contains set (Request q)) (sym q_is) is.0)
      (subst (P k.request) (one ∙ sym (single row.request k stands)) (subst (λ (q : RequestFields). P q row.is_disputed) (sym q_is) is.1)) stands

  -- another request of its name
  pub other : row.is_disputed ≡ true → IsMarked (In set) row.request true
  other two = subst (IsMarked (In set) row.request) two is.1

  pub row_double : (two : row.is_disputed ≡ true) (k : Kept) → k.request ≡ row.request
      → StandsFor (Request row.request ∷ Request (other two).0 ∷ []) k → StandsFor set k
  row_double two k q_is stands =
      let q = row.request in
      let found = other two in
      let p = found.0 in
      let now : k.is_disputed ≡ true =
      double (Request q ∷ []) p k (subst (SameName p) (sym q_is) found.2) (subst (λ (r : RequestFields). p ≢ r) (sym q_is) found.3) stands in
      row_stands ((Request q ∷ []) ++ Request p ∷ []) set k (no_verdict_more (Request q ∷ []) p (no_verdict_one q)) bare
      (subst (λ (r : RequestFields). Contains set (Request r)) (sym q_is) is.0)
      (subst (IsMarked (In set) k.request) (sym now) (subst (λ (r : RequestFields). IsMarked (In set) r true) (sym q_is) found)) stands

-- ---- rows in turn

no_row_more : (rows : List NameRow) (row : NameRow) (name : RequestName)
    → (name_of row.request ≡ name → ⊥) → NoRowOf rows name → NoRowOf (rows ++ row ∷ []) name
no_row_more rows row name other none r m named = elim (Contains-push_cases rows row r m) as (λ _. ⊥) [
  | inl old ↦ none r old named
  | inr new ↦ other (ap (λ (x : NameRow). name_of x.request) new ∙ name_from_named r.request name named)
]

abbrev IsRowAt : List Message → List NameRow → RequestName → Option Kept → Type 0
IsRowAt set rows name o = MatchOption o (NoRowOf rows name) (IsSummaryOf set name)

row_still : (set : List Message) (rows : List NameRow) (row : NameRow) (name : RequestName)
    → (name_of row.request ≡ name → ⊥) → (o : Option Kept) → IsRowAt set rows name o → IsRowAt set (rows ++ row ∷ []) name o
row_still set rows row name other None none = no_row_more rows row name other none
row_still set rows row name other (Some k) is = is

module _ (set : List Message) (rows : List NameRow) (row : NameRow) where
  -- a row of a name that has one already
  pub rows_again : (s : Summaries) (k : Kept) → at_name s (name_of row.request) ≡ Some k → GathersRows set rows s → GathersRows set (rows ++ row ∷ []) s
  rows_again s k there g = record { ordered = g.ordered; each = λ name. at name (same_cases (name_of row.request) name) }
    where
      here : IsRowAt set (rows ++ row ∷ []) (name_of row.request) (at_name s (name_of row.request))
      here = subst (IsRowAt set (rows ++ row ∷ []) (name_of row.request)) (sym there)
          (subst (IsRowAt set rows (name_of row.request)) there (g.each (name_of row.request)))

      at : (name : RequestName) → (name_of row.request ≡ name) ⊎ (name_of row.request ≡ name → ⊥) → IsRowAt set (rows ++ row ∷ []) name (at_name s name)
      at name (inl same) = subst (λ (n : RequestName). IsRowAt set (rows ++ row ∷ []) n (at_name s n)) same here
      at name (inr differ) = row_still set rows row name differ (at_name s name) (g.each name)

  -- the first row of its name
  pub rows_first : (old new : Summaries) (k : Kept) → SetsAt old new (name_of row.request) k → IsOrdered name_cmp new
      → k.request ≡ row.request → StandsFor set k → GathersRows set rows old → GathersRows set (rows ++ row ∷ []) new
  rows_first old new k sets ordered same stands g = record { ordered = ordered; each = λ name. at name (same_cases (name_of row.request) name) }
    where
      mine : IsSummaryOf set (name_of row.request) k
      mine = record { named = named_from_name k.request (name_of row.request) (ap name_of same); stands = stands }

      here : IsRowAt set (rows ++ row ∷ []) (name_of row.request) (at_name new (name_of row.request))
      here = subst (IsRowAt set (rows ++ row ∷ []) (name_of row.request)) (sym sets.here) mine

      at : (name : RequestName) → (name_of row.request ≡ name) ⊎ (name_of row.request ≡ name → ⊥) → IsRowAt set (rows ++ row ∷ []) name (at_name new name)
      at name (inl is) = subst (λ (n : RequestName). IsRowAt set (rows ++ row ∷ []) n (at_name new n)) is here
      at name (inr differ) =
          subst (IsRowAt set (rows ++ row ∷ []) name) (sym (sets.elsewhere name differ)) (row_still set rows row name differ (at_name old name) (g.each name))

pub no_rows : (set : List Message) (s : Summaries) → IsOrdered name_cmp s → s.entries ≡ [] → GathersRows set [] s
no_rows set s ordered empty = record {
  ordered = ordered;
  each = λ name. subst (IsRowAt set [] name) (sym (at_none s name empty)) (λ row m named. no_member row m);
}

pub rows_gathered : (set : List Message) (rows : List NameRow) (s : Summaries) → ShowSet (In set) rows [] → GathersRows set rows s → Gathers set s
rows_gathered set rows s show g = record { ordered = g.ordered; each = λ name. at name (at_name s name) (g.each name) }
  where
    at : (name : RequestName) (o : Option Kept) → IsRowAt set rows name o → IsAt set name o
    at name None none = λ q asked named.
        let row = show.all q asked in none row.0 row.1 (row.2.0 ∙ named.0, row.2.1 ∙ named.1)
    at name (Some k) is = is

-- ---- some set has these rows

-- another request of the name
abbrev other_of : RequestFields → RequestFields
other_of q = record {
  at = suc q.at;
  by = q.by;
  ceiling = q.ceiling;
  cmnds = q.cmnds;
  from = q.from;
  hosts = q.hosts;
  no = q.no;
  runas = q.runas;
  until = q.until;
}

abbrev beside : RequestFields → Bool → RequestFields
beside q true = other_of q
beside q false = q

beside_named : (q : RequestFields) (d : Bool) → name_of (beside q d) ≡ name_of q
beside_named q true = refl
beside_named q false = refl

is_other : (q : RequestFields) → other_of q ≡ q → ⊥
is_other q e = let at : suc q.at ≡ q.at = ap (λ (r : RequestFields). r.at) e in absurd (omega (arith, at))

module _ (some : List Message) (row : NameRow) (nobody : NobodyAsks some (name_of row.request)) where
  abbrev with_row : List Message
  with_row = (some ++ Request row.request ∷ []) ++ Request (beside row.request row.is_disputed) ∷ []

  there : Contains with_row (Request row.request)
  there = Contains-append_left (some ++ Request row.request ∷ []) (Request (beside row.request row.is_disputed) ∷ []) (Request row.request)
      (Contains-push some (Request row.request))

  alone_there : row.is_disputed ≡ false → IsMarked (In with_row) row.request false
  alone_there one p m named =
      elim (Contains-push_cases (some ++ Request row.request ∷ []) (Request (beside row.request row.is_disputed)) (Request p) m) as (λ _. p ≡ row.request) [
        | inl before ↦ elim (Contains-push_cases some (Request row.request) (Request p) before) as (λ _. p ≡ row.request) [
          | inl old ↦ absurd (nobody p old named)
          | inr new ↦ sym (one_request row.request p new)
        ]
        | inr last ↦ sym (one_request (beside row.request row.is_disputed) p last) ∙ ap (beside row.request) one
      ]

  other_there : row.is_disputed ≡ true → IsMarked (In with_row) row.request true
  other_there two =
      let there : Contains with_row (Request (other_of row.request)) = subst (λ (d : Bool). Contains with_row (Request (beside row.request d))) two
      (Contains-push (some ++ Request row.request ∷ []) (Request (beside row.request row.is_disputed))) in
      (other_of row.request, there, (refl, refl), is_other row.request)

  is_row : IsRowOf with_row row
  is_row = (
    there,
    elim (cases_Bool row.is_disputed) as (λ _. IsMarked (In with_row) row.request row.is_disputed) [
      | inl two ↦ subst (IsMarked (In with_row) row.request) (sym two) (other_there two)
      | inr one ↦ subst (IsMarked (In with_row) row.request) (sym one) (alone_there one)
    ],
  )

  still_beside : (name : RequestName) → (name_of row.request ≡ name → ⊥) → (o : Option Kept) → IsAt some name o → IsAt with_row name o
  still_beside name differ o is =
      still_at (some ++ Request row.request ∷ []) (Request (beside row.request row.is_disputed)) name
      (λ named. differ (sym (beside_named row.request row.is_disputed) ∙ named)) o (still_at some (Request row.request) name differ o is)

pub alone_first : (row : NameRow) (old new : Summaries) (k : Kept) → at_name old (name_of row.request) ≡ None
    → SetsAt old new (name_of row.request) k → IsOrdered name_cmp new → k.request ≡ row.request
    → ((set : List Message) → HasNoVerdict set → IsRowOf set row → StandsFor set k) → AreAlone old → AreAlone new
alone_first row old new k bare sets ordered same stands alone =
    (with_row some row nobody, none, record { ordered = ordered; each = λ name. at name (same_cases (name_of row.request) name) })
  where
    some : List Message
    some = alone.0

    nobody : NobodyAsks some (name_of row.request)
    nobody = subst (IsAt some (name_of row.request)) bare (alone.2.each (name_of row.request))

    none : HasNoVerdict (with_row some row nobody)
    none = no_verdict_more (some ++ Request row.request ∷ []) (beside row.request row.is_disputed) (no_verdict_more some row.request alone.1)

    mine : IsSummaryOf (with_row some row nobody) (name_of row.request) k
    mine = record {
      named = named_from_name k.request (name_of row.request) (ap name_of same);
      stands = stands (with_row some row nobody) none (is_row some row nobody);
    }

    at : (name : RequestName) → (name_of row.request ≡ name) ⊎ (name_of row.request ≡ name → ⊥) → IsAt (with_row some row nobody) name (at_name new name)
    at name (inl is) = subst (λ (n : RequestName). IsAt (with_row some row nobody) n (at_name new n)) is
        (subst (IsAt (with_row some row nobody) (name_of row.request)) (sym sets.here) mine)
    at name (inr differ) =
        subst (IsAt (with_row some row nobody) name) (sym (sets.elsewhere name differ))
        (still_beside some row nobody name differ (at_name old name) (alone.2.each name))

pub none_alone : (s : Summaries) → IsOrdered name_cmp s → s.entries ≡ [] → AreAlone s
none_alone s ordered empty = ([], (λ v m. no_member (Verdict v) m), none_gathered s ordered empty)

-- ---- no verdict waits

pub alone_by_name : (set : List Message) (s : Summaries) (w : Waiting) → HasNoVerdict set
    → Gathers set s → IsOrdered name_cmp w → w.entries ≡ [] → AreByName set s w
alone_by_name set s w bare g ordered empty = record {
  summaries = g;
  waiting = record {
    ordered = ordered;
    each = λ name v. (
      λ among. absurd (no_member v (subst (λ o. Contains (listed o) v) (at_none w name empty) among)),
      λ both. absurd (bare v both.1.given),
    );
  };
}

-- ---- the requests of a set, and then its verdicts

abbrev pub requests_of : List Message → List Message
requests_of [] = []
requests_of (Request q ∷ ms) = Request q ∷ requests_of ms
requests_of (Verdict v ∷ ms) = requests_of ms

request_from : (ms : List Message) (m : Message) → Contains (requests_of ms) m → (q : RequestFields) × (m ≡ Request q) × Contains ms m
request_from [] m h = absurd (no_member m h)
request_from (Request p ∷ ms) m h =
    elim (Contains-cases (Request p) (requests_of ms) m h) as (λ _. (q : RequestFields) × (m ≡ Request q) × Contains (Request p ∷ ms) m) [
      | inl same ↦ (p, sym same, subst (Contains (Request p ∷ ms)) same (Contains-head (Request p) ms))
      | inr later ↦ let it = request_from ms m later in (it.0, it.1, Contains-behind (Request p) ms m it.2)
    ]
request_from (Verdict v ∷ ms) m h = let it = request_from ms m h in (it.0, it.1, Contains-behind (Verdict v) ms m it.2)

request_among : (ms : List Message) (q : RequestFields) → Contains ms (Request q) → Contains (requests_of ms) (Request q)
request_among [] q h = absurd (no_member (Request q) h)
request_among (Request p ∷ ms) q h =
    elim (Contains-cases (Request p) ms (Request q) h) as (λ _. Contains (Request p ∷ requests_of ms) (Request q)) [
      | inl same ↦ subst (Contains (Request p ∷ requests_of ms)) same (Contains-head (Request p) (requests_of ms))
      | inr later ↦ Contains-behind (Request p) (requests_of ms) (Request q) (request_among ms q later)
    ]
request_among (Verdict v ∷ ms) q h =
    elim (Contains-cases (Verdict v) ms (Request q) h) as (λ _. Contains (requests_of ms) (Request q)) [
      | inl wrong ↦ absurd cc
      | inr later ↦ request_among ms q later
    ]

module _ (set : List Message) where
  no_verdict_of : HasNoVerdict (requests_of set)
  no_verdict_of v h = let it = request_from set (Verdict v) h in let wrong : Verdict v ≡ Request it.0 = it.1 in absurd cc

  request_of_set : (q : RequestFields) → Contains (requests_of set) (Request q) → Contains set (Request q)
  request_of_set q h = (request_from set (Request q) h).2

  marked_of : (q : RequestFields) (d : Bool) → IsMarked (In set) q d → IsMarked (In (requests_of set)) q d
  marked_of q true is = (is.0, request_among set is.0 is.1, is.2, is.3)
  marked_of q false is = λ p there named. is p (request_of_set p there) named

  -- the rows of the set's names are those of its requests alone
  pub requests_shown : (names : List NameRow) (verdicts : List VerdictFields) → ShowSet (In set) names verdicts → ShowSet (In (requests_of set)) names []
  requests_shown names verdicts show = record {
    each = λ row among. let was = show.each row among in (request_among set row.request was.0, marked_of row.request row.is_disputed was.1);
    all = λ q there. show.all q (request_of_set q there);
    once = show.once;
    given = λ v. (λ none. absurd (no_member v none), λ there. absurd (no_verdict_of v there));
  }

  pub same_messages : (names : List NameRow) (verdicts : List VerdictFields)
      → ShowSet (In set) names verdicts → SameMessages (requests_of set ++ map of_verdict verdicts) set
  same_messages names verdicts show m = (to m, back m)
    where
      to : (m : Message) → Contains (requests_of set ++ map of_verdict verdicts) m → Contains set m
      to (Request q) h = elim (Contains-append_cases (requests_of set) (map of_verdict verdicts) (Request q) h) as (λ _. Contains set (Request q)) [
        | inl here ↦ request_of_set q here
        | inr there ↦ absurd (no_request verdicts q there)
      ]
      to (Verdict v) h = elim (Contains-append_cases (requests_of set) (map of_verdict verdicts) (Verdict v) h) as (λ _. Contains set (Verdict v)) [
        | inl here ↦ absurd (no_verdict_of v here)
        | inr there ↦ (show.given v).0 (among_verdicts verdicts v there)
      ]

      back : (m : Message) → Contains set m → Contains (requests_of set ++ map of_verdict verdicts) m
      back (Request q) h = Contains-append_left (requests_of set) (map of_verdict verdicts) (Request q) (request_among set q h)
      back (Verdict v) h = Contains-append_right (requests_of set) (map of_verdict verdicts) (Verdict v) (among_messages verdicts v ((show.given v).1 h))

pub shown_none : (set : List Message) (names : List NameRow) → ShowSet (In set) names [] → HasNoVerdict set
shown_none set names show v there = no_member v ((show.given v).1 there)

pub gathered_of_set : (s t : List Message) (known : Known) → SameMessages s t → AreGathered s known → AreGathered t known
gathered_of_set s t known same are = record {
  summaries = summaries_of_set s t known.summaries same are.summaries;
  waiting = λ v. (
    λ among. parked_one s t same v ((are.waiting v).0 among),
    λ parked. (are.waiting v).1 (parked_one t s (turned_set s t same) v parked),
  );
}

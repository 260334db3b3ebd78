-- Each set of messages has its statuses, its lines, its grants in force and its parked texts.
use Rattle.std.proofs.Common.{◌≡◌, ℕ, ◌⊎◌, true, false, List, [], ◌∷◌, ◌++◌, Option, Some, None, refl, sym, ap, ◌∙◌, subst, inl, inr, append_assoc}
use Rattle.std.specs.List.{Contains}
use Rattle.std.specs.Str.{bytes_eq}
use Rattle.std.proofs.lemmas.Bool.{cases_Bool, both_ways}
use Rattle.std.proofs.lemmas.List.{append-nil}
use Rattle.std.proofs.lemmas.Slice.Eq.{bytes_eq-Decides}
use Rattle.sudo_words.specs.declared.cmnd.Cmnd.{Cmnd}
use Rattle.messages.specs.Fields.{IsRequest, RequestFields, VerdictFields}
use Rattle.messages.specs.Names.{IsAbout, IsNamed, name_meant, name_of, NamePrecedes, NobodyAsks, SameMessages, SameName}
use Rattle.messages.specs.declared.request_name.RequestName.{RequestName}
use Rattle.messages.specs.Wire.{IsMessage, wire}
use Rattle.messages.specs.declared.message.Message.{Message}
use Rattle.messages.specs.declared.message.Message.TheVariants.{Request, Verdict}
use Rattle.messages.specs.declared.kind.VerdictKind.{VerdictKind}
use Rattle.messages.specs.declared.kind.VerdictKind.TheVariants.{Approve, Refuse, Revoke}
use Rattle.messages.proofs.NameOrder.{either_name, either_text, names_trans, texts_trans}
use Rattle.messages.proofs.Uniqueness.{one_message}
use Rattle.roster.specs.Faults.{IsRosterText}
use Rattle.roster.specs.Fields.{RosterFields}
use Rattle.grants.specs.Marks.{Keep}
use Rattle.grants.specs.private.Noting.{noted}
use Rattle.grants.specs.Statuses.{IsStatus}
use Rattle.grants.specs.Summaries.{Kept, StandsFor}
use Rattle.grants.specs.declared.outcome.Status.{Status}
use Rattle.grants.proofs.MarkLemmas.{keep_nothing}
use Rattle.grants.proofs.SomeStatus.{some_status}
use Rattle.grants.proofs.StandLemmas as standing
use Rattle.sudo_policy.specs.declared.entry.Entry.{Entry}
use Rattle.sudo_policy.specs.Printing.{canon}
use Rattle.outcomes.specs.Summaries.{AreSummaries, SummaryPrecedes}
use Rattle.outcomes.specs.private.InTurn.{Give, live_for}
use Rattle.messages.specs.Order.{AreInOrder, TextPrecedes}
use Rattle.outcomes.specs.HostFile.{Line, AreLines, IsHostFile, IsHostFileAfter, lines_after, with_lines}
use Rattle.outcomes.specs.Outcomes.{AreLive, ComesTo, LiveGrant}
use Rattle.outcomes.specs.Parked.{AreParked, IsParked}
use Rattle.outcomes.proofs.GivenLists.{AsksPast, IsRoll, roll_of_some}
use Rattle.outcomes.proofs.HostLines.{are_lines, lines_for}
use Rattle.outcomes.proofs.LiveLemmas.{are_live}
use Rattle.outcomes.proofs.Membership.{no_member, Contains-head, Contains-behind, Contains-cases}
use Rattle.outcomes.proofs.NameMaps.{same_cases}
use Rattle.outcomes.proofs.Orders.{behind_each, behind_from_each}
use Rattle.outcomes.proofs.Standing.{name_from_named, named_from_name, stands_same, stands_still}

-- ---- a place in an ordered list, by a key

module _ {X K : Type 0} (key : X → K) (P : K → K → Type 0) (trans : (a b c : K) → P a b → P b c → P a c) (either : (a b : K) → P a b ⊎ ((a ≡ b) ⊎ P b a)) where
  abbrev Q : X → X → Type 0
  Q x y = P (key x) (key y)

  record Placed (x : X) (ys : List X) : Type 0 where
    zs : List X
    in_order : AreInOrder Q zs
    only : (z : X) → Contains zs z → (x ≡ z) ⊎ Contains ys z
    has : (z : X) × Contains zs z × (key z ≡ key x)
    keeps : (y : X) → Contains ys y → Contains zs y

  place : (x : X) (ys : List X) → AreInOrder Q ys → Placed x ys
  place x [] o =
      record {
        zs = x ∷ [];
        in_order = (tt, tt);
        only = λ z m. Contains-cases x [] z m;
        has = (x, Contains-head x [], refl);
        keeps = λ y m. absurd (no_member y m);
      }
  place x (y ∷ ys) o =
      elim (either (key x) (key y)) as (λ _. Placed x (y ∷ ys)) [
        | inl before ↦ record {
          zs = x ∷ y ∷ ys;
          in_order = ((before, behind_from_each Q x ys (λ z m. trans (key x) (key y) (key z) before (behind_each Q y ys o.0 z m))), o);
          only = λ z m. Contains-cases x (y ∷ ys) z m;
          has = (x, Contains-head x (y ∷ ys), refl);
          keeps = λ z m. Contains-behind x (y ∷ ys) z m;
        }
        | inr (inl same) ↦ record { zs = y ∷ ys; in_order = o; only = λ z m. inr m; has = (y, Contains-head y ys, sym same); keeps = λ z m. m }
        | inr (inr after) ↦
            let more = place x ys o.1 in
            record {
              zs = y ∷ more.zs;
              in_order = (
                behind_from_each Q y more.zs (λ z m. elim (more.only z m) as (λ _. Q y z) [
                  | inl is ↦ subst (Q y) is after
                  | inr old ↦ behind_each Q y ys o.0 z old
                ]),
                more.in_order,
              );
              only = λ z m. elim (Contains-cases y more.zs z m) as (λ _. (x ≡ z) ⊎ Contains (y ∷ ys) z) [
                | inl is ↦ inr (subst (Contains (y ∷ ys)) is (Contains-head y ys))
                | inr later ↦ elim (more.only z later) as (λ _. (x ≡ z) ⊎ Contains (y ∷ ys) z) [ inl is ↦ inl is | inr old ↦ inr (Contains-behind y ys z old) ]
              ];
              has = (more.has.0, Contains-behind y more.zs more.has.0 more.has.1, more.has.2);
              keeps = λ z m. elim (Contains-cases y ys z m) as (λ _. Contains (y ∷ more.zs) z) [
                | inl is ↦ subst (Contains (y ∷ more.zs)) is (Contains-head y more.zs)
                | inr later ↦ Contains-behind y more.zs z (more.keeps z later)
              ];
            }
      ]

-- ---- a summary of each request

one_asked : (a b : RequestFields) → ◌≡◌ {A = Message} (Request a) (Request b) → a ≡ b
one_asked a b e = cc

one_given : (a b : VerdictFields) → ◌≡◌ {A = Message} (Verdict a) (Verdict b) → a ≡ b
one_given a b e = cc

abbrev Grown : List Message → Message → Kept → Type 0
Grown set m k = (j : Kept) × (j.request ≡ k.request) × StandsFor (set ++ m ∷ []) j

module _ (set : List Message) (k : Kept) (stands : StandsFor set k) where
  asked_too : (p : RequestFields) → IsMessage (Request k.request) → IsMessage (Request p) → name_of p ≡ name_of k.request → Grown set (Request p) k
  asked_too p known also same =
      let named : SameName p k.request = named_from_name p (name_of k.request) same in
      elim (cases_Bool (bytes_eq (wire (Request k.request)) (wire (Request p)))) as (λ _. Grown set (Request p) k) [
        | inl equal ↦
            let one : k.request ≡ p = one_asked k.request p
            (one_message (Request k.request) (Request p) known also ((bytes_eq-Decides (wire (Request k.request)) (wire (Request p))).0 equal)) in
            (k, refl, standing.repeated set k p one stands)
        | inr other ↦
            let differ : k.request ≡ p → ⊥ =
            λ e. both_ways _ other ((bytes_eq-Decides (wire (Request k.request)) (wire (Request p))).1 (ap (λ (r : RequestFields). wire (Request r)) e)) in
            (record k { is_disputed = true }, refl, standing.disputed set k p named differ stands)
      ]

  said_too : (v : VerdictFields) → name_meant v ≡ name_of k.request → Grown set (Verdict v) k
  said_too v same = by_kind v.kind refl
    where
      about : IsAbout k.request v
      about = (ap (λ (n : RequestName). n.by) same, ap (λ (n : RequestName). n.no) same)

      by_kind : (kind : VerdictKind) → v.kind ≡ kind → Grown set (Verdict v) k
      by_kind Approve is = (
        record k { approvals = noted v.by v.at k.approvals },
        refl,
        standing.approved set k v v.by v.at (noted v.by v.at k.approvals) about is refl refl refl stands,
      )
      by_kind Refuse is = (
        record k { refusals = noted v.by v.at k.refusals },
        refl,
        standing.refused set k v v.by v.at (noted v.by v.at k.refusals) about is refl refl refl stands,
      )
      by_kind Revoke is = (
        record k { revocations = noted v.by v.at k.revocations },
        refl,
        standing.revoked set k v v.by v.at (noted v.by v.at k.revocations) about is refl refl refl stands,
      )

  grown : (m : Message) → IsMessage (Request k.request) → IsMessage m → Grown set m k
  grown (Request p) known also =
      elim (same_cases (name_of p) (name_of k.request)) as (λ _. Grown set (Request p) k) [
        | inl same ↦ asked_too p known also same
        | inr other ↦ (k, refl, stands_still set (Request p) k other stands)
      ]
  grown (Verdict v) known also =
      elim (same_cases (name_meant v) (name_of k.request)) as (λ _. Grown set (Verdict v) k) [
        | inl same ↦ said_too v same
        | inr other ↦ (k, refl, stands_still set (Verdict v) k other stands)
      ]

all_grown : (seen rest : List Message) (k : Kept) → IsMessage (Request k.request) → ((m : Message) → Contains rest m → IsMessage m)
    → StandsFor seen k → (j : Kept) × (j.request ≡ k.request) × StandsFor (seen ++ rest) j
all_grown seen [] k known each stands = (k, refl, subst (λ (s : List Message). StandsFor s k) (sym (append-nil seen)) stands)
all_grown seen (m ∷ rest) k known each stands =
    let next = grown seen k stands m known (each m (Contains-head m rest)) in
    let last = all_grown (seen ++ m ∷ []) rest next.0 (subst (λ (r : RequestFields). IsMessage (Request r)) (sym next.1) known)
    (λ n h. each n (Contains-behind m rest n h)) next.2 in
    (last.0, last.1 ∙ next.1, subst (λ (s : List Message). StandsFor s last.0) (append_assoc seen (m ∷ []) rest) last.2)

pub asked_alone : (q : RequestFields)
    → StandsFor (Request q ∷ []) (record { request = q; is_disputed = false; approvals = []; refusals = []; revocations = [] })
asked_alone q = record {
  asked = Contains-head (Request q) [];
  alone =
      λ single p h same. elim (Contains-cases (Request q) [] (Request p) h) as (λ _. p ≡ q) [ inl is ↦ cc | inr none ↦ absurd (no_member (Request p) none) ];
  other = λ two. absurd cc;
  approvals = nothing Approve;
  refusals = nothing Refuse;
  revocations = nothing Revoke;
}
  where
    nothing : (kind : VerdictKind) → Keep (Request q ∷ []) q kind []
    nothing kind = keep_nothing (Request q ∷ []) q kind
        (λ v h about is. elim (Contains-cases (Request q) [] (Verdict v) h) as (λ _. ⊥) [ inl wrong ↦ absurd cc | inr none ↦ no_member (Verdict v) none ])

once_more : (set : List Message) (m : Message) → Contains set m → SameMessages (m ∷ set) set
once_more set m h n = (
  λ i. elim (Contains-cases m set n i) as (λ _. Contains set n) [ inl is ↦ subst (Contains set) is h | inr old ↦ old ],
  λ i. Contains-behind m set n i,
)

-- ---- whether somebody asks

pub who_asks : (set : List Message) (name : RequestName) → ((q : RequestFields) × Contains set (Request q) × IsNamed q name) ⊎ NobodyAsks set name
who_asks [] name = inr (λ q h named. no_member (Request q) h)
who_asks (Verdict v ∷ more) name =
    elim (who_asks more name) as (λ _. ((q : RequestFields) × Contains (Verdict v ∷ more) (Request q) × IsNamed q name) ⊎ NobodyAsks (Verdict v ∷ more) name) [
      | inl found ↦ inl (found.0, Contains-behind (Verdict v) more (Request found.0) found.1, found.2)
      | inr nobody ↦
          inr (λ q h named. elim (Contains-cases (Verdict v) more (Request q) h) as (λ _. ⊥) [ inl wrong ↦ absurd cc | inr later ↦ nobody q later named ])
    ]
who_asks (Request p ∷ more) name =
    let Found : Type 0 = ((q : RequestFields) × Contains (Request p ∷ more) (Request q) × IsNamed q name) ⊎ NobodyAsks (Request p ∷ more) name in
    elim (same_cases (name_of p) name) as (λ _. Found) [
      | inl same ↦ inl (p, Contains-head (Request p) more, named_from_name p name same)
      | inr other ↦ elim (who_asks more name) as (λ _. Found) [
        | inl found ↦ inl (found.0, Contains-behind (Request p) more (Request found.0) found.1, found.2)
        | inr nobody ↦ inr (λ q h named. elim (Contains-cases (Request p) more (Request q) h) as (λ _. ⊥) [
          | inl same ↦ other (ap name_of (one_asked p q same) ∙ name_from_named q name named)
          | inr later ↦ nobody q later named
        ])
      ]
    ]

-- ---- parked

record ParkedOf (set some : List Message) : Type 0 where
  texts : List (List ℕ)
  in_order : AreInOrder TextPrecedes texts
  each : (text : List ℕ) → Contains texts text → (v : VerdictFields) × IsParked set v × (text ≡ wire (Verdict v))
  all : (v : VerdictFields) → Contains some (Verdict v) → NobodyAsks set (name_meant v) → Contains texts (wire (Verdict v))

parked_among : (set some : List Message) → ((m : Message) → Contains some m → Contains set m) → ParkedOf set some
parked_among set [] inside = record { texts = []; in_order = tt; each = λ text h. absurd (no_member text h); all = λ v h. absurd (no_member (Verdict v) h) }
parked_among set (Request q ∷ more) inside =
    let r = parked_among set more (λ m h. inside m (Contains-behind (Request q) more m h)) in
    record {
      texts = r.texts;
      in_order = r.in_order;
      each = r.each;
      all = λ v h nobody. r.all v
          (elim (Contains-cases (Request q) more (Verdict v) h) as (λ _. Contains more (Verdict v)) [ inl wrong ↦ absurd cc | inr later ↦ later ]) nobody;
    }
parked_among set (Verdict w ∷ more) inside =
    let r = parked_among set more (λ m h. inside m (Contains-behind (Verdict w) more m h)) in
    elim (who_asks set (name_meant w)) as (λ _. ParkedOf set (Verdict w ∷ more)) [
      | inl found ↦ record {
        texts = r.texts;
        in_order = r.in_order;
        each = r.each;
        all = λ v h nobody. elim (Contains-cases (Verdict w) more (Verdict v) h) as (λ _. Contains r.texts (wire (Verdict v))) [
          | inl same ↦ absurd (nobody found.0 found.1 (subst (λ (x : VerdictFields). IsNamed found.0 (name_meant x)) (one_given w v same) found.2))
          | inr later ↦ r.all v later nobody
        ];
      }
      | inr waits ↦
          let placed = place (λ (t : List ℕ). t) TextPrecedes texts_trans either_text (wire (Verdict w)) r.texts r.in_order in
          record {
            texts = placed.zs;
            in_order = placed.in_order;
            each = λ text h. elim (placed.only text h) as (λ _. (v : VerdictFields) × IsParked set v × (text ≡ wire (Verdict v))) [
              | inl is ↦ (w, record { given = inside (Verdict w) (Contains-head (Verdict w) more); waits = waits }, sym is)
              | inr old ↦ r.each text old
            ];
            all = λ v h nobody. elim (Contains-cases (Verdict w) more (Verdict v) h) as (λ _. Contains placed.zs (wire (Verdict v))) [
              | inl same ↦ subst (λ (x : VerdictFields). Contains placed.zs (wire (Verdict x)))
                  (one_given w v same) (subst (Contains placed.zs) placed.has.2 placed.has.1)
              | inr later ↦ placed.keeps (wire (Verdict v)) (r.all v later nobody)
            ];
          }
    ]

pub some_parked : (set : List Message) → (texts : List (List ℕ)) × AreParked set texts
some_parked set =
    let r = parked_among set set (λ m h. h) in
    (r.texts, record { in_order = r.in_order; each = r.each; all = λ v is. r.all v is.given is.waits })

-- ---- what the messages come to

module _ (set : List Message) (known : (m : Message) → Contains set m → IsMessage m) where
  summary_of : (q : RequestFields) → Contains set (Request q) → (k : Kept) × (k.request ≡ q) × StandsFor set k
  summary_of q h =
      let all = all_grown (Request q ∷ []) set (record { request = q; is_disputed = false; approvals = []; refusals = []; revocations = [] })
      (known (Request q) h) known (asked_alone q) in
      (all.0, all.1, stands_same (Request q ∷ set) set all.0 (once_more set (Request q) h) all.2)

  -- ---- the roll of summaries

  record Rolled (some : List Message) : Type 0 where
    ks : List Kept
    in_order : AreInOrder SummaryPrecedes ks
    stands : (k : Kept) → Contains ks k → StandsFor set k
    each : (q : RequestFields) → Contains some (Request q) → (k : Kept) × Contains ks k × (name_of k.request ≡ name_of q)

  rolled : (some : List Message) → ((m : Message) → Contains some m → Contains set m) → Rolled some
  rolled [] inside = record { ks = []; in_order = tt; stands = λ k h. absurd (no_member k h); each = λ q h. absurd (no_member (Request q) h) }
  rolled (Verdict v ∷ more) inside =
      let r = rolled more (λ m h. inside m (Contains-behind (Verdict v) more m h)) in
      record {
        ks = r.ks;
        in_order = r.in_order;
        stands = r.stands;
        each = λ q h.
            r.each q (elim (Contains-cases (Verdict v) more (Request q) h) as (λ _. Contains more (Request q)) [ inl wrong ↦ absurd cc | inr later ↦ later ]);
      }
  rolled (Request p ∷ more) inside =
      let r = rolled more (λ m h. inside m (Contains-behind (Request p) more m h)) in
      let one = summary_of p (inside (Request p) (Contains-head (Request p) more)) in
      let placed = place (λ (k : Kept). name_of k.request) NamePrecedes names_trans either_name one.0 r.ks r.in_order in
      record {
        ks = placed.zs;
        in_order = placed.in_order;
        stands = λ k h. elim (placed.only k h) as (λ _. StandsFor set k) [ inl is ↦ subst (StandsFor set) is one.2 | inr old ↦ r.stands k old ];
        each = λ q h. elim (Contains-cases (Request p) more (Request q) h) as (λ _. (k : Kept) × Contains placed.zs k × (name_of k.request ≡ name_of q)) [
          | inl same ↦
              let one_name : name_of p ≡ name_of q = ap name_of (one_asked p q same) in
              (placed.has.0, placed.has.1, placed.has.2 ∙ ap name_of one.1 ∙ one_name)
          | inr later ↦ let found = r.each q later in (found.0, placed.keeps found.0 found.1, found.2)
        ];
      }

  roll : (ks : List Kept) × IsRoll set ks
  roll =
      let r = rolled set (λ m h. h) in (
        r.ks,
        record {
          in_order = r.in_order;
          stands = r.stands;
          alone = λ q alone any.
              let found = r.each q alone.asked in
              (found.0, found.1, alone.alone found.0.request (r.stands found.0 found.1).asked (named_from_name found.0.request (name_of q) found.2));
        },
      )

  pub some_summaries : (list : List Kept) × AreSummaries set list
  some_summaries =
      let r = rolled set (λ m h. h) in (
        r.ks,
        record {
          in_order = r.in_order;
          each = r.stands;
          all = λ q asked. let found = r.each q asked in (found.0, found.1, named_from_name found.0.request (name_of q) found.2);
        },
      )

module _ (text : List ℕ) (f : RosterFields Cmnd) (set : List Message) (roster : IsRosterText text f) where
  given_of : {X : Type 0} (give : RequestFields → Status → List X) (ks : List Kept) → ((k : Kept) → Contains ks k → StandsFor set k)
      → ((k : Kept) → Contains ks k → IsRequest k.request) → (xs : List X) × Give f set give ks xs
  given_of give [] stands are = ([], refl)
  given_of give (k ∷ ks) stands are =
      let more = given_of give ks (λ j h. stands j (Contains-behind k ks j h)) (λ j h. are j (Contains-behind k ks j h)) in
      let here = some_status text f set k roster (are k (Contains-head k ks)) (stands k (Contains-head k ks)) in
      (give k.request here.0 ++ more.0, (more.0, here.0, more.1, here.1, refl))

  pub lines_of_roll : (host : List ℕ) (ks : List Kept) → IsRoll set ks → ((k : Kept) → Contains ks k → IsRequest k.request)
      → (lines : List Line) × AreLines f set host lines
  lines_of_roll host ks roll are =
      let given = given_of (lines_for host) ks roll.stands are in (given.0, are_lines f set host ks roll given.0 given.1)

module _ (text : List ℕ) (f : RosterFields Cmnd) (set : List Message) (roster : IsRosterText text f) (known : (m : Message)
    → Contains set m → IsMessage m) where
  -- ---- what each comes to

  requests : (ks : List Kept) → ((k : Kept) → Contains ks k → StandsFor set k) → (k : Kept) → Contains ks k → IsRequest k.request
  requests ks stands k h = known (Request k.request) (stands k h).asked

  pub some_lines : (host : List ℕ) → (lines : List Line) × AreLines f set host lines
  some_lines host =
      let r = roll set known in lines_of_roll text f set roster host r.0 r.1 (requests r.0 r.1.stands)

  pub some_file : (base : List Entry) (host : List ℕ) → (file : List ℕ) × IsHostFile f base set host file
  some_file base host =
      let lines = some_lines host in
      (canon (with_lines base lines.0), record { lines = lines.0; lines_are = lines.1; text_is = refl })

  pub some_file_after : (base : List Entry) (host : List ℕ) (moment : ℕ) → (file : List ℕ) × IsHostFileAfter f base set host moment file
  some_file_after base host moment =
      let lines = some_lines host in
      (canon (with_lines base (lines_after moment lines.0)), record { lines = lines.0; lines_are = lines.1; text_is = refl })

  pub some_live : (moment : ℕ) → (list : List LiveGrant) × AreLive f set moment list
  some_live moment =
      let r = roll set known in
      let given = given_of text f set roster (live_for moment) r.0 r.1.stands (requests r.0 r.1.stands) in
      (given.0, are_live f set moment r.0 (roll_of_some set (AsksPast moment) r.0 r.1) given.0 given.1)

  pub some_outcome : (name : RequestName) → (o : Option Status) × ComesTo f set name o
  some_outcome name =
      elim (who_asks set name) as (λ _. (o : Option Status) × ComesTo f set name o) [
        | inr nobody ↦ (None, nobody)
        | inl found ↦
            let k = summary_of set known found.0 found.1 in
            let status = some_status text f set k.0 roster (known (Request k.0.request) k.2.asked) k.2 in
            (Some status.0, subst (λ (n : RequestName). IsStatus f set n status.0) (ap name_of k.1 ∙ name_from_named found.0 name found.2) status.1)
      ]

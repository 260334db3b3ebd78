-- Messages in a map by their texts, and what they say in the order of these.
use Rattle.std.proofs.Common.{◌≡◌, ℕ, ◌⊎◌, false, List, [], ◌∷◌, ◌++◌, map, Option, Some, None, sym, ap, ◌∙◌, subst}
use Rattle.std.proofs.Common.{inl, inr, length, arith}
use Rattle.std.specs.BTreeMap.{BTreeMap, IsOrdered, Updates, get, is_at}
use Rattle.std.specs.Cmp.Lexicographic.{slice_cmp}
use Rattle.std.specs.List.{AllByRecursion, Contains}
use Rattle.std.specs.List.Sorted.{IsStrictlySortedBy}
use Rattle.std.specs.Map.{keys_of}
use Rattle.std.specs.Ordering.{is_lt, nat_cmp}
use Rattle.std.specs.declared.cmp.Ordering.{Ordering}
use Rattle.std.specs.declared.cmp.Ordering.TheVariants.{Less}
use Rattle.std.proofs.lemmas.Bool.{cases_Bool}
use Rattle.std.proofs.lemmas.Cmp.{nat_list_cmp_total}
use Rattle.std.proofs.lemmas.List.{append-nil, append_assoc, map-append}
use Rattle.std.proofs.lemmas.List.Elements.{Contains-append_left, Contains-push, Contains-push_cases}
use Rattle.std.proofs.lemmas.Map.Keys.{sorted_head, sorted_tail}
use Rattle.std.proofs.lemmas.Map.Lookups.{exact_bytes}
use Rattle.std.proofs.lemmas.Map.Views.{btree_map_get_iff}
use Rattle.messages.specs.Names.{SameMessages}
use Rattle.messages.specs.Order.{AreInOrder, TextPrecedes}
use Rattle.messages.specs.Wire.{IsMessage, wire}
use Rattle.messages.specs.declared.message.Message.{Message}
use Rattle.messages.specs.declared.message.Message.TheVariants.{Request, Verdict}
use Rattle.messages.specs.declared.request_name.RequestName.{RequestName}
use Rattle.messages.proofs.Uniqueness.{one_message}
use Rattle.outcomes.specs.private.ByName.{at_name}
use Rattle.outcomes.proofs.Membership.{no_member, Contains-cases}
use Rattle.outcomes.proofs.NameMaps.{equal_from_test}
use Rattle.outcomes.proofs.Orders.{behind_from_each, ordered_front}
use Rattle.desk_audit.specs.Told.{TellsMessages}
use Rattle.findings.specs.declared.entry.About.{About}
use Rattle.desk_audit.specs.private.ByName.{Gathers, IsBehind}
use Rattle.desk_audit.specs.private.ByText.{AreByText}
use Rattle.desk_audit.proofs.ByNameLemmas.{Abouts, IsAt}
use Rattle.desk_audit.proofs.ListLemmas.{from_mapped, last_behind, to_mapped}

abbrev pub Texts : Type 0
Texts = BTreeMap (List ℕ) Message

abbrev pub Texted : Type 0
Texted = List ℕ × Message

abbrev text_cmp : List ℕ → List ℕ → Ordering
text_cmp = slice_cmp nat_cmp

-- ---- one message more

same_text : (a b : List ℕ) → (a ≡ b) ⊎ (is_at (text_cmp a) b ≡ false)
same_text a b = elim (cases_Bool (is_at (text_cmp a) b)) as (λ _. (a ≡ b) ⊎ (is_at (text_cmp a) b ≡ false)) [
  | inl equal ↦ inl (exact_bytes a b (equal_from_test (text_cmp a b) equal))
  | inr other ↦ inr other
]

pub none_by_text : (all : Texts) → IsOrdered text_cmp all → all.entries ≡ [] → AreByText [] all
none_by_text all ordered empty = record {
  ordered = ordered;
  each = λ e there. absurd (no_member e (subst (λ (es : List Texted). Contains es e) empty there));
  all_there = λ m there. absurd (no_member m there);
}

module _ (old new : Texts) (text : List ℕ) (m : Message) (is : text ≡ wire m) (updates : Updates text_cmp old new text (Some m))
    (ordered : IsOrdered text_cmp new) where
  now_there : Contains new.entries (text, m)
  now_there = (btree_map_get_iff nat_list_cmp_total exact_bytes new ordered text m).0 updates.1

  module _ (seen : List Message) (was : AreByText seen old) where
    each_now : (e : Texted) → Contains new.entries e → Contains (seen ++ m ∷ []) e.1 × (e.0 ≡ wire e.1)
    each_now e there = elim (same_text text e.0) as (λ _. Contains (seen ++ m ∷ []) e.1 × (e.0 ≡ wire e.1)) [
      | inl same ↦
          let got : get text_cmp new e.0 ≡ Some e.1 = (btree_map_get_iff nat_list_cmp_total exact_bytes new ordered e.0 e.1).1 there in
          let both : Some m ≡ Some e.1 = sym updates.1 ∙ ap (λ (t : List ℕ). get text_cmp new t) same ∙ got in
          let value : m ≡ e.1 = cc in
          (subst (Contains (seen ++ m ∷ [])) value (Contains-push seen m), sym same ∙ is ∙ ap wire value)
      | inr differ ↦
          let got : get text_cmp new e.0 ≡ Some e.1 = (btree_map_get_iff nat_list_cmp_total exact_bytes new ordered e.0 e.1).1 there in
          let before : Contains old.entries e =
          (btree_map_get_iff nat_list_cmp_total exact_bytes old was.ordered e.0 e.1).0 (sym (updates.2 e.0 differ) ∙ got) in
          let it = was.each e before in
          (Contains-append_left seen (m ∷ []) e.1 it.0, it.1)
    ]

    there_now : (n : Message) → Contains (seen ++ m ∷ []) n → (x : Message) × Contains new.entries (wire n, x)
    there_now n among = elim (Contains-push_cases seen m n among) as (λ _. (x : Message) × Contains new.entries (wire n, x)) [
      | inl before ↦ still (was.all_there n before)
      | inr here ↦ (m, subst (λ (t : List ℕ). Contains new.entries (t, m)) (is ∙ ap wire here) now_there)
    ]
      where
        still : (x : Message) × Contains old.entries (wire n, x) → (x : Message) × Contains new.entries (wire n, x)
        still found = elim (same_text text (wire n)) as (λ _. (x : Message) × Contains new.entries (wire n, x)) [
          | inl same ↦ (m, subst (λ (t : List ℕ). Contains new.entries (t, m)) same now_there)
          | inr differ ↦
              let got : get text_cmp old (wire n) ≡ Some found.0 =
              (btree_map_get_iff nat_list_cmp_total exact_bytes old was.ordered (wire n) found.0).1 found.1 in
              (found.0, (btree_map_get_iff nat_list_cmp_total exact_bytes new ordered (wire n) found.0).0 (updates.2 (wire n) differ ∙ got))
        ]

    pub one_more_text : AreByText (seen ++ m ∷ []) new
    one_more_text = record { ordered = ordered; each = each_now; all_there = there_now }

-- all of them
pub all_put : (list seen rest : List Message) (all : Texts) (left : ℕ) → seen ++ rest ≡ list → AreByText seen all → left ≡ length rest → left ≡ 0
    → AreByText list all
all_put list seen [] all left split are same none = subst (λ (ms : List Message). AreByText ms all) (sym (append-nil seen) ∙ split) are
all_put list seen (m ∷ rest) all left split are same none = absurd (omega (arith, same, none))

-- ---- in the order of the texts

above : (k : List ℕ) (es : List Texted) → AllByRecursion (λ y. text_cmp k y ≡ Less) (keys_of es) → (t : List ℕ) → Contains (keys_of es) t → TextPrecedes k t
above k [] all t m = absurd (no_member t m)
above k (e ∷ es) all t m =
    elim (Contains-cases e.0 (keys_of es) t m) as (λ _. TextPrecedes k t) [
      | inl same ↦ subst (TextPrecedes k) same (ap is_lt all.0)
      | inr later ↦ above k es all.1 t later
    ]

rising : (es : List Texted) → IsStrictlySortedBy text_cmp (keys_of es) → AreInOrder TextPrecedes (keys_of es)
rising [] sorted = tt
rising (e ∷ es) sorted = (
  behind_from_each TextPrecedes e.0 (keys_of es) (above e.0 es (sorted_head text_cmp e.0 (keys_of es) sorted)),
  rising es (sorted_tail text_cmp e.0 (keys_of es) sorted),
)

abbrev pub message_of : Texted → Message
message_of e = e.1

-- the first of the entries were read
pub record IsTaken (entries rest : List Texted) (all : Abouts) : Type 0 where
  pub seen : List Texted
  pub split : seen ++ rest ≡ entries
  pub gathered : Gathers (map message_of seen) all

pub none_taken : (entries rest : List Texted) (all : Abouts) → rest ≡ entries → Gathers [] all → IsTaken entries rest all
none_taken entries rest all is gathers = record { seen = []; split = is; gathered = gathers }

pub told_same : (s t : List Message) (name : RequestName) (about : About) → SameMessages s t → TellsMessages s name about → TellsMessages t name about
told_same s t name about same told = record {
  requests_in_order = told.requests_in_order;
  verdicts_in_order = told.verdicts_in_order;
  requests = λ q. (
    (λ among. let was = (told.requests q).0 among in ((same (Request q)).0 was.0, was.1)),
    (λ there. (told.requests q).1 ((same (Request q)).1 there.0, there.1)),
  );
  verdicts = λ v. (
    (λ among. let was = (told.verdicts v).0 among in ((same (Verdict v)).0 was.0, was.1)),
    (λ there. (told.verdicts v).1 ((same (Verdict v)).1 there.0, there.1)),
  );
}

at_same_set : (s t : List Message) (name : RequestName) → SameMessages s t → (o : Option About) → IsAt s name o → IsAt t name o
at_same_set s t name same None nobody = λ m there named. nobody m ((same m).1 there) named
at_same_set s t name same (Some about) is = record {
  spoken = (is.spoken.0, (same is.spoken.0).0 is.spoken.1, is.spoken.2);
  told = told_same s t name about same is.told;
}

-- A map of what one list says is that of each list of the same messages.
pub gathers_same : (s t : List Message) (all : Abouts) → SameMessages s t → Gathers s all → Gathers t all
gathers_same s t all same g = record { ordered = g.ordered; each = λ name. at_same_set s t name same (at_name all name) (g.each name) }

module _ (list : List Message) (texts : Texts) (are : AreByText list texts) where
  pub one_taken : (text : List ℕ) (m : Message) (rest next : List Texted) (old new : Abouts) → rest ≡ (text, m) ∷ next
      → ((set : List Message) → IsBehind set m → Gathers set old → Gathers (set ++ m ∷ []) new)
      → IsTaken texts.entries rest old → IsTaken texts.entries next new
  one_taken text m rest next old new steps put was =
      let e : Texted = (text, m) in
      let whole : (was.seen ++ e ∷ []) ++ next ≡ texts.entries =
      append_assoc was.seen (e ∷ []) next ∙ ap (λ (es : List Texted). was.seen ++ es) (sym steps) ∙ was.split in
      let keys : AreInOrder TextPrecedes (keys_of ((was.seen ++ e ∷ []) ++ next)) =
      subst (λ (es : List Texted). AreInOrder TextPrecedes (keys_of es)) (sym whole) (rising texts.entries are.ordered) in
      let key : Texted → List ℕ = λ d. d.0 in
      let front : AreInOrder TextPrecedes (map key was.seen ++ text ∷ []) =
      subst (AreInOrder TextPrecedes) (map-append key was.seen (e ∷ []))
      (ordered_front TextPrecedes (map key (was.seen ++ e ∷ [])) (map key next)
      (subst (AreInOrder TextPrecedes) (map-append key (was.seen ++ e ∷ []) next) keys)) in
      let among : (d : Texted) → Contains (was.seen ++ e ∷ []) d → Contains texts.entries d = λ d there.
      subst (λ (es : List Texted). Contains es d) whole (Contains-append_left (was.seen ++ e ∷ []) next d there) in
      let own : text ≡ wire m = (are.each e (among e (Contains-push was.seen e))).1 in
      let behind : IsBehind (map message_of was.seen) m = λ n there.
      let found = from_mapped message_of was.seen n there in
      let before : TextPrecedes found.0.0 text = last_behind TextPrecedes (map key was.seen) text front found.0.0 (to_mapped key was.seen found.0 found.1) in
      let its : found.0.0 ≡ wire n = (are.each found.0 (among found.0 (Contains-append_left was.seen (e ∷ []) found.0 found.1))).1 ∙ ap wire found.2 in
      subst (λ (t : List ℕ). TextPrecedes t (wire m)) its (subst (TextPrecedes found.0.0) own before) in
      record {
        seen = was.seen ++ e ∷ [];
        split = whole;
        gathered = subst (λ (ms : List Message). Gathers ms new) (sym (map-append message_of was.seen (e ∷ [])))
            (put (map message_of was.seen) behind was.gathered);
      }

  -- all of them were read
  pub all_taken : (rest : List Texted) (all : Abouts) → ((m : Message) → Contains list m → IsMessage m) → rest ≡ []
      → IsTaken texts.entries rest all → Gathers list all
  all_taken rest all messages ended taken =
      let whole : taken.seen ≡ texts.entries =
      sym (append-nil taken.seen) ∙ subst (λ (es : List Texted). taken.seen ++ es ≡ texts.entries) ended taken.split in
      let same : SameMessages (map message_of taken.seen) list = λ m. (
        (λ there.
            let found = from_mapped message_of taken.seen m there in
            let entry : Contains texts.entries found.0 = subst (λ (es : List Texted). Contains es found.0) whole found.1 in
            subst (Contains list) found.2 (are.each found.0 entry).0),
        (λ there.
            let found = are.all_there m there in
            let it = are.each (wire m, found.0) found.1 in
            let value : m ≡ found.0 = one_message m found.0 (messages m there) (messages found.0 it.0) it.1 in
            let entry : Contains taken.seen (wire m, found.0) = subst (λ (es : List Texted). Contains es (wire m, found.0)) (sym whole) found.1 in
            subst (Contains (map message_of taken.seen)) (sym value) (to_mapped message_of taken.seen (wire m, found.0) entry)),
      ) in
      gathers_same (map message_of taken.seen) list all same taken.gathered

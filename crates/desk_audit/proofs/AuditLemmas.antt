-- The entries of an audit: all that a map has, each with what it comes to.
use Rattle.std.proofs.Common.{◌≡◌, ℕ, List, [], ◌∷◌, ◌++◌, map, Option, Some, None, Result, Ok, ◌⊎◌, refl, sym, ap, ◌∙◌, subst, inl, inr}
use Rattle.std.specs.List.{AllByRecursion, Contains}
use Rattle.std.specs.List.Sorted.{IsStrictlySortedBy}
use Rattle.std.specs.Map.{keys_of}
use Rattle.std.specs.Cmp.Lexicographic.{slice_cmp}
use Rattle.std.specs.Ordering.{nat_cmp}
use Rattle.std.specs.declared.cmp.Ordering.TheVariants.{Equal, Less}
use Rattle.std.proofs.lemmas.List.{append-nil, map-append}
use Rattle.std.proofs.lemmas.List.Elements.{All-contains, All-from_recursion}
use Rattle.std.proofs.lemmas.Map.Keys.{sorted_head, sorted_tail}
use Rattle.std.proofs.lemmas.Map.Lookups.{exact_bytes, exact_pairs, exact_unsigned}
use Rattle.std.proofs.lemmas.Map.Views.{btree_map_get_iff}
use Rattle.sudo_words.specs.declared.cmnd.Cmnd.{Cmnd}
use Rattle.messages.specs.Names.{NamePrecedes, SameMessages, name_cmp}
use Rattle.messages.specs.Order.{AreInOrder}
use Rattle.messages.specs.declared.message.Message.{Message}
use Rattle.messages.specs.declared.message.Message.TheVariants.{Request, Verdict}
use Rattle.messages.specs.declared.request_name.RequestName.{RequestName}
use Rattle.messages.proofs.NameOrder.{lower_from_less, not_precede_same}
use Rattle.roster.specs.Fields.{RosterFields}
use Rattle.desk_store.specs.Left.{AddsOnly}
use Rattle.desk_store.specs.Sets.{Lists, SameSet}
use Rattle.desk_store.specs.declared.keeper.Keeper.{Ghosts}
use Rattle.desk_store.proofs.ServingLemmas.{served_then}
use Rattle.desk.specs.Serving.{OnlyAsks}
use Rattle.desk.specs.State.{DeskState}
use Rattle.desk.specs.declared.refusal.Refusal.{Refusal}
use Rattle.desk.proofs.LeftLemmas.{settings_both}
use Rattle.outcomes.specs.About.{AreAbout}
use Rattle.outcomes.specs.Outcomes.{ComesTo}
use Rattle.outcomes.specs.private.ByName.{at_name}
use Rattle.outcomes.proofs.GivenLists.{turn_split}
use Rattle.outcomes.proofs.Membership.{no_member, Contains-behind, Contains-cases, Contains-head}
use Rattle.outcomes.proofs.NameMaps.{at_entry, names_total}
use Rattle.outcomes.proofs.Orders.{behind_from_each}
use Rattle.desk_audit.specs.Audit.{IsAudit, TellsName}
use Rattle.desk_audit.specs.Documents.{AreOfName}
use Rattle.desk_audit.specs.Told.{TellsMessages, name_in}
use Rattle.findings.specs.declared.entry.AuditEntry.{AuditEntry}
use Rattle.findings.specs.declared.entry.About.{About}
use Rattle.desk_audit.specs.private.ByName.{Gathers, IsToldAt}
use Rattle.desk_audit.specs.private.Entries.{AreEntriesOf, IsEntryOf}
use Rattle.desk_audit.proofs.ByNameLemmas.{Abouts, IsAt}
use Rattle.desk_audit.proofs.ByTextLemmas.{told_same}
use Rattle.desk_audit.proofs.ListLemmas.{from_mapped, to_mapped}

-- A list of one set is a list of each set with the same messages.
pub lists_same : (S T : Message → Type 0) (list : List Message) → SameSet S T → Lists S list → Lists T list
lists_same S T list same lists m = (λ held. (lists m).0 ((same m).1 held), λ there. (same m).0 ((lists m).1 there))

-- ---- questions, one after the other

module _ {K : Type 0} (g : Ghosts K) (a b c : K) where
  -- both questions commit nothing
  pub adds_both : (g.is_clean c → g.is_clean b) → (g.is_clean b → AddsOnly (g.may_leave a) (g.may_leave b) (λ _. ⊥))
      → (g.is_clean c → AddsOnly (g.may_leave b) (g.may_leave c) (λ _. ⊥)) → g.is_clean c → AddsOnly (g.may_leave a) (g.may_leave c) (λ _. ⊥)
  adds_both was first second clean left may =
      elim (second clean left may) as (λ _. g.may_leave a left ⊎ ⊥) [ inl before ↦ first (was clean) left before | inr none ↦ absurd none ]

-- a question that was answered, and then one that gives the answer
pub asks_both : {K T U : Type 0} (g : Ghosts K) (a b c : DeskState K) {x : U} (r : Result T Refusal)
    → (g.is_same a.keeper b.keeper → g.is_same b.keeper c.keeper → g.is_same a.keeper c.keeper)
    → OnlyAsks g a b (Ok x) → OnlyAsks g b c r → OnlyAsks g a c r
asks_both g a b c r same_on first second = record {
  settings = settings_both a b c first.settings second.settings;
  unchanged = λ up. same_on (first.unchanged (second.served.was_up up)) (second.unchanged up);
  served = served_then (λ none. absurd none) first.served second.served;
  live = second.live;
  leaves = adds_both g a.keeper b.keeper c.keeper second.served.was_clean first.leaves second.leaves;
}

-- ---- as in the map

abbrev pub Keyed : Type 0
Keyed = RequestName × About

-- an entry, as the map has it
abbrev pub keyed : AuditEntry → Keyed
keyed e = (e.name, e.about)

abbrev pub EntryPrecedes : (d e : AuditEntry) → Type 0
EntryPrecedes d e = NamePrecedes d.name e.name

-- ---- their order

above : (k : RequestName) (es : List AuditEntry) → AllByRecursion (λ y. name_cmp k y ≡ Less) (keys_of (map keyed es))
    → (e : AuditEntry) → Contains es e → name_cmp k e.name ≡ Less
above k [] all e m = absurd (no_member e m)
above k (d ∷ es) all e m =
    elim (Contains-cases d es e m) as (λ _. name_cmp k e.name ≡ Less) [
      | inl same ↦ subst (λ (x : AuditEntry). name_cmp k x.name ≡ Less) same all.0
      | inr later ↦ above k es all.1 e later
    ]

in_order : (es : List AuditEntry) → IsStrictlySortedBy name_cmp (keys_of (map keyed es)) → AreInOrder EntryPrecedes es
in_order [] sorted = tt
in_order (e ∷ es) sorted = (
  behind_from_each EntryPrecedes e es (λ d m.
      lower_from_less e.name d.name (above e.name es (sorted_head name_cmp e.name (keys_of (map keyed es)) sorted) d m)),
  in_order es (sorted_tail name_cmp e.name (keys_of (map keyed es)) sorted),
)

exact_names : (a b : RequestName) → name_cmp a b ≡ Equal → a ≡ b
exact_names a b h =
    let pairs : ◌≡◌ {A = List ℕ × ℕ} (a.by, a.no) (b.by, b.no) =
    exact_pairs (slice_cmp nat_cmp) nat_cmp exact_bytes exact_unsigned (a.by, a.no) (b.by, b.no) h in
    ap (λ (p : List ℕ × ℕ). record { by = p.0; no = p.1 }) pairs

-- ---- all of them

module _ (f : RosterFields Cmnd) (set list : List Message) (all : Abouts) (g : Gathers list all) (entries : List AuditEntry)
    (same : map keyed entries ≡ all.entries) where
  at_its_name : (e : AuditEntry) → Contains entries e → IsToldAt list e.name e.about
  at_its_name e among =
      let there : Contains all.entries (keyed e) = subst (λ (ks : List Keyed). Contains ks (keyed e)) same (to_mapped keyed entries e among) in
      subst (IsAt list e.name) (at_entry all g.ordered (keyed e) there) (g.each e.name)

  has_entry : (m : Message) → Contains list m → (e : AuditEntry) × Contains entries e × (e.name ≡ name_in m)
  has_entry m spoken = by_name (at_name all (name_in m)) refl (g.each (name_in m))
    where
      by_name : (o : Option About) → at_name all (name_in m) ≡ o → IsAt list (name_in m) o → (e : AuditEntry) × Contains entries e × (e.name ≡ name_in m)
      by_name None was nobody = absurd (nobody m spoken refl)
      by_name (Some about) was is =
          let there : Contains all.entries (name_in m, about) = (btree_map_get_iff names_total exact_names all g.ordered (name_in m) about).0 was in
          let found = from_mapped keyed entries (name_in m, about) (subst (λ (ks : List Keyed). Contains ks (name_in m, about)) (sym same) there) in
          (found.0, found.1, ap (λ (k : Keyed). k.0) found.2)

  pub are_entries : AllByRecursion (λ e. ComesTo f set e.name e.status) entries → AreEntriesOf f set list entries
  are_entries statuses =
      let Status : AuditEntry → Type 0 = λ e. ComesTo f set e.name e.status in
      record {
        in_order = in_order entries (subst (λ (ks : List Keyed). IsStrictlySortedBy name_cmp (keys_of ks)) (sym same) g.ordered);
        each = λ e among.
            let told = at_its_name e among in
            record {
              spoken = told.spoken;
              about = told.told;
              status = All-contains Status entries e (All-from_recursion Status entries statuses) among;
            };
        all = has_entry;
      }

-- All that a list of the set says of each name is the set's audit.
pub audit_of_list : (f : RosterFields Cmnd) (set list : List Message) (entries : List AuditEntry)
    → SameMessages list set → AreEntriesOf f set list entries → IsAudit f set entries
audit_of_list f set list entries same are = record {
  in_order = are.in_order;
  each = λ e among.
      let is = are.each e among in
      record {
        spoken = (is.spoken.0, (same is.spoken.0).0 is.spoken.1, is.spoken.2);
        about = told_same list set e.name e.about same is.about;
        status = is.status;
      };
  all = λ m there. are.all m ((same m).1 there);
}

-- ---- of one name

module _ (f : RosterFields Cmnd) (set list : List Message) (name : RequestName) (about : AreAbout set name list) where
  told_within : (a : About) → TellsMessages list name a → TellsMessages set name a
  told_within a told = record {
    requests_in_order = told.requests_in_order;
    verdicts_in_order = told.verdicts_in_order;
    requests = λ q. (
      (λ among. let was = (told.requests q).0 among in (((about (Request q)).0 was.0).0, was.1)),
      (λ there. (told.requests q).1 ((about (Request q)).1 there, there.1)),
    );
    verdicts = λ v. (
      (λ among. let was = (told.verdicts v).0 among in (((about (Verdict v)).0 was.0).0, was.1)),
      (λ there. (told.verdicts v).1 ((about (Verdict v)).1 there, there.1)),
    );
  }

  its_name : (e : AuditEntry) → IsEntryOf f set list e → e.name ≡ name
  its_name e is = sym is.spoken.2 ∙ ((about is.spoken.0).0 is.spoken.1).1

  tells_name : (e : AuditEntry) → IsEntryOf f set list e → TellsName f set e
  tells_name e is =
      let same = its_name e is in
      let told = told_within e.about (subst (λ (n : RequestName). TellsMessages list n e.about) same is.about) in
      record {
        spoken = (is.spoken.0, ((about is.spoken.0).0 is.spoken.1).0, is.spoken.2);
        about = subst (λ (n : RequestName). TellsMessages set n e.about) (sym same) told;
        status = is.status;
      }

  -- What the messages about a name say is what is told of the name.
  pub of_its_messages : (entries : List AuditEntry) → AreEntriesOf f set list entries → AreOfName f set name entries
  of_its_messages [] are =
      inr ((λ m there named. let found = are.all m ((about m).1 (there, named)) in no_member found.0 found.1), refl)
  of_its_messages (e ∷ []) are =
      let is = are.each e (Contains-head e []) in inl (e, tells_name e is, its_name e is, refl)
  of_its_messages (d ∷ e ∷ es) are =
      let first = its_name d (are.each d (Contains-head d (e ∷ es))) in
      let second = its_name e (are.each e (Contains-behind d (e ∷ es) e (Contains-head e es))) in
      absurd (not_precede_same d.name e.name are.in_order.0.0 (first ∙ sym second))

-- ---- one more

pub keyed_is : (e : AuditEntry) (name : RequestName) (about : About) → e.name ≡ name → e.about ≡ about → keyed e ≡ (name, about)
keyed_is e name about same_name same_about =
    subst (λ (n : RequestName). keyed e ≡ (n, about)) same_name (subst (λ (a : About). keyed e ≡ (e.name, a)) same_about refl)

pub split_once_more : (old new : List AuditEntry) (e : AuditEntry) (k : Keyed) (rest next all : List Keyed)
    → new ≡ old ++ e ∷ [] → keyed e ≡ k → rest ≡ k ∷ next → map keyed old ++ rest ≡ all → map keyed new ++ next ≡ all
split_once_more old new e k rest next all more is steps split =
    ap (λ (es : List AuditEntry). map keyed es ++ next) more
    ∙ ap (λ (ks : List Keyed). ks ++ next) (map-append keyed old (e ∷ []) ∙ ap (λ (x : Keyed). map keyed old ++ x ∷ []) is)
    ∙ turn_split (map keyed old) rest next all k split steps

pub split_ends : (es : List AuditEntry) (rest all : List Keyed) → rest ≡ [] → map keyed es ++ rest ≡ all → map keyed es ≡ all
split_ends es rest all ended split =
    sym (append-nil (map keyed es)) ∙ subst (λ (ks : List Keyed). map keyed es ++ ks ≡ all) ended split

status_push : (P : AuditEntry → Type 0) (es : List AuditEntry) (e : AuditEntry) → AllByRecursion P es → P e → AllByRecursion P (es ++ e ∷ [])
status_push P [] e all is = (is, tt)
status_push P (d ∷ es) e all is = (all.0, status_push P es e all.1 is)

pub one_status_more : (P : AuditEntry → Type 0) (old new : List AuditEntry) (e : AuditEntry) → new ≡ old ++ e ∷ []
    → AllByRecursion P old → P e → AllByRecursion P new
one_status_more P old new e more all is = subst (λ (es : List AuditEntry). AllByRecursion P es) (sym more) (status_push P old e all is)

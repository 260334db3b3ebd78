-- What an audit tells of a set has one text; and what is told of a name is what the whole audit has of that name.
use Rattle.std.proofs.Common.{◌≡◌, ◌⊎◌, ◌&&◌, ◌||◌, ℕ, Bool, true, false, cond, Option, Some, None, List, [], ◌∷◌, map}
use Rattle.std.proofs.Common.{refl, sym, ap, ◌∙◌, subst, inl, inr}
use Rattle.std.specs.List.{Contains, list_any}
use Rattle.std.specs.Prelude.{filter, is_some}
use Rattle.std.proofs.lemmas.Bool.{and_from, and_parts}
use Rattle.std.proofs.lemmas.Bool.Decides.{Decides-eqb}
use Rattle.std.proofs.lemmas.Slice.Eq.{bytes_eq-Decides}
use Rattle.sudo_words.specs.declared.cmnd.Cmnd.{Cmnd}
use Rattle.messages.specs.Fields.{RequestFields, VerdictFields}
use Rattle.messages.specs.Names.{NamePrecedes}
use Rattle.messages.specs.Order.{AllAfter, AreInOrder}
use Rattle.messages.specs.Wire.{request_text, verdict_text}
use Rattle.messages.specs.declared.message.Message.{Message}
use Rattle.messages.specs.declared.request_name.RequestName.{RequestName}
use Rattle.messages.proofs.NameOrder.{names_strict, not_precede_same, texts_strict}
use Rattle.roster.specs.Fields.{RosterFields}
use Rattle.outcomes.specs.Outcomes.{ComesTo}
use Rattle.outcomes.proofs.Membership.{Contains-cases, Contains-head, Contains-behind, no_member}
use Rattle.outcomes.proofs.Orders.{behind_each, same_lists}
use Rattle.outcomes.proofs.SetLemmas.{one_outcome}
use Rattle.grants.specs.declared.outcome.Status.{Status}
use Rattle.grants.specs.declared.outcome.Status.TheVariants.{Disputed, Lapsed, Refused, Waiting, Void, Granted}
use Rattle.findings.specs.Picks.{after, all, has_host_among, has_person_of, has_span, has_span_of, is_open, is_told, is_whole, told_at}
use Rattle.findings.specs.declared.entry.AuditEntry.{AuditEntry}
use Rattle.findings.specs.declared.entry.About.{About}
use Rattle.findings.specs.declared.pick.Pick.{Pick}
use Rattle.findings.proofs.OneDocument.{Parts, one_document, parts_of}
use Rattle.desk_audit.specs.Audit.{IsAudit, TellsName}
use Rattle.desk_audit.specs.Documents.{AreOfName, IsAuditText, IsNameText, IsOpenText, is_named}
use Rattle.desk_audit.specs.Told.{TellsMessages}
use Rattle.desk_audit.proofs.AuditLemmas.{EntryPrecedes}
use Rattle.desk_audit.proofs.ListLemmas.{from_mapped, to_mapped}
use Rattle.desk_audit.proofs.ToldLemmas.{RequestPrecedes, VerdictPrecedes}

-- ---- one entry

one_requests : (set : List Message) (name : RequestName) (a b : About) → TellsMessages set name a → TellsMessages set name b
    → a.requests.items ≡ b.requests.items
one_requests set name a b x y =
    same_lists RequestPrecedes (λ q r. texts_strict (request_text q) (request_text r)) a.requests.items b.requests.items x.requests_in_order y.requests_in_order
    (λ q there. (y.requests q).1 ((x.requests q).0 there)) (λ q there. (x.requests q).1 ((y.requests q).0 there))

one_verdicts : (set : List Message) (name : RequestName) (a b : About) → TellsMessages set name a → TellsMessages set name b
    → a.verdicts.items ≡ b.verdicts.items
one_verdicts set name a b x y =
    same_lists VerdictPrecedes (λ v w. texts_strict (verdict_text v) (verdict_text w)) a.verdicts.items b.verdicts.items x.verdicts_in_order y.verdicts_in_order
    (λ v there. (y.verdicts v).1 ((x.verdicts v).0 there)) (λ v there. (x.verdicts v).1 ((y.verdicts v).0 there))

-- what is told of a name is told in one way
pub one_entry : (f : RosterFields Cmnd) (set : List Message) (d e : AuditEntry) → d.name ≡ e.name
    → TellsName f set d → TellsName f set e → parts_of d ≡ parts_of e
one_entry f set d e same x y =
    let about : TellsMessages set e.name d.about = subst (λ (n : RequestName). TellsMessages set n d.about) same x.about in
    let requests : d.about.requests.items ≡ e.about.requests.items = one_requests set e.name d.about e.about about y.about in
    let verdicts : d.about.verdicts.items ≡ e.about.verdicts.items = one_verdicts set e.name d.about e.about about y.about in
    let status : d.status ≡ e.status =
    one_outcome f set e.name d.status e.status (subst (λ (n : RequestName). ComesTo f set n d.status) same x.status) y.status in
    rw (same, requests, verdicts, status) refl

-- ---- one audit

abbrev entry_name : AuditEntry → RequestName
entry_name e = e.name

after_names : (e : AuditEntry) (es : List AuditEntry) → AllAfter EntryPrecedes e es → AllAfter NamePrecedes e.name (map entry_name es)
after_names e [] after = tt
after_names e (d ∷ es) after = (after.0, after_names e es after.1)

names_in_order : (es : List AuditEntry) → AreInOrder EntryPrecedes es → AreInOrder NamePrecedes (map entry_name es)
names_in_order [] ordered = tt
names_in_order (e ∷ es) ordered = (after_names e es ordered.0, names_in_order es ordered.1)

module _ (f : RosterFields Cmnd) (set : List Message) where
  name_there : (xs ys : List AuditEntry) → IsAudit f set xs → IsAudit f set ys
      → (n : RequestName) → Contains (map entry_name xs) n → Contains (map entry_name ys) n
  name_there xs ys x y n there =
      let mine = from_mapped entry_name xs n there in
      let spoken = (x.each mine.0 mine.1).spoken in
      let other = y.all spoken.0 spoken.1 in
      subst (Contains (map entry_name ys)) (other.2 ∙ spoken.2 ∙ mine.2) (to_mapped entry_name ys other.0 other.1)

  same_names : (xs ys : List AuditEntry) → IsAudit f set xs → IsAudit f set ys → map entry_name xs ≡ map entry_name ys
  same_names xs ys x y =
      same_lists NamePrecedes names_strict (map entry_name xs) (map entry_name ys) (names_in_order xs x.in_order) (names_in_order ys y.in_order)
      (name_there xs ys x y) (name_there ys xs y x)

  same_parts : (xs ys : List AuditEntry) → map entry_name xs ≡ map entry_name ys → ((e : AuditEntry) → Contains xs e → TellsName f set e)
      → ((e : AuditEntry) → Contains ys e → TellsName f set e) → map parts_of xs ≡ map parts_of ys
  same_parts [] [] names x y = refl
  same_parts [] (e ∷ ys) names x y = absurd cc
  same_parts (d ∷ xs) [] names x y = absurd cc
  same_parts (d ∷ xs) (e ∷ ys) names x y =
      let heads : d.name ≡ e.name = cc in
      let tails : map entry_name xs ≡ map entry_name ys = cc in
      let parts : parts_of d ≡ parts_of e = one_entry f set d e heads (x d (Contains-head d xs)) (y e (Contains-head e ys)) in
      ap (λ (p : Parts). p ∷ map parts_of xs) parts
      ∙ ap (λ (ps : List Parts). parts_of e ∷ ps)
      (same_parts xs ys tails (λ k there. x k (Contains-behind d xs k there)) (λ k there. y k (Contains-behind e ys k there)))

  one_audit : (xs ys : List AuditEntry) → IsAudit f set xs → IsAudit f set ys → map parts_of xs ≡ map parts_of ys
  one_audit xs ys x y = same_parts xs ys (same_names xs ys x y) x.each y.each

-- ---- what is chosen of the audit

span_same : (pick : Pick) (a b : About) (s : Option Status) → a.requests.items ≡ b.requests.items → a.verdicts.items ≡ b.verdicts.items
    → has_span_of pick a s ≡ has_span_of pick b s
span_same pick a b None requests verdicts = ap (list_any (λ (v : VerdictFields). has_span pick v.at v.at)) verdicts
span_same pick a b (Some (Granted w)) requests verdicts = refl
span_same pick a b (Some Disputed) requests verdicts = ap (list_any (λ (q : RequestFields). has_span pick q.from q.until)) requests
span_same pick a b (Some Lapsed) requests verdicts = ap (list_any (λ (q : RequestFields). has_span pick q.from q.until)) requests
span_same pick a b (Some Refused) requests verdicts = ap (list_any (λ (q : RequestFields). has_span pick q.from q.until)) requests
span_same pick a b (Some Waiting) requests verdicts = ap (list_any (λ (q : RequestFields). has_span pick q.from q.until)) requests
span_same pick a b (Some Void) requests verdicts = ap (list_any (λ (q : RequestFields). has_span pick q.from q.until)) requests

span_alike : (pick : Pick) (x y : AuditEntry) → parts_of x ≡ parts_of y → has_span_of pick x.about x.status ≡ has_span_of pick y.about y.status
span_alike pick x y same =
    ap (λ (s : Option Status). has_span_of pick x.about s) (ap (λ (p : Parts). p.status) same)
    ∙ span_same pick x.about y.about y.status (ap (λ (p : Parts). p.requests) same) (ap (λ (p : Parts). p.verdicts) same)

open_alike : (at : ℕ) (x y : AuditEntry) → parts_of x ≡ parts_of y → is_open at x ≡ is_open at y
open_alike at x y same =
    ap (λ (s : Option Status). is_some s && has_span_of (after at) x.about x.status) (ap (λ (p : Parts). p.status) same)
    ∙ ap (λ (b : Bool). is_some y.status && b) (span_alike (after at) x y same)

told_alike : (pick : Pick) (x y : AuditEntry) → parts_of x ≡ parts_of y → is_told pick x ≡ is_told pick y
told_alike pick x y same =
    let requests : x.about.requests.items ≡ y.about.requests.items = ap (λ (p : Parts). p.requests) same in
    let verdicts : x.about.verdicts.items ≡ y.about.verdicts.items = ap (λ (p : Parts). p.verdicts) same in
    let by : x.name.by ≡ y.name.by = ap (λ (p : Parts). p.name.by) same in
    let span = span_alike pick x y same in
    let host : has_host_among pick x.about.requests.items ≡ has_host_among pick y.about.requests.items = ap (has_host_among pick) requests in
    let person : has_person_of pick x.name.by x.about.verdicts.items ≡ has_person_of pick y.name.by y.about.verdicts.items =
    ap (λ (n : List ℕ). has_person_of pick n x.about.verdicts.items) by ∙ ap (has_person_of pick y.name.by) verdicts in
    ap (λ (b : Bool). is_whole pick || (b && has_host_among pick x.about.requests.items && has_person_of pick x.name.by x.about.verdicts.items)) span
    ∙ ap (λ (b : Bool). is_whole pick || (has_span_of pick y.about y.status && b && has_person_of pick x.name.by x.about.verdicts.items)) host
    ∙ ap (λ (b : Bool). is_whole pick || (has_span_of pick y.about y.status && has_host_among pick y.about.requests.items && b)) person

module _ (p : AuditEntry → Bool) (alike : (x y : AuditEntry) → parts_of x ≡ parts_of y → p x ≡ p y) where
  filter_same : (xs ys : List AuditEntry) → map parts_of xs ≡ map parts_of ys → map parts_of (filter p xs) ≡ map parts_of (filter p ys)
  filter_same [] [] same = refl
  filter_same [] (y ∷ ys) same = absurd cc
  filter_same (x ∷ xs) [] same = absurd cc
  filter_same (x ∷ xs) (y ∷ ys) same =
      let heads : parts_of x ≡ parts_of y = cc in
      let tails : map parts_of xs ≡ map parts_of ys = cc in
      by (p x) (p y) (alike x y heads) heads (filter_same xs ys tails)
    where
      by : (a b : Bool) → a ≡ b → parts_of x ≡ parts_of y → map parts_of (filter p xs) ≡ map parts_of (filter p ys)
          → map parts_of (cond a (x ∷ filter p xs) (filter p xs)) ≡ map parts_of (cond b (y ∷ filter p ys) (filter p ys))
      by true true e heads rest = ap (λ (h : Parts). h ∷ map parts_of (filter p xs)) heads ∙ ap (λ (t : List Parts). parts_of y ∷ t) rest
      by true false e heads rest = absurd cc
      by false true e heads rest = absurd cc
      by false false e heads rest = rest

pub one_audit_text : (f : RosterFields Cmnd) (set : List Message) (pick : Pick) (s t : List ℕ)
    → IsAuditText f set pick s → IsAuditText f set pick t → s ≡ t
one_audit_text f set pick s t x y =
    one_document f pick (filter (is_told pick) x.entries) (filter (is_told pick) y.entries) s t
    (filter_same (is_told pick) (told_alike pick) x.entries y.entries (one_audit f set x.entries y.entries x.audit y.audit)) x.document y.document

pub one_open_text : (f : RosterFields Cmnd) (set : List Message) (at : ℕ) (s t : List ℕ) → IsOpenText f set at s → IsOpenText f set at t → s ≡ t
one_open_text f set at s t x y =
    one_document f (told_at at) (filter (is_open at) x.entries) (filter (is_open at) y.entries) s t
    (filter_same (is_open at) (open_alike at) x.entries y.entries (one_audit f set x.entries y.entries x.audit y.audit)) x.document y.document

-- ---- one name

one_of_name : (f : RosterFields Cmnd) (set : List Message) (name : RequestName) (xs ys : List AuditEntry) → AreOfName f set name xs → AreOfName f set name ys
    → map parts_of xs ≡ map parts_of ys
one_of_name f set name xs ys (inl x) (inl y) =
    ap (map parts_of) x.3
    ∙ ap (λ (p : Parts). p ∷ []) (one_entry f set x.0 y.0 (x.2 ∙ sym y.2) x.1 y.1)
    ∙ sym (ap (map parts_of) y.3)
one_of_name f set name xs ys (inl x) (inr y) = absurd (y.0 x.1.spoken.0 x.1.spoken.1 (x.1.spoken.2 ∙ x.2))
one_of_name f set name xs ys (inr x) (inl y) = absurd (x.0 y.1.spoken.0 y.1.spoken.1 (y.1.spoken.2 ∙ y.2))
one_of_name f set name xs ys (inr x) (inr y) = ap (map parts_of) (x.1 ∙ sym y.1)

pub one_name_text : (f : RosterFields Cmnd) (set : List Message) (name : RequestName) (s t : List ℕ)
    → IsNameText f set name s → IsNameText f set name t → s ≡ t
one_name_text f set name s t x y =
    one_document f all x.entries y.entries s t (one_of_name f set name x.entries y.entries x.of_name y.of_name) x.document y.document

module _ (f : RosterFields Cmnd) (set : List Message) (asker : List ℕ) (number : ℕ) where
  abbrev the_name : RequestName
  the_name = record { by = asker; no = number }

  its_name : (e : AuditEntry) → is_named asker number e ≡ true → e.name ≡ the_name
  its_name e is =
      let tests = and_parts _ _ is in
      let by : e.name.by ≡ asker = (bytes_eq-Decides e.name.by asker).0 tests.0 in
      let same : e.name.no ≡ number = (Decides-eqb e.name.no number).0 tests.1 in
      ap (λ (b : List ℕ). record { by = b; no = e.name.no }) by ∙ ap (λ (n : ℕ). record { by = asker; no = n }) same

  is_its : (e : AuditEntry) → e.name ≡ the_name → is_named asker number e ≡ true
  is_its e is =
      let by : e.name.by ≡ asker = ap (λ (n : RequestName). n.by) is in
      let same : e.name.no ≡ number = ap (λ (n : RequestName). n.no) is in
      and_from _ _ ((bytes_eq-Decides e.name.by asker).1 by) ((Decides-eqb e.name.no number).1 same)

  -- one entry has the name, and no other; or none has it
  abbrev Found : List AuditEntry → Type 0
  Found xs =
      ((e : AuditEntry) × Contains xs e × (e.name ≡ the_name) × (filter (is_named asker number) xs ≡ e ∷ []))
      ⊎ (((e : AuditEntry) → Contains xs e → e.name ≡ the_name → ⊥) × (filter (is_named asker number) xs ≡ []))

  found : (xs : List AuditEntry) → AreInOrder EntryPrecedes xs → Found xs
  found [] ordered = inr ((λ e there. absurd (no_member e there)), refl)
  found (x ∷ xs) ordered = by (is_named asker number x) refl (found xs ordered.1)
    where
      by : (b : Bool) → is_named asker number x ≡ b → Found xs → Found (x ∷ xs)
      by true is (inl it) = absurd (not_precede_same x.name it.0.name (behind_each EntryPrecedes x xs ordered.0 it.0 it.1) (its_name x is ∙ sym it.2))
      by true is (inr none) =
          inl (
            x,
            Contains-head x xs,
            its_name x is,
            ap (λ (b : Bool). cond b (x ∷ filter (is_named asker number) xs) (filter (is_named asker number) xs)) is
                ∙ ap (λ (es : List AuditEntry). x ∷ es) none.1,
          )
      by false is (inl it) =
          inl (
            it.0,
            Contains-behind x xs it.0 it.1,
            it.2,
            ap (λ (b : Bool). cond b (x ∷ filter (is_named asker number) xs) (filter (is_named asker number) xs)) is ∙ it.3,
          )
      by false is (inr none) = inr (
        (λ e there named. elim (Contains-cases x xs e there) as (λ _. ⊥) [
          | inl same ↦ let yes_it : is_named asker number x ≡ true = is_its x (ap entry_name same ∙ named) in
              let wrong : false ≡ true = sym is ∙ yes_it in absurd cc
          | inr later ↦ none.0 e later named
        ]),
        ap (λ (b : Bool). cond b (x ∷ filter (is_named asker number) xs) (filter (is_named asker number) xs)) is ∙ none.1,
      )

  -- the audit's entry of the name is what is told of the name
  pub named_entries : (xs : List AuditEntry) → IsAudit f set xs → AreOfName f set the_name (filter (is_named asker number) xs)
  named_entries xs is = by (found xs is.in_order)
    where
      by : Found xs → AreOfName f set the_name (filter (is_named asker number) xs)
      by (inl it) = inl (it.0, is.each it.0 it.1, it.2, it.3)
      by (inr none) = inr ((λ m there named. let own = is.all m there in none.0 own.0 own.1 (own.2 ∙ named)), none.1)

-- Entries have one document, whatever room their lists have.
use Rattle.std.proofs.Common.{◌≡◌, ℕ, ◌-◌, List, [], ◌∷◌, ◌++◌, map, codes, length, Option, Some, None, refl, sym, ap, ◌∙◌, subst, arith}
use Rattle.std.specs.List.{flat_map}
use Rattle.std.specs.List.Sorted.{IsPermutation}
use Rattle.std.specs.Prelude.{option_map}
use Rattle.std.specs.Cmp.{IsTotalOrder}
use Rattle.std.specs.Cmp.Lexicographic.{nat_list_cmp_total, slice_cmp}
use Rattle.std.specs.Ordering.{nat_cmp, ordering_then}
use Rattle.std.specs.declared.cmp.Ordering.{Ordering}
use Rattle.std.specs.declared.cmp.Ordering.TheVariants.{Equal, Greater, Less}
use Rattle.std.proofs.lemmas.Cmp.{nat_cmp_total, on_total, then_total}
use Rattle.std.proofs.lemmas.Map.Lookups.{exact_bytes, exact_unsigned}
use Rattle.sudo_words.specs.declared.cmnd.Cmnd.{Cmnd}
use Rattle.messages.specs.Fields.{RequestFields, VerdictFields}
use Rattle.messages.specs.declared.message.Message.{Message}
use Rattle.messages.specs.declared.message.Message.TheVariants.{Request}
use Rattle.messages.specs.declared.request_name.RequestName.{RequestName}
use Rattle.roster.specs.Fields.{RosterFields}
use Rattle.grants.specs.declared.denial.Denial.{Denial}
use Rattle.grants.specs.declared.outcome.Status.{Status}
use Rattle.grants.specs.Verdicts.{IsComplete}
use Rattle.grants.proofs.Answering.{no_denial, one_denial}
use Rattle.findings.specs.Document.{AreTextsOf, IsDenialOf, IsDocument, IsEntryText, document, host_window_json, lacks_json, lapsed, requests_json}
use Rattle.findings.specs.Document.{status_json, verdicts_json}
use Rattle.findings.specs.Effects.{approvals_under, effect}
use Rattle.findings.specs.Judging.{Asked, IsCompletionOf, approvers_of, ceiling_asked, messages_on, only_one, only_request, or_own, waiting_as}
use Rattle.findings.specs.Windows.{AreWindows, window_cmp, windows_by, windows_of}
use Rattle.findings.specs.declared.by_host.HostWindow.{HostWindow}
use Rattle.findings.specs.declared.entry.AuditEntry.{AuditEntry}
use Rattle.findings.specs.declared.pick.Pick.{Pick}
use Rattle.findings.proofs.OneSortedList.{one_sorted_list}

-- ---- what a document says of an entry

pub record Parts : Type 0 where
  pub name : RequestName
  pub requests : List RequestFields
  pub verdicts : List VerdictFields
  pub status : Option Status

abbrev pub parts_of : AuditEntry → Parts
parts_of e = record { name = e.name; requests = e.about.requests.items; verdicts = e.about.verdicts.items; status = e.status }

module _ (f : RosterFields Cmnd) where
  -- the request that waits
  abbrev waiting_in : Parts → Option Asked
  waiting_in p = waiting_as p.status (only_one (ceiling_asked f p.requests) p.requests)

  abbrev approvals_in : Parts → List VerdictFields
  approvals_in p = approvals_under f (ceiling_asked f p.requests) p.verdicts

  abbrev json_of : (until : Option ℕ) → Parts → (complete : Option ℕ) → Option Denial → List ℕ
  json_of until p complete denial =
      status_json p.name p.status denial ++ requests_json p.requests
      ++ verdicts_json (λ v. effect f (ceiling_asked f p.requests) complete p.status v) p.verdicts
      ++ lacks_json (option_map (λ a. a.1.needs - length (approvals_in p)) (waiting_in p)) (option_map (λ a. or_own until a.0) (waiting_in p))
      (λ at. approvers_of f (approvals_in p) at (waiting_in p)) ++ codes "}"

  abbrev IsTextOf : (until : Option ℕ) → Parts → List ℕ → Type 0
  IsTextOf until p text = (complete : Option ℕ) × (denial : Option Denial) × IsCompletionOf f (only_request p.requests) p.verdicts complete
      × IsDenialOf f (lapsed p.status p.requests) denial × (text ≡ json_of until p complete denial)

  of_entry : (until : Option ℕ) (e : AuditEntry) (text : List ℕ) → IsEntryText f until e text → IsTextOf until (parts_of e) text
  of_entry until e text is = is

  one_moment : (set : List Message) (q : RequestFields) (m n : ℕ) → IsComplete f set q m → IsComplete f set q n → m ≡ n
  one_moment set q m n x y =
      let low = x.least n y.approved in
      let high = y.least m x.approved in
      omega (arith, low, high)

  pub one_completion : (q : Option RequestFields) (vs : List VerdictFields) (a b : Option ℕ) → IsCompletionOf f q vs a → IsCompletionOf f q vs b → a ≡ b
  one_completion None vs a b x y = x ∙ sym y
  one_completion (Some q) vs None None x y = refl
  one_completion (Some q) vs None (Some m) x y = absurd (x m y)
  one_completion (Some q) vs (Some m) None x y = absurd (y m x)
  one_completion (Some q) vs (Some m) (Some n) x y = ap (λ (k : ℕ). Some k) (one_moment (messages_on q vs) q m n x y)

  pub one_denial_of : (q : Option RequestFields) (a b : Option Denial) → IsDenialOf f q a → IsDenialOf f q b → a ≡ b
  one_denial_of None a b x y = x ∙ sym y
  one_denial_of (Some q) None None x y = refl
  one_denial_of (Some q) None (Some d) x y = absurd (no_denial f (Request q) d x y.applies)
  one_denial_of (Some q) (Some d) None x y = absurd (no_denial f (Request q) d y x.applies)
  one_denial_of (Some q) (Some d) (Some e) x y = ap (λ (k : Denial). Some k) (one_denial f (Request q) d e x y)

  one_text : (until : Option ℕ) (p : Parts) (s t : List ℕ) → IsTextOf until p s → IsTextOf until p t → s ≡ t
  one_text until p s t x y =
      x.4
      ∙ ap (λ (c : Option ℕ). json_of until p c x.1) (one_completion (only_request p.requests) p.verdicts x.0 y.0 x.2 y.2)
      ∙ ap (λ (d : Option Denial). json_of until p y.0 d) (one_denial_of (lapsed p.status p.requests) x.1 y.1 x.3 y.3)
      ∙ sym y.4

-- ---- and of all of them

heads_same : (a b : Parts) (ps qs : List Parts) → a ∷ ps ≡ b ∷ qs → a ≡ b
heads_same a b ps qs e = cc

tails_same : (a b : Parts) (ps qs : List Parts) → a ∷ ps ≡ b ∷ qs → ps ≡ qs
tails_same a b ps qs e = cc

module _ (f : RosterFields Cmnd) (until : Option ℕ) where
  one_texts : (xs ys : List AuditEntry) (ss ts : List (List ℕ)) → map parts_of xs ≡ map parts_of ys
      → AreTextsOf (IsEntryText f until) xs ss → AreTextsOf (IsEntryText f until) ys ts → ss ≡ ts
  one_texts [] [] ss ts same a b = a ∙ sym b
  one_texts [] (y ∷ ys) ss ts same a b = absurd cc
  one_texts (x ∷ xs) [] ss ts same a b = absurd cc
  one_texts (x ∷ xs) (y ∷ ys) ss ts same a b =
      let heads = heads_same (parts_of x) (parts_of y) (map parts_of xs) (map parts_of ys) same in
      let tails = tails_same (parts_of x) (parts_of y) (map parts_of xs) (map parts_of ys) same in
      let text : a.0 ≡ b.0 =
      one_text f until (parts_of y) a.0 b.0 (subst (λ (p : Parts). IsTextOf f until p a.0) heads (of_entry f until x a.0 a.3)) (of_entry f until y b.0 b.3) in
      let more : a.1 ≡ b.1 = one_texts xs ys a.1 b.1 tails a.4 b.4 in
      a.2 ∙ ap (λ (t : List ℕ). t ∷ a.1) text ∙ ap (λ (ts : List (List ℕ)). b.0 ∷ ts) more ∙ sym b.2

abbrev windows_in : Pick → Parts → List HostWindow
windows_in pick p = windows_by pick p.requests p.status

windows_by_parts : (pick : Pick) (es : List AuditEntry) → flat_map (windows_of pick) es ≡ flat_map (windows_in pick) (map parts_of es)
windows_by_parts pick [] = refl
windows_by_parts pick (e ∷ es) = ap (λ (ws : List HostWindow). windows_of pick e ++ ws) (windows_by_parts pick es)

-- ---- the order of windows

windows_total : IsTotalOrder window_cmp
windows_total =
    then_total (on_total (λ (w : HostWindow). w.host) nat_list_cmp_total) (then_total (on_total (λ (w : HostWindow). w.start) nat_cmp_total)
    (then_total (on_total (λ (w : HostWindow). w.end) nat_cmp_total)
    (then_total (on_total (λ (w : HostWindow). w.by) nat_list_cmp_total) (on_total (λ (w : HostWindow). w.no) nat_cmp_total))))

both_equal : (a b : Ordering) → ordering_then a b ≡ Equal → (a ≡ Equal) × (b ≡ Equal)
both_equal Less b e = absurd cc
both_equal Equal b e = (refl, e)
both_equal Greater b e = absurd cc

exact_windows : (a b : HostWindow) → window_cmp a b ≡ Equal → a ≡ b
exact_windows a b e =
    let one = both_equal (slice_cmp nat_cmp a.host b.host) _ e in
    let two = both_equal (nat_cmp a.start b.start) _ one.1 in
    let three = both_equal (nat_cmp a.end b.end) _ two.1 in
    let four = both_equal (slice_cmp nat_cmp a.by b.by) _ three.1 in
    let host : a.host ≡ b.host = exact_bytes a.host b.host one.0 in
    let start : a.start ≡ b.start = exact_unsigned a.start b.start two.0 in
    let end : a.end ≡ b.end = exact_unsigned a.end b.end three.0 in
    let by : a.by ≡ b.by = exact_bytes a.by b.by four.0 in
    let no : a.no ≡ b.no = exact_unsigned a.no b.no four.1 in
    rw (host, start, end, by, no) refl

pub one_windows : (pick : Pick) (xs ys : List AuditEntry) (vs ws : List HostWindow) → map parts_of xs ≡ map parts_of ys
    → AreWindows pick xs vs → AreWindows pick ys ws → vs ≡ ws
one_windows pick xs ys vs ws same a b =
    let all : flat_map (windows_of pick) xs ≡ flat_map (windows_of pick) ys =
    windows_by_parts pick xs ∙ ap (flat_map (windows_in pick)) same ∙ sym (windows_by_parts pick ys) in
    one_sorted_list window_cmp windows_total exact_windows (flat_map (windows_of pick) ys) vs ws
    (subst (λ (zs : List HostWindow). IsPermutation zs vs) all a.each) b.each a.in_order b.in_order

-- Entries that say the same have the same document, and one.
pub one_document : (f : RosterFields Cmnd) (pick : Pick) (xs ys : List AuditEntry) (s t : List ℕ) → map parts_of xs ≡ map parts_of ys
    → IsDocument f pick xs s → IsDocument f pick ys t → s ≡ t
one_document f pick xs ys s t same a b =
    a.text_is
    ∙ ap (λ (names : List (List ℕ)). document names (map host_window_json a.windows))
    (one_texts f pick.until xs ys a.names b.names same a.names_are b.names_are)
    ∙ ap (λ (ws : List HostWindow). document b.names (map host_window_json ws)) (one_windows pick xs ys a.windows b.windows same a.windows_are b.windows_are)
    ∙ sym b.text_is

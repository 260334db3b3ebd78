-- Entries and windows that are written one by one.
use Rattle.std.proofs.Common.{◌≡◌, ℕ, ◌+◌, ◌<◌, Bool, true, false, cond, List, [], ◌∷◌, ◌++◌, Option, Some, length, get_or, drop, refl, sym, ap, ◌∙◌, subst}
use Rattle.std.specs.List.{concat, flat_map}
use Rattle.std.specs.Prelude.{filter}
use Rattle.std.proofs.lemmas.List.{append-nil, append_assoc}
use Rattle.sudo_words.specs.declared.cmnd.Cmnd.{Cmnd}
use Rattle.messages.specs.Fields.{VerdictFields}
use Rattle.roster.specs.Fields.{RosterFields}
use Rattle.grants.specs.declared.denial.Denial.{Denial}
use Rattle.findings.specs.Document.{AreTextsOf, IsDenialOn}
use Rattle.findings.specs.Judging.{approvers, asked_at, effect_on, IsCompletionOn, lacks}
use Rattle.findings.specs.Terminal.{AreEntryLines, host_line, lacks_lines, request_lines, status_line, verdict_line}
use Rattle.findings.specs.Terminal.{window_line, window_lines}
use Rattle.findings.specs.declared.by_host.HostWindow.{HostWindow}
use Rattle.findings.specs.declared.entry.AuditEntry.{AuditEntry}
use Rattle.findings.specs.private.Writing.{Adds, AddsAll}
use Rattle.findings.proofs.JoinedLemmas.{drop_next}
use Rattle.findings.proofs.PieceLemmas.{piece}

-- ---- windows below their hosts

pub window_more : (above last : Option (List ℕ)) (out mid new total : List ℕ) (w : HostWindow) (ws more : List HostWindow)
    → out ++ window_lines above ws ≡ total → ws ≡ w ∷ more → last ≡ Some w.host
    → mid ≡ out ++ host_line above w.host → new ≡ mid ++ window_line w
    → new ++ window_lines last more ≡ total
window_more above last out mid new total w ws more before are below host window =
    let rest : List ℕ = window_lines (Some w.host) more in
    ap (λ (o : Option (List ℕ)). new ++ window_lines o more) below
    ∙ ap (λ (t : List ℕ). t ++ rest) (piece out (host_line above w.host) mid (window_line w) new host window)
    ∙ append_assoc out (host_line above w.host ++ window_line w) rest
    ∙ ap (λ (vs : List HostWindow). out ++ window_lines above vs) (sym are)
    ∙ before

-- ---- those of a list that have a property

module _ {X : Type 0} (p : X → Bool) (xs : List X) (i : ℕ) (x : X) (below : i < length xs) (is : x ≡ get_or xs i x) where
  pub filter_has : p x ≡ true → filter p (drop i xs) ≡ x ∷ filter p (drop (i + 1) xs)
  filter_has has =
      let rest : List X = filter p (drop (i + 1) xs) in
      ap (λ (ys : List X). filter p ys) (drop_next xs i x below is) ∙ ap (λ (b : Bool). cond b (x ∷ rest) rest) has

  pub filter_lacks : p x ≡ false → filter p (drop i xs) ≡ filter p (drop (i + 1) xs)
  filter_lacks lacks =
      let rest : List X = filter p (drop (i + 1) xs) in
      ap (λ (ys : List X). filter p ys) (drop_next xs i x below is) ∙ ap (λ (b : Bool). cond b (x ∷ rest) rest) lacks

-- Whatever is added for the rest, all of it is added in all.
abbrev pub AddsMore : {X : Type 0} → (X → List ℕ → Type 0) → (whole rest : List X) → (old out : List ℕ) → Type 0
AddsMore IsText whole rest old out =
    (more : List (List ℕ)) → AreTextsOf IsText rest more
    → (all : List (List ℕ)) × AreTextsOf IsText whole all × (out ++ concat more ≡ old ++ concat all)

module _ {X : Type 0} (IsText : X → List ℕ → Type 0) (whole rest : List X) (old out : List ℕ) (before : AddsMore IsText whole rest old out) where
  pub adds_more : (x : X) (others : List X) (new : List ℕ) → rest ≡ x ∷ others → Adds (IsText x) out new → AddsMore IsText whole others old new
  adds_more x others new is adds more are =
      let texts : List (List ℕ) = adds.0 ∷ more in
      let all = before texts (subst (λ (ys : List X). AreTextsOf IsText ys texts) (sym is) (adds.0, more, refl, adds.2, are)) in (
        all.0,
        all.1,
        ap (λ (t : List ℕ). t ++ concat more) adds.1 ∙ append_assoc out adds.0 (concat more) ∙ all.2,
      )

  pub adds_same : (others : List X) → rest ≡ others → AddsMore IsText whole others old out
  adds_same others is = subst (λ (ys : List X). AddsMore IsText whole ys old out) is before

  pub adds_all : rest ≡ [] → AddsAll (AreTextsOf IsText whole) old out
  adds_all none =
      let all = before [] (subst (λ (ys : List X). AreTextsOf IsText ys []) (sym none) refl) in
      (all.0, sym (append-nil out) ∙ all.2, all.1)

-- ---- the lines of an entry, which was judged by the roster

module _ (until complete : Option ℕ) (denial : Option Denial) (two three new : List ℕ) (vs : List VerdictFields) where
  -- what is known of an entry that was judged
  abbrev pub AreWritten : RosterFields Cmnd → AuditEntry → Type 0
  AreWritten f e =
      IsDenialOn f e denial × (three ≡ two ++ flat_map (λ v. verdict_line (effect_on f e complete v) v) vs)
      × (new ≡ three ++ lacks_lines (lacks f e) (asked_at f e until) (approvers f e))

  pub lines_of : (f g : RosterFields Cmnd) (d e : AuditEntry) → g ≡ f → d ≡ e → AreWritten g d → AreWritten f e
  lines_of f g d e same_roster same_entry are =
      subst (λ (x : AuditEntry). AreWritten f x) same_entry (subst (λ (x : RosterFields Cmnd). AreWritten x d) same_roster are)

pub lines_written : (f : RosterFields Cmnd) (e : AuditEntry) (until complete : Option ℕ) (denial : Option Denial) (old one two three new : List ℕ)
    → IsCompletionOn f e complete → AreWritten until complete denial two three new e.about.verdicts.items f e
    → one ≡ old ++ status_line e.name e.status denial → two ≡ one ++ flat_map request_lines e.about.requests.items
    → Adds (AreEntryLines f until e) old new
lines_written f e until complete denial old one two three new done are first second =
    let a : List ℕ = status_line e.name e.status denial in
    let b : List ℕ = flat_map request_lines e.about.requests.items in
    let v : List ℕ = flat_map (λ v. verdict_line (effect_on f e complete v) v) e.about.verdicts.items in
    let d : List ℕ = lacks_lines (lacks f e) (asked_at f e until) (approvers f e) in
    let two_is = piece old a one b two first second in
    let three_is = piece old (a ++ b) two v three two_is are.1 in
    (a ++ b ++ v ++ d, piece old (a ++ b ++ v) three d new three_is are.2, (complete, denial, done, are.0, refl))

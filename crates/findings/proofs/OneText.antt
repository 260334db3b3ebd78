-- Entries have one text for a terminal.
use Rattle.std.proofs.Common.{◌≡◌, ℕ, List, [], ◌∷◌, Option, refl, sym, ap, ◌∙◌, true, false}
use Rattle.sudo_words.specs.declared.cmnd.Cmnd.{Cmnd}
use Rattle.roster.specs.Fields.{RosterFields}
use Rattle.grants.specs.declared.denial.Denial.{Denial}
use Rattle.findings.specs.Document.{AreTextsOf, lapsed}
use Rattle.findings.specs.Judging.{only_request}
use Rattle.findings.specs.Terminal.{AreEntryLines, IsTerminalText, entry_lines, text, those_under}
use Rattle.findings.specs.declared.by_host.HostWindow.{HostWindow}
use Rattle.findings.specs.declared.entry.AuditEntry.{AuditEntry}
use Rattle.findings.specs.declared.pick.Pick.{Pick}
use Rattle.findings.proofs.OneDocument.{one_completion, one_denial_of, one_windows}

each_one : {X : Type 0} (IsOne : X → List ℕ → Type 0) → ((x : X) (s t : List ℕ) → IsOne x s → IsOne x t → s ≡ t)
    → (xs : List X) (ss ts : List (List ℕ)) → AreTextsOf IsOne xs ss → AreTextsOf IsOne xs ts → ss ≡ ts
each_one IsOne one [] ss ts a b = a ∙ sym b
each_one IsOne one (x ∷ xs) ss ts a b =
    let head : a.0 ≡ b.0 = one x a.0 b.0 a.3 b.3 in
    let more : a.1 ≡ b.1 = each_one IsOne one xs a.1 b.1 a.4 b.4 in
    a.2 ∙ ap (λ (t : List ℕ). t ∷ a.1) head ∙ ap (λ (ts : List (List ℕ)). b.0 ∷ ts) more ∙ sym b.2

one_entry : (f : RosterFields Cmnd) (until : Option ℕ) (e : AuditEntry) (s t : List ℕ) → AreEntryLines f until e s → AreEntryLines f until e t → s ≡ t
one_entry f until e s t x y =
    let qs = e.about.requests.items in
    x.4
    ∙ ap (λ (c : Option ℕ). entry_lines f until e c x.1) (one_completion f (only_request qs) e.about.verdicts.items x.0 y.0 x.2 y.2)
    ∙ ap (λ (d : Option Denial). entry_lines f until e y.0 d) (one_denial_of f (lapsed e.status qs) x.1 y.1 x.3 y.3)
    ∙ sym y.4

pub one_text : (f : RosterFields Cmnd) (pick : Pick) (es : List AuditEntry) (s t : List ℕ) → IsTerminalText f pick es s → IsTerminalText f pick es t → s ≡ t
one_text f pick es s t a b =
    let IsOne : AuditEntry → List ℕ → Type 0 = AreEntryLines f pick.until in
    let one = one_entry f pick.until in
    let requests : a.requests ≡ b.requests = each_one IsOne one (those_under true es) a.requests b.requests a.requests_are b.requests_are in
    let parked : a.parked ≡ b.parked = each_one IsOne one (those_under false es) a.parked b.parked a.parked_are b.parked_are in
    a.text_is
    ∙ ap (λ (ts : List (List ℕ)). text ts a.parked a.windows) requests
    ∙ ap (λ (ts : List (List ℕ)). text b.requests ts a.windows) parked
    ∙ ap (λ (ws : List HostWindow). text b.requests b.parked ws) (one_windows pick es es a.windows b.windows refl a.windows_are b.windows_are)
    ∙ sym b.text_is

-- Texts that are written piece by piece.
use Rattle.std.proofs.Common.{◌≡◌, ℕ, List, ◌++◌, Option, refl, ap, ◌∙◌, subst}
use Rattle.std.specs.Prelude.{codes}
use Rattle.std.proofs.lemmas.List.{append_assoc}
use Rattle.sudo_words.specs.declared.cmnd.Cmnd.{Cmnd}
use Rattle.messages.specs.Fields.{VerdictFields}
use Rattle.roster.specs.Fields.{RosterFields}
use Rattle.grants.specs.declared.denial.Denial.{Denial}
use Rattle.findings.specs.Document.{IsDenialOn, IsEntryText, lacks_json, requests_json, status_json, verdicts_json}
use Rattle.findings.specs.Judging.{approvers, asked_at, effect_on, IsCompletionOn, lacks}
use Rattle.findings.specs.declared.entry.AuditEntry.{AuditEntry}
use Rattle.findings.specs.private.Writing.{Adds}

-- one more piece
pub piece : (old so_far mid part new : List ℕ) → mid ≡ old ++ so_far → new ≡ mid ++ part → new ≡ old ++ (so_far ++ part)
piece old so_far mid part new before added = added ∙ ap (λ (t : List ℕ). t ++ part) before ∙ append_assoc old so_far part

-- ---- the text of an entry, which was judged by the roster

module _ (until complete : Option ℕ) (denial : Option Denial) (old one two three four new : List ℕ) (vs : List VerdictFields) where
  -- what is known of an entry that was judged
  abbrev pub IsWritten : RosterFields Cmnd → AuditEntry → Type 0
  IsWritten f e =
      IsDenialOn f e denial × (three ≡ two ++ verdicts_json (effect_on f e complete) vs)
      × (four ≡ three ++ lacks_json (lacks f e) (asked_at f e until) (approvers f e))

  pub written_of : (f g : RosterFields Cmnd) (d e : AuditEntry) → g ≡ f → d ≡ e → IsWritten g d → IsWritten f e
  written_of f g d e same_roster same_entry is =
      subst (λ (x : AuditEntry). IsWritten f x) same_entry (subst (λ (x : RosterFields Cmnd). IsWritten x d) same_roster is)

pub entry_written : (f : RosterFields Cmnd) (e : AuditEntry) (until complete : Option ℕ) (denial : Option Denial) (old one two three four new : List ℕ)
    → IsCompletionOn f e complete → IsWritten until complete denial old one two three four new e.about.verdicts.items f e
    → one ≡ old ++ status_json e.name e.status denial → two ≡ one ++ requests_json e.about.requests.items → new ≡ four ++ codes "}"
    → Adds (IsEntryText f until e) old new
entry_written f e until complete denial old one two three four new done is first second last =
    let a : List ℕ = status_json e.name e.status denial in
    let b : List ℕ = requests_json e.about.requests.items in
    let c : List ℕ = verdicts_json (effect_on f e complete) e.about.verdicts.items in
    let d : List ℕ = lacks_json (lacks f e) (asked_at f e until) (approvers f e) in
    let two_is = piece old a one b two first second in
    let three_is = piece old (a ++ b) two c three two_is is.1 in
    let four_is = piece old (a ++ b ++ c) three d four three_is is.2 in (
      a ++ b ++ c ++ d ++ codes "}",
      piece old (a ++ b ++ c ++ d) four (codes "}") new four_is last,
      (complete, denial, done, is.0, refl),
    )

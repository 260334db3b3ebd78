-- What a cut keeps grants the same from its moment on, and gives the same files.
use Rattle.std.proofs.Common.{◌≡◌, ℕ, ◌≤◌, List, ◌++◌, Option, sym, ap, ◌∙◌, subst}
use Rattle.std.specs.Prelude.{◌↔◌}
use Rattle.std.specs.List.{Contains}
use Rattle.sudo_words.specs.declared.cmnd.Cmnd.{Cmnd}
use Rattle.sudo_policy.specs.declared.entry.Entry.{Entry}
use Rattle.sudo_policy.specs.Printing.{canon}
use Rattle.messages.specs.Fields.{RequestFields}
use Rattle.messages.specs.Wire.{IsMessage}
use Rattle.messages.specs.declared.message.Message.{Message}
use Rattle.messages.specs.declared.message.Message.TheVariants.{Request}
use Rattle.messages.specs.declared.request_name.RequestName.{RequestName}
use Rattle.roster.specs.Faults.{IsRosterText}
use Rattle.roster.specs.Fields.{RosterFields}
use Rattle.grants.specs.declared.outcome.Status.{Status}
use Rattle.outcomes.specs.HostFile.{IsHostFileAfter, Line, with_lines}
use Rattle.outcomes.specs.Outcomes.{ComesTo}
use Rattle.outcomes.proofs.Existence.{some_file_after}
use Rattle.std.proofs.lemmas.List.Elements.{Contains-append_left}
use Rattle.archive.specs.Archive.{HasEnded, IsCut}
use Rattle.archive.specs.SameFrom.{GrantTheSameFrom}
use Rattle.archive.proofs.Cuts.{asked_to, back, ended_before, given, requests}
use Rattle.archive.proofs.FromThen.{AlikeFrom, covers_from, lines_from, live_from, outcome_of, rights_from, turned, window_from}

one_file_from : (f : RosterFields Cmnd) (moment : ℕ) (Open : RequestName → Type 0) (s t : List Message) → AlikeFrom f moment Open s t
    → (base : List Entry) (host : List ℕ) (at : ℕ) (x y : List ℕ) → moment ≤ at
    → IsHostFileAfter f base s host at x → IsHostFileAfter f base t host at y → x ≡ y
one_file_from f moment Open s t a base host at x y from one other =
    one.text_is
    ∙ ap (λ (ls : List Line). canon (with_lines base ls))
    (lines_from f moment Open s t a host at one.lines other.lines from one.lines_are other.lines_are)
    ∙ sym other.text_is

pub the_same_from : (f : RosterFields Cmnd) (moment : ℕ) (Open : RequestName → Type 0) (s t : List Message)
    → AlikeFrom f moment Open s t → GrantTheSameFrom f moment s t
the_same_from f moment Open s t a =
    let b = turned f moment Open s t a in
    record {
      windows = λ q at from. (window_from f moment Open s t a q at from, window_from f moment Open t s b q at from);
      covers = λ i from. (covers_from f moment Open s t a i from, covers_from f moment Open t s b i from);
      live = λ at list from. (live_from f moment Open s t a at list from, live_from f moment Open t s b at list from);
      lines = λ host at xs ys from x y. lines_from f moment Open s t a host at xs ys from x y;
      files = λ base host at x y from one other. one_file_from f moment Open s t a base host at x y from one other;
      rights = λ base host at text from.
          (rights_from f moment Open s t a base host at text from, rights_from f moment Open t s b base host at text from);
    }

module _ (set kept later : List Message) (moment : ℕ) (cut : IsCut set moment kept) where
  abbrev whole : List Message
  whole = set ++ later

  abbrev left : List Message
  left = kept ++ later

  abbrev Open : RequestName → Type 0
  Open name = HasEnded set moment name → ⊥

  asked_left : (q : RequestFields) → Contains set (Request q) → Contains left (Request q)
  asked_left q h = Contains-append_left kept later (Request q) (asked_to set kept moment cut q h)

  pub alike : (f : RosterFields Cmnd) → AlikeFrom f moment Open whole left
  alike f = record {
    requests = requests set kept moment cut later;
    given = given set kept moment cut later f;
    stands = λ q at from w ended. ended_before f set whole moment at q (λ p. Contains-append_left set later (Request p)) ended from w;
    stands_too = λ q at from w ended. ended_before f set left moment at q asked_left ended from w;
  }

  pub grants : (f : RosterFields Cmnd) → GrantTheSameFrom f moment whole left
  grants f = the_same_from f moment Open whole left (alike f)

  pub outcomes : (f : RosterFields Cmnd) (name : RequestName) (o : Option Status) → Open name → ComesTo f whole name o ↔ ComesTo f left name o
  outcomes f name o is = (
    outcome_of f moment Open whole left (alike f) name o is,
    outcome_of f moment Open left whole (turned f moment Open whole left (alike f)) name o is,
  )

  pub files : (text : List ℕ) (f : RosterFields Cmnd) (base : List Entry) (at : ℕ) (host file : List ℕ) → IsRosterText text f
      → ((m : Message) → Contains whole m → IsMessage m) → moment ≤ at
      → IsHostFileAfter f base whole host at file ↔ IsHostFileAfter f base left host at file
  files text f base at host file roster known from =
      let known_left : (m : Message) → Contains left m → IsMessage m = λ m h. known m (back set kept moment cut later m h) in (
        λ is.
            let other = some_file_after text f left roster known_left base host at in
            subst (IsHostFileAfter f base left host at) (sym ((grants f).files base host at file other.0 from is other.1)) other.1,
        λ is.
            let other = some_file_after text f whole roster known base host at in
            subst (IsHostFileAfter f base whole host at) ((grants f).files base host at other.0 file from other.1 is) other.1,
      )

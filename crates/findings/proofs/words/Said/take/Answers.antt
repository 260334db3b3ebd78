use Rattle.std.proofs.Common.{◌≡◌, ℕ, List, Option, Some, None, refl, sym, ap, ◌∙◌, subst}
use Rattle.std.specs.Prelude.{OnOk}
use Rattle.findings.specs.Asking.{Heard, hear_as, with_choice}
use Rattle.findings.specs.declared.words.Choice.{Choice}
use Rattle.findings.specs.declared.words.Choice.TheVariants.{From, Until, Host, Person}
use Rattle.findings.specs.private.Hearing.{Hears}
use Rattle.findings.proofs.words.Said.take.Goals as goal

abbrev without_choice : Heard → Heard
without_choice h = record h { choice = None }

same_choice : (choice : Choice) (h : Heard) (word : List ℕ) → with_choice choice (without_choice h) word ≡ with_choice choice h word
same_choice From h word = refl
same_choice Until h word = refl
same_choice Host h word = refl
same_choice Person h word = refl

pub returns-in-Some : goal.returns-in-Some
returns-in-Some c = λ h hears.
    let word = c.args.word.now in
    let choice = c.in-Some.choice in
    let e : h.choice ≡ Some choice = hears.choice ∙ sym c.take.ensures.value ∙ c.in-Some.is in
    subst (λ (g : Heard). OnOk c.choose.result (Hears c.choose.new.self g))
    (same_choice choice h word ∙ sym (ap (λ (o : Option Choice). hear_as o h word) e))
    (c.choose.ensures (without_choice h)
    (record {
      places = hears.places;
      chosen = record { from = hears.chosen.from; until = hears.chosen.until; host = hears.chosen.host; person = hears.chosen.person };
      as_json = hears.as_json;
      choice = sym c.take.ensures.after;
      is_ended = hears.is_ended;
    })
    refl)

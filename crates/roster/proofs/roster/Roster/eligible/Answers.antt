use Rattle.std.proofs.Common.{◌≡◌, ℕ, List, not, ◌&&◌, ◌∙◌, refl, ap, ap₂}
use Rattle.std.specs.List.{list_any}
use Rattle.std.specs.Str.{bytes_eq}
use Rattle.sudo_words.specs.declared.cmnd.Cmnd.{Cmnd}
use Rattle.roster.specs.Fields.{CeilingFields, Entry}
use Rattle.roster.specs.Relations.{eligible, entry_of, gives, holds, is_against, or_none}
use Rattle.roster.proofs.Steps.{failed, passed}
use Rattle.roster.proofs.roster.Roster.eligible.Goals as goal

pub returns-then-give : goal.returns-then-give
returns-then-give c =
    let f = c.args.self.now.says in
    let person = c.args.person.now in
    let approve = c.ceiling.inside.approve in
    let entries = c.entries_of-entries.ensures ∙ ap (λ (ps : List (List ℕ × List Entry)). or_none (entry_of ps person)) c.people.ensures.value in
    let given = c.give.ensures ∙ ap₂ (λ (day : ℕ) (es : List Entry). list_any (gives approve day) es) c.day-day.ensures entries in
    let front : c.give.result ≡ (not (bytes_eq person c.args.asker.now) && holds f person approve c.args.at) =
    passed (not c.eq.result) _ _ _ (ap not c.if-eq.false) (ap not c.eq.ensures) given in
    passed _ _ _ _ c.if-give.true front
    (ap not (c.is_one_against.ensures ∙ ap₂ (λ (day : ℕ) (es : List Entry). list_any (is_against f approve day) es) c.day-day.ensures entries))
    ∙ ap (λ (k : CeilingFields Cmnd). eligible f person c.args.asker.now k c.args.at) c.ceiling.view_is

pub returns-else-give : goal.returns-else-give
returns-else-give c =
    let f = c.args.self.now.says in
    let person = c.args.person.now in
    let approve = c.ceiling.inside.approve in
    let entries = c.entries_of-entries.ensures ∙ ap (λ (ps : List (List ℕ × List Entry)). or_none (entry_of ps person)) c.people.ensures.value in
    let given = c.give.ensures ∙ ap₂ (λ (day : ℕ) (es : List Entry). list_any (gives approve day) es) c.day-day.ensures entries in
    let front : c.give.result ≡ (not (bytes_eq person c.args.asker.now) && holds f person approve c.args.at) =
    passed (not c.eq.result) _ _ _ (ap not c.if-eq.false) (ap not c.eq.ensures) given in
    failed _ _ _ _ c.if-give.false front refl ∙ ap (λ (k : CeilingFields Cmnd). eligible f person c.args.asker.now k c.args.at) c.ceiling.view_is

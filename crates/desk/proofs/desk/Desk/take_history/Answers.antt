use Rattle.std.proofs.Common.{rules, ◌≡◌, ◌≤◌, ◌∙◌, ◌∷◌, ◌++◌, ℕ, List, [], length, true, append_assoc, sym, ap, subst, refl, inr}
use Rattle.std.specs.Prelude.{string_bytes}
use Rattle.sudo_words.specs.Bytes.{newline}
use Rattle.desk.specs.Digests.{digests_text}
use Rattle.desk.specs.History.{EndsWithDigests}
use Rattle.desk.specs.State.{DeskState}
use Rattle.desk.proofs.desk.Desk.take_history.Goals as goal

pub invariant_of-self : goal.invariant_of-self
invariant_of-self g c =
    let d = c.args.self.now in
    let is : c.is_ended_by.result ≡ true = search rules in
    let (small, (before, ended)) = c.is_ended_by.ensures.0 is in
    let line = c.as_str-2.ensures.value ∙ c.in_ok-push_str.ensures.bytes ∙ ap (λ (l : List ℕ). l ++ newline ∷ []) c.in_ok-line.ensures.digests in
    let ends : EndsWithDigests d.roster.text d.base (string_bytes c.args.text) = (
      before,
      sym c.as_str.ensures.value
          ∙ ended
          ∙ ap (λ (l : List ℕ). before ++ l) line
          ∙ sym (append_assoc before (digests_text d.roster.text d.base) (newline ∷ [])),
    ) in (
      c.self.invariant.0,
      c.self.invariant.1,
      c.self.invariant.2,
      c.self.invariant.3,
      c.self.invariant.4,
      c.self.invariant.5,
      c.self.invariant.6,
      inr (subst (λ (e : DeskState _). EndsWithDigests e.roster.text e.base (string_bytes c.args.text))
          (sym (c.self.view_is ∙ c.in_ok-line.ensures.same)) ends),
    )

pub returns-clause-judged : goal.returns-clause-judged
returns-clause-judged g c =
    let d = c.args.self.now in
    let is : c.is_ended_by.result ≡ true = search rules in
    let (small, (before, ended)) = c.is_ended_by.ensures.0 is in
    let line = c.as_str-2.ensures.value ∙ c.in_ok-push_str.ensures.bytes ∙ ap (λ (l : List ℕ). l ++ newline ∷ []) c.in_ok-line.ensures.digests in
    let text = c.as_str.ensures.value in (
      λ _. (
        subst (λ (l : List ℕ). length l ≤ 1048576) text small,
        (
          before,
          sym text
              ∙ ended
              ∙ ap (λ (l : List ℕ). before ++ l) line
              ∙ sym (append_assoc before (digests_text d.roster.text d.base) (newline ∷ [])),
        ),
      ),
      λ _. refl,
    )

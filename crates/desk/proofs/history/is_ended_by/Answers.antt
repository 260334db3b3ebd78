use Rattle.std.proofs.Common.{rules, ◌≡◌, ◌≤◌, ◌∙◌, ◌++◌, ◌-◌, ℕ, List, length, take, sym, ap}
use Rattle.std.proofs.lemmas.Bool.Decides.{Decides-eqb}
use Rattle.std.proofs.lemmas.Slice.Eq.{ends_is}
use Rattle.desk.proofs.history.is_ended_by.Goals as goal

pub returns-then-text-le-MOST_HISTORY : goal.returns-then-text-le-MOST_HISTORY
returns-then-text-le-MOST_HISTORY c =
    let a = c.as_bytes.result.now in
    let b = c.as_bytes-then-text-le-MOST_HISTORY.result.now in
    let text : a ≡ c.args.text.now = c.as_bytes.ensures.value in
    let line : b ≡ c.args.line.now = c.as_bytes-then-text-le-MOST_HISTORY.ensures.value in
    let found = ends_is Decides-eqb a b c.ends_with.result c.ends_with.ensures.value in
    let small : length c.args.text.now ≤ 1048576 = search rules in
    let before = take (length a - length b) a in (
      λ is. (small, (before, sym text ∙ found.0 is ∙ ap (λ (l : List ℕ). before ++ l) line)),
      λ both. found.1 both.1.0 (text ∙ both.1.1 ∙ ap (λ (l : List ℕ). both.1.0 ++ l) (sym line)),
    )

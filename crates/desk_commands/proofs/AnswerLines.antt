-- How the lines of answers grow, answer by answer.
use Rattle.std.proofs.Common.{◌≡◌, ℕ, ◌+◌, ◌<◌, ◌≤◌, List, [], ◌∷◌, ◌++◌, ◌∙◌, Result, append_assoc, drop, get_or, length, refl, subst, sym}
use Rattle.std.proofs.lemmas.List.{append-nil, drop_all}
use Rattle.desk_commands.specs.Delivering.{answer_line, answer_lines}
use Rattle.desk_commands.proofs.ComplaintLemmas.{rest_at}
use Rattle.desk.specs.declared.ack.Ack.{Ack}
use Rattle.desk.specs.declared.refusal.Refusal.{Refusal}

-- what is written of the answers before a place
pub record AreWritten (answers : List (Result Ack Refusal)) (text : List ℕ) (i : ℕ) : Type 0 where
  pub all : text ++ answer_lines (drop i answers) ≡ answer_lines answers

pub none_written : (answers : List (Result Ack Refusal)) (text : List ℕ) → text ≡ [] → AreWritten answers text 0
none_written answers text none = rw none (record { all = refl })

pub one_written : (answers : List (Result Ack Refusal)) (text now : List ℕ) (i : ℕ) (default answer : Result Ack Refusal) → i < length answers
    → get_or answers i default ≡ answer → now ≡ text ++ answer_line answer → AreWritten answers text i → AreWritten answers now (i + 1)
one_written answers text now i default answer lt is more so_far =
    let rest : drop i answers ≡ answer ∷ drop (i + 1) answers = rest_at answers i default answer lt is in
    let all : text ++ answer_lines (answer ∷ drop (i + 1) answers) ≡ answer_lines answers =
    subst (λ (tail : List (Result Ack Refusal)). text ++ answer_lines tail ≡ answer_lines answers) rest so_far.all in
    rw more (record { all = append_assoc text (answer_line answer) (answer_lines (drop (i + 1) answers)) ∙ all })

pub all_written : (answers : List (Result Ack Refusal)) (text : List ℕ) (i : ℕ) → length answers ≤ i → AreWritten answers text i
    → text ≡ answer_lines answers
all_written answers text i past written =
    let at_end : drop i answers ≡ [] = drop_all i answers past in
    let whole : text ++ [] ≡ answer_lines answers =
    subst (λ (tail : List (Result Ack Refusal)). text ++ answer_lines tail ≡ answer_lines answers) at_end written.all in
    sym (append-nil text) ∙ whole

-- How the complaints of lines grow, answer by answer.
use Rattle.std.proofs.Common.{◌≡◌, ℕ, suc, ◌+◌, ◌<◌, List, ◌∷◌, ◌++◌, ◌∙◌, Result, Ok, Err, add-one}
use Rattle.std.proofs.Common.{append_assoc, arith, drop, drop-cons, get_or, length, subst, sym}
use Rattle.desk_commands.specs.Taking.{HadMemory, complaint, complaints}
use Rattle.desk.specs.declared.ack.Ack.{Ack}
use Rattle.desk.specs.declared.refusal.Refusal.{Refusal}
use Rattle.desk.specs.Refusals.{IsWant}

-- what is said about the answers before a place, and that memory did not run out at them
pub record AreSaid (answers : List (Result Ack Refusal)) (said : List ℕ) (i : ℕ) : Type 0 where
  pub all : said ++ complaints (i + 1) (drop i answers) ≡ complaints 1 answers
  pub memory : HadMemory (drop i answers) → HadMemory answers

pub rest_at : (answers : List (Result Ack Refusal)) (i : ℕ) (default answer : Result Ack Refusal) → i < length answers → get_or answers i default ≡ answer
    → drop i answers ≡ answer ∷ drop (i + 1) answers
rest_at answers i default answer lt is =
    rw add-one (subst (λ (a : Result Ack Refusal). drop i answers ≡ a ∷ drop (suc i) answers) is (drop-cons answers i default lt))

-- the number of the next line
next_number : (said whole : List ℕ) (i : ℕ) (answers : List (Result Ack Refusal)) → said ++ complaints (suc (i + 1)) answers ≡ whole
    → said ++ complaints (i + 1 + 1) answers ≡ whole
next_number said whole i answers e =
    let one : suc (i + 1) ≡ i + 1 + 1 = omega arith in
    subst (λ (n : ℕ). said ++ complaints n answers ≡ whole) one e

pub said_nothing : (answers : List (Result Ack Refusal)) (said : List ℕ) (i : ℕ) (ack default : Ack) (now : List ℕ) → i < length answers
    → get_or answers i (Ok default) ≡ Ok ack → now ≡ said → AreSaid answers said i → AreSaid answers now (i + 1)
said_nothing answers said i ack default now lt is same so_far =
    let rest : drop i answers ≡ Ok ack ∷ drop (i + 1) answers = rest_at answers i (Ok default) (Ok ack) lt is in
    let all : said ++ complaints (i + 1) (Ok ack ∷ drop (i + 1) answers) ≡ complaints 1 answers =
    subst (λ (more : List (Result Ack Refusal)). said ++ complaints (i + 1) more ≡ complaints 1 answers) rest so_far.all in
    rw same (record {
      all = next_number said (complaints 1 answers) i (drop (i + 1) answers) all;
      memory = λ h. so_far.memory (subst HadMemory (sym rest) ((λ wanting. wanting), h));
    })

pub said_refusal : (answers : List (Result Ack Refusal)) (said : List ℕ) (i : ℕ) (refusal : Refusal) (default : Ack) (now : List ℕ) → i < length answers
    → get_or answers i (Ok default) ≡ Err refusal → now ≡ said ++ complaint (i + 1) refusal → (IsWant refusal → ⊥) → AreSaid answers said i
    → AreSaid answers now (i + 1)
said_refusal answers said i refusal default now lt is more other so_far =
    let rest : drop i answers ≡ Err refusal ∷ drop (i + 1) answers = rest_at answers i (Ok default) (Err refusal) lt is in
    let all : said ++ complaints (i + 1) (Err refusal ∷ drop (i + 1) answers) ≡ complaints 1 answers =
    subst (λ (tail : List (Result Ack Refusal)). said ++ complaints (i + 1) tail ≡ complaints 1 answers) rest so_far.all in
    let regrouped : (said ++ complaint (i + 1) refusal) ++ complaints (suc (i + 1)) (drop (i + 1) answers) ≡ complaints 1 answers =
    append_assoc said (complaint (i + 1) refusal) (complaints (suc (i + 1)) (drop (i + 1) answers)) ∙ all in
    subst (λ (text : List ℕ). AreSaid answers text (i + 1)) (sym more) (record {
      all = next_number (said ++ complaint (i + 1) refusal) (complaints 1 answers) i (drop (i + 1) answers) regrouped;
      memory = λ h. so_far.memory (subst HadMemory (sym rest) (other, h));
    })

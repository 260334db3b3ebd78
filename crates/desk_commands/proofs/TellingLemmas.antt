-- What several writes come to.
use Rattle.std.proofs.Common.{◌≡◌, ◌∙◌, ℕ, ◌+◌, ◌-◌, ◌≤◌, List, [], ◌∷◌, ◌++◌, Option, ap, append-nil}
use Rattle.std.proofs.Common.{append_assoc, arith, drop, le_refl, length, length-drop, subst, sym, take, take_all}
use Rattle.std.proofs.KnownBytes.{Appends-kept, Appends-trans}
use Rattle.std.proofs.lemmas.List.{take_rest}
use Rattle.std.proofs.Math.Seq.{take-add}
use Rattle.std.specs.Fmt.{WritesInCalls}
use Rattle.std.specs.Fmt.InlineText.{AppendsIfIntact, IsIntact, inline_text}
use Rattle.std.specs.declared.fmt.InlineText.{InlineText}
use Rattle.std.specs.Io.KnownBytes.{Appends, Keeps}
use Rattle.std.specs.List.{FoldsTo, concat}
use Rattle.desk_commands.specs.Telling.{AppendsFront}

module _ {n : ℕ} where
  -- several writes append what they wrote together
  after_calls : (s : InlineText n) (parts : List (List ℕ)) (t : InlineText n) → FoldsTo AppendsIfIntact s parts t → AppendsIfIntact s (concat parts) t
  after_calls s [] t same intact = (subst IsIntact same intact, ap inline_text (sym same) ∙ sym (append-nil (inline_text s)))
  after_calls s (x ∷ parts) t calls intact =
      let first = calls.1 intact in
      let rest = after_calls calls.0 parts t calls.2 first.0 in
      (rest.0, rest.1 ∙ ap (λ l. l ++ concat parts) first.1 ∙ append_assoc (inline_text s) x (concat parts))

  -- what is written into a text that is empty is its text
  pub written : (s : InlineText n) (bytes : List ℕ) (t : InlineText n) → inline_text s ≡ []
      → IsIntact s → WritesInCalls AppendsIfIntact s bytes t → inline_text t ≡ bytes
  written s bytes t none intact wrote =
      (subst (λ l. AppendsIfIntact s l t) wrote.whole (after_calls s wrote.parts t wrote.calls) intact).1 ∙ ap (λ l. l ++ bytes) none

module _ (before between after : Option (List ℕ)) (bytes : List ℕ) (done n next : ℕ) (within : done ≤ length bytes)
    (taken : Appends before between (take done bytes)) where
  -- a beginning of the bytes is written, and then some of the rest
  pub more_taken : next ≡ done + n → n ≤ length (take (length bytes - done) (drop done bytes))
      → Appends between after (take n (take (length bytes - done) (drop done bytes))) → (next ≤ length bytes) × Appends before after (take next bytes)
  more_taken is bound more =
      let rest : take (length bytes - done) (drop done bytes) ≡ drop done bytes = take_rest bytes done in
      let all : take (done + n) bytes ≡ take done bytes ++ take n (drop done bytes) = take-add done n bytes in (
        omega (arith, is, length-drop done bytes, subst (λ l. n ≤ length l) rest bound),
        subst (Appends before after) (sym (ap (λ k. take k bytes) is ∙ all))
            (Appends-trans before between after (take done bytes) (take n (drop done bytes)) taken (subst (λ l. Appends between after (take n l)) rest more)),
      )

  -- a beginning of the bytes is written, and then nothing
  pub none_taken : next ≡ done → Keeps between after → (next ≤ length bytes) × Appends before after (take next bytes)
  none_taken is same = (
    omega (arith, is),
    subst (λ k. Appends before after (take k bytes)) (sym is) (Appends-kept before between after (take done bytes) taken same),
  )

-- all of the bytes are a beginning of them
pub whole_front : (before after : Option (List ℕ)) (bytes : List ℕ) → Appends before after bytes → AppendsFront before after bytes
whole_front before after bytes taken =
    (length bytes, subst (Appends before after) (sym (take_all (length bytes) bytes (le_refl (length bytes)))) taken)

-- a beginning that is kept
pub front_kept : (before between after : Option (List ℕ)) (bytes : List ℕ) → AppendsFront before between bytes → Keeps between after
    → AppendsFront before after bytes
front_kept before between after bytes front same = (front.0, Appends-kept before between after (take front.0 bytes) front.1 same)

-- bytes that are written whole and then flushed are a beginning of the line too
pub flushed : (before between after : Option (List ℕ)) (bytes line : List ℕ) → bytes ≡ line → Appends before between bytes → Keeps between after
    → AppendsFront before after line
flushed before between after bytes line is taken same =
    subst (AppendsFront before after) is (front_kept before between after bytes (whole_front before between bytes taken) same)

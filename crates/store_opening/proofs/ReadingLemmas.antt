-- The messages that rows show, one after the other.
use Rattle.std.specs.Prelude.{IsUtf8}
use Rattle.std.proofs.Common.{◌≡◌, inl, inr, ℕ, List, [], ◌∷◌, ◌++◌, map, Contains, sym, ap, subst, ◌∙◌}
use Rattle.std.proofs.lemmas.List.{map-append}
use Rattle.std.proofs.lemmas.List.Elements.{Contains-push_cases}
use Rattle.sqlite.specs.Order.{Row, column}
use Rattle.messages.specs.declared.message.Message.{Message}
use Rattle.messages.proofs.Readings.{text_of_message}
use Rattle.store_tables.specs.Stored.{IsWritten}
use Rattle.store_opening.specs.private.Reading.{AreBodies, AreHeld, IsKeepable, body}

-- the text of a message is UTF-8
pub written_utf8 : (t : List ℕ) → IsWritten t → IsUtf8 t
written_utf8 t written = subst IsUtf8 (sym written.2) (text_of_message written.0 written.1).utf8

-- one row and its message more
pub bodies_more : (rows : List Row) (ms : List Message) (r : Row) (m : Message)
    → AreBodies rows ms → (column r 0 ≡ body m) × IsKeepable m → AreBodies (rows ++ r ∷ []) (ms ++ m ∷ [])
bodies_more rows ms r m before both =
    let first : Row → _ = λ x. column x 0 in
    record {
      texts = map-append first rows (r ∷ []) ∙ ap (λ vs. vs ++ column r 0 ∷ []) before.texts
          ∙ ap (λ v. map body ms ++ v ∷ []) both.0 ∙ sym (map-append body ms (m ∷ []));
      only = λ n there. elim (Contains-push_cases ms m n there) as (λ _. IsKeepable n) [
        | inl old ↦ before.only n old
        | inr equal ↦ subst IsKeepable equal both.1
      ];
    }

-- the same lists under other names
pub held_along : (ms ns : List Message) (N V P N' V' P' : List Row) → ms ≡ ns → N ≡ N' → V ≡ V'
    → P ≡ P' → AreHeld (λ m. Contains ms m) N V P → AreHeld (λ m. Contains ns m) N' V' P'
held_along ms ns N V P N' V' P' a b c d h =
    subst (λ l. AreHeld (λ m. Contains l m) N' V' P') a (subst (λ l. AreHeld (λ m. Contains ms m) l V' P') b
    (subst (λ l. AreHeld (λ m. Contains ms m) N l P') c (subst (λ l. AreHeld (λ m. Contains ms m) N V l) d h)))

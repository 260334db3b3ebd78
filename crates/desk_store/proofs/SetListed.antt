-- The messages whose texts a database keeps, as a list.
use Rattle.std.proofs.Common.{◌≡◌, ◌≤◌, true, true≢false, false, not, inl, inr, ℕ, List, [], ◌∷◌, length, map, Contains, codes, refl, ap, ap₂, sym, ◌∙◌, subst}
use Rattle.std.proofs.lemmas.Bool.{cases_Bool}
use Rattle.std.proofs.lemmas.List.Sorted.{IsPermutation-refl}
use Rattle.sqlite.specs.declared.types.Value.{Value}
use Rattle.sqlite.specs.declared.types.Value.TheVariants.{Text}
use Rattle.sqlite.specs.Order.{Row, column}
use Rattle.sqlite.specs.Effect.{Database}
use Rattle.sqlite_rules.proofs.ListLemmas.{has_contained, some_from}
use Rattle.messages.specs.declared.message.Message.{Message}
use Rattle.store_tables.specs.Kept.{HoldsText, table_in}
use Rattle.store_tables.specs.Sets.{Lists}
use Rattle.store_tables.specs.Stored.{is_stray, is_text}
use Rattle.store_schema.specs.declared.part.DeskPart.TheVariants.{Messages}
use Rattle.store_opening.specs.Opened.{HasTexts}
use Rattle.store_opening.specs.private.Reading.{AreBodies, IsKeepable, body}
use Rattle.store_opening.specs.private.Selecting.{shown_of}
use Rattle.store_opening.proofs.TextsShown.{listed, row_has, text_of}
use Rattle.outcomes.proofs.Membership.{no_member, Contains-head, Contains-behind, Contains-cases}

-- a message whose text is the row's body
abbrev IsSpelled : Row → Type 0
IsSpelled r = (m : Message) × IsKeepable m × (column r 1 ≡ body m)

spelled : (rs : List Row) → ((r : Row) → Contains rs r → IsSpelled r) → (ms : List Message) × AreBodies (map (shown_of Messages) rs) ms
spelled [] each = ([], record { texts = refl; only = λ m h. absurd (no_member m h) })
spelled (r ∷ rs) each =
    let m = each r (Contains-head r rs) in
    let more = spelled rs (λ s h. each s (Contains-behind r rs s h)) in (
      m.0 ∷ more.0,
      record {
        texts = ap₂ (λ (v : Value) vs. v ∷ vs) m.2 more.1.texts;
        only = λ n h. elim (Contains-cases m.0 more.0 n h) as (λ _. IsKeepable n) [
          | inl same ↦ subst IsKeepable same m.1
          | inr there ↦ more.1.only n there
        ];
      },
    )

module _ (db : Database) (is : HasTexts db) where
  abbrev table : List Row
  table = table_in db (codes "messages")

  plain : (r : Row) → Contains table r → not (is_text (column r 1)) ≡ false
  plain r there = elim (cases_Bool (not (is_text (column r 1)))) as (λ _. not (is_text (column r 1)) ≡ false) [
    | inl stray ↦ absurd (true≢false (sym (some_from is_stray table r (has_contained table r there) stray) ∙ is.texts))
    | inr fine ↦ fine
  ]

  each_spelled : (r : Row) → Contains table r → IsSpelled r
  each_spelled r there =
      let t = text_of (column r 1) (plain r there) in
      let shown = IsPermutation-refl (map (shown_of Messages) table) in
      let w = is.only t.0 (row_has db (map (shown_of Messages) table) shown t.0 r (has_contained table r there) t.1) in
      (w.0, record { message = w.1; short = subst (λ (s : List ℕ). length s ≤ 16_384) w.2 w.3 }, t.1 ∙ ap Text w.2)

  pub set_listed : (list : List Message) × Lists (HoldsText db) list
  set_listed =
      let all = spelled table each_spelled in
      (all.0, listed db (map (shown_of Messages) table) (IsPermutation-refl (map (shown_of Messages) table)) all.0 all.1)

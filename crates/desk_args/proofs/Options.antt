-- The value of an option, or its absence.
use Rattle.std.proofs.Common.{◌≡◌, ℕ, Bool, true, false, List, Option, Some, None, ap, codes, inl, inr, refl, subst, sym, ◌∙◌}
use Rattle.std.proofs.lemmas.Bool.{cases_Bool}
use Rattle.std.specs.Str.Parse.{digits_value}
use Rattle.clap.specs.Words.{Row, Text, first_of}
use Rattle.sudo_words.specs.Moment.{IsStamp}
use Rattle.desk_args.specs.CommandLine.{HasAddressIfGiven, HasCount, HasMomentIfGiven, HasOption, HasSync, SaysAddress, is_count}
use Rattle.desk_args.specs.declared.task.Address.{Address}
use Rattle.desk_args.specs.declared.task.Sync.{Sync}
use Rattle.desk_args.specs.declared.task.Sync.TheVariants.{Once, Twice}

pub left_out : (form : Text → Bool) (id : Text) (rows : List Row) → first_of id rows ≡ None → (value : Option Text) → HasOption form id rows value
    → ◌≡◌ {A = Option Text} None value
left_out form id rows none None has = refl
left_out form id rows none (Some text) has =
    let both : ◌≡◌ {A = Option Text} None (Some text) = sym none ∙ has.0 in
    absurd cc

pub given : (form : Text → Bool) (id : Text) (rows : List Row) (text : Text) → first_of id rows ≡ Some text → (value : Option Text)
    → HasOption form id rows value → (◌≡◌ {A = Option Text} (Some text) value) × (form text ≡ true)
given form id rows text is None has =
    let both : ◌≡◌ {A = Option Text} (Some text) None = sym is ∙ has in
    absurd cc
given form id rows text is (Some other) has =
    let both : ◌≡◌ {A = Option Text} (Some other) (Some text) = sym has.0 ∙ is in
    let same : other ≡ text = cc in (sym both, subst (λ (t : Text). form t ≡ true) same has.1)

-- ---- an option whose value is a number

pub no_count : (id : Text) (rows : List Row) → first_of id rows ≡ None → (n : Option ℕ) → HasCount id rows n → ◌≡◌ {A = Option ℕ} None n
no_count id rows none None has = refl
no_count id rows none (Some n) has =
    let both : ◌≡◌ {A = Option Text} None (Some has.0) = sym none ∙ has.1.0 in
    absurd cc

pub counted : (id : Text) (rows : List Row) (text : Text) → first_of id rows ≡ Some text → (n : Option ℕ) → HasCount id rows n
    → (◌≡◌ {A = Option ℕ} (Some (digits_value 10 text)) n) × (is_count text ≡ true)
counted id rows text is None has =
    let both : ◌≡◌ {A = Option Text} (Some text) None = sym is ∙ has in
    absurd cc
counted id rows text is (Some n) has =
    let both : ◌≡◌ {A = Option Text} (Some has.0) (Some text) = sym has.1.0 ∙ is in
    let same : has.0 ≡ text = cc in
    (ap (λ (k : ℕ). Some k) (sym (has.2 ∙ ap (digits_value 10) same)), subst (λ (t : Text). is_count t ≡ true) same has.1.1)

pub counts : (id : Text) (rows : List Row) (text bytes : Text) (n : ℕ) → first_of id rows ≡ Some text → bytes ≡ text → is_count bytes ≡ true
    → n ≡ digits_value 10 bytes → HasCount id rows (Some n)
counts id rows text bytes n is same form value = (text, (is, subst (λ (t : Text). is_count t ≡ true) same form), value ∙ ap (digits_value 10) same)

pub not_counted : (text bytes : Text) → bytes ≡ text → (is_count bytes ≡ true → ◌≡◌ {A = Option ℕ} None (Some (digits_value 10 bytes))) → is_count text ≡ false
not_counted text bytes same only = elim (cases_Bool (is_count bytes)) as (λ _. is_count text ≡ false) [
  | inl counts ↦ let wrong = only counts in absurd cc
  | inr other ↦ subst (λ (t : Text). is_count t ≡ false) same other
]

-- ---- an option whose value is a moment

pub no_moment : (id : Text) (rows : List Row) → first_of id rows ≡ None → (m : Option ℕ) → HasMomentIfGiven id rows m → ◌≡◌ {A = Option ℕ} None m
no_moment id rows none None has = refl
no_moment id rows none (Some m) has =
    let both : ◌≡◌ {A = Option Text} None (Some has.0) = sym none ∙ has.1 in
    absurd cc

-- the moment whose canonical text is given
pub moment_given : (id : Text) (rows : List Row) (text : Text) → first_of id rows ≡ Some text → (m : Option ℕ) → HasMomentIfGiven id rows m
    → (n : ℕ) × (m ≡ Some n) × IsStamp text n
moment_given id rows text is None has =
    let both : ◌≡◌ {A = Option Text} (Some text) None = sym is ∙ has in
    absurd cc
moment_given id rows text is (Some n) has =
    let both : ◌≡◌ {A = Option Text} (Some has.0) (Some text) = sym has.1 ∙ is in
    let same : has.0 ≡ text = cc in (n, refl, subst (λ (t : Text). IsStamp t n) same has.2)

-- ---- an option whose value is an address

pub no_address : (id : Text) (rows : List Row) → first_of id rows ≡ None → (a : Option Address) → HasAddressIfGiven id rows a
    → ◌≡◌ {A = Option Address} None a
no_address id rows none None has = refl
no_address id rows none (Some a) has =
    let both : ◌≡◌ {A = Option Text} None (Some has.0) = sym none ∙ has.1 in
    absurd cc

-- the address that is given
pub address_given : (id : Text) (rows : List Row) (text : Text) → first_of id rows ≡ Some text → (a : Option Address) → HasAddressIfGiven id rows a
    → (b : Address) × (a ≡ Some b) × SaysAddress text b
address_given id rows text is None has =
    let both : ◌≡◌ {A = Option Text} (Some text) None = sym is ∙ has in
    absurd cc
address_given id rows text is (Some b) has =
    let both : ◌≡◌ {A = Option Text} (Some has.0) (Some text) = sym has.1 ∙ is in
    let same : has.0 ≡ text = cc in (b, refl, subst (λ (t : Text). SaysAddress t b) same has.2)

-- ---- the option that says how often a commit syncs

pub no_sync : (id : Text) (rows : List Row) → first_of id rows ≡ None → (s : Sync) → HasSync id rows s → Once ≡ s
no_sync id rows none Once has = refl
no_sync id rows none Twice has =
    let both : ◌≡◌ {A = Option Text} None (Some (codes "twice")) = sym none ∙ has in
    absurd cc

-- What a look tells of a keeper with a desk.
use Rattle.std.proofs.Common.{◌≡◌, ◌≢◌, ◌⊎◌, ◌∙◌, ℕ, List, Option, Some, None, inl, inr, refl, sym, subst}
use Rattle.std.specs.Prelude.{⊤, IfSome, string_bytes}
use Rattle.messages.specs.declared.message.Message.{Message}
use Rattle.outcomes.specs.Gathered.{Known}
use Rattle.store_tables.specs.Sets.{SameSet}
use Rattle.desk_store.specs.Keeping.{IsCountOf, IsKnownOf, Tells, TellsCount, TellsKnown}
use Rattle.desk_store.specs.declared.found.Found.{Found}
use Rattle.desk_store.specs.declared.found.FoundDesk.{FoundDesk}
use Rattle.desk_store.specs.declared.found.Found.TheVariants as found
use Rattle.desk.specs.Opening.{Refuses}
use Rattle.desk.specs.private.Known.{IsOriginOf}
use Rattle.desk.specs.declared.opening.Origin.{Origin}
use Rattle.desk.specs.declared.opening.Origin.TheVariants as origin
use Rattle.desk.specs.Refusals.{IsWant}
use Rattle.desk.proofs.KnownLemmas.{lists_still}
use Rattle.desk.specs.declared.refusal.Refusal.{Refusal}
use Rattle.desk.specs.declared.refusal.Refusal.TheVariants.{UnknownRelay, UnknownHost, TooLong, NotCanonical, BadField, Denied, TooManyRules}
use Rattle.desk.specs.declared.refusal.Refusal.TheVariants.{RosterChanged, NotADesk, OldSchema, Storage, NoMemory, BaseTooLarge}

module _ (Empty Kept Old : Type 0) (roster : List ℕ) (tells : Found) where
  pub told_desk : (desk : FoundDesk) → tells ≡ found.Desk desk
      → Tells Empty Kept Old roster tells → Kept × (¬ Empty) × (¬ Old) × (string_bytes desk.roster ≡ roster)
  told_desk desk is told = let P : Found → Type 0 = Tells Empty Kept Old roster in subst P is told

  -- and of a keeper with no part of a desk
  pub told_empty : tells ≡ found.Empty → Tells Empty Kept Old roster tells → Empty × (¬ Kept) × (¬ Old)
  told_empty is told = let P : Found → Type 0 = Tells Empty Kept Old roster in subst P is told

  -- and of a keeper with a desk of an older form
  pub told_old : tells ≡ found.OldDesk → Tells Empty Kept Old roster tells → Old × (¬ Empty) × (¬ Kept)
  told_old is told = let P : Found → Type 0 = Tells Empty Kept Old roster in subst P is told

  -- and of a keeper with something that is not a desk
  pub told_no_desk : tells ≡ found.NotADesk → Tells Empty Kept Old roster tells → (¬ Empty) × (¬ Kept) × (¬ Old)
  told_no_desk is told = let P : Found → Type 0 = Tells Empty Kept Old roster in subst P is told

-- a keeper that keeps the same still holds what the look told of
told_still : (S T : Message → Type 0) (tells : Found) (desk : FoundDesk) → tells ≡ found.Desk desk
    → SameSet S T → TellsKnown S tells → IfSome desk.known (IsKnownOf T)
told_still S T tells desk is same told = still desk.known (subst (TellsKnown S) is told)
  where
    still : (known : Option Known) → IfSome known (IsKnownOf S) → IfSome known (IsKnownOf T)
    still None told = tt
    still (Some known) told = (told.0, lists_still S T told.0 same told.1, told.2)

-- and as many
counted_still : (S T : Message → Type 0) (tells : Found) (desk : FoundDesk) → tells ≡ found.Desk desk
    → SameSet S T → TellsCount S tells → IfSome desk.count (IsCountOf T)
counted_still S T tells desk is same told = still desk.count (subst (TellsCount S) is told)
  where
    still : (count : Option ℕ) → IfSome count (IsCountOf S) → IfSome count (IsCountOf T)
    still None told = tt
    still (Some count) told = (told.0, lists_still S T told.0 same told.1, told.2)

-- so both are what the desk begins with
pub origin_still : (S T : Message → Type 0) (tells : Found) (desk : FoundDesk) (from : Origin) → tells ≡ found.Desk desk
    → from ≡ origin.Found desk.known desk.count → SameSet S T → TellsKnown S tells → TellsCount S tells → IsOriginOf T from
origin_still S T tells desk from is begins same known count = subst (IsOriginOf T) (sym begins)
    (told_still S T tells desk is same known, counted_still S T tells desk is same count)

-- why no desk is found or made is why none is opened over a base that fits
pub refused_over : (Fits Empty Kept Old : Type 0) (recorded said text : List ℕ) (e : Refusal) → Fits → said ≡ text → e ≢ BaseTooLarge
    → IsWant e ⊎ Refuses ⊤ Empty Kept Old recorded said e → IsWant e ⊎ Refuses Fits Empty Kept Old recorded text e
refused_over Fits Empty Kept Old recorded said text e fits same large (inl want) = inl want
refused_over Fits Empty Kept Old recorded said text BaseTooLarge fits same large (inr why) = absurd (large refl)
refused_over Fits Empty Kept Old recorded said text NotADesk fits same large (inr why) = inr (fits, why.1, why.2, why.3)
refused_over Fits Empty Kept Old recorded said text OldSchema fits same large (inr why) = inr (fits, why.1, why.2)
refused_over Fits Empty Kept Old recorded said text RosterChanged fits same large (inr why) = inr (fits, why.1, λ is. why.2 (is ∙ sym same))
refused_over Fits Empty Kept Old recorded said text UnknownRelay fits same large (inr none) = absurd none
refused_over Fits Empty Kept Old recorded said text UnknownHost fits same large (inr none) = absurd none
refused_over Fits Empty Kept Old recorded said text TooLong fits same large (inr none) = absurd none
refused_over Fits Empty Kept Old recorded said text NotCanonical fits same large (inr none) = absurd none
refused_over Fits Empty Kept Old recorded said text BadField fits same large (inr none) = absurd none
refused_over Fits Empty Kept Old recorded said text (Denied denial) fits same large (inr none) = absurd none
refused_over Fits Empty Kept Old recorded said text TooManyRules fits same large (inr none) = absurd none
refused_over Fits Empty Kept Old recorded said text Storage fits same large (inr none) = absurd none
refused_over Fits Empty Kept Old recorded said text NoMemory fits same large (inr none) = absurd none

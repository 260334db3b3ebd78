-- Sets that grow by the messages of a list, and what a cut of such a set keeps.
use Rattle.std.proofs.Common.{ℕ, List, [], ◌∷◌, ◌++◌, inl, inr, sym, subst}
use Rattle.std.specs.List.{Contains}
use Rattle.std.proofs.lemmas.List.Elements.{Contains-append_left, Contains-push, Contains-push_cases}
use Rattle.messages.specs.Names.{SameMessages}
use Rattle.messages.specs.declared.message.Message.{Message}
use Rattle.store_tables.specs.Sets.{IsNothing, IsWith, Lists, SameSet}
use Rattle.archive.specs.Archive.{IsArchive, IsCut}
use Rattle.archive.proofs.Cuts.{archive_of_same, cut_of_same}
use Rattle.outcomes.proofs.Membership.{no_member}
use Rattle.desk_cut.specs.CutOf.{IsArchiveOf, IsCutOf}
use Rattle.desk_cut.specs.Growing.{WithAll}

pub with_none : (S : Message → Type 0) → SameSet (WithAll S []) S
with_none S m = (λ h. elim h as (λ _. S m) [ inl there ↦ there | inr none ↦ absurd (no_member m none) ], λ there. inl there)

pub with_more : (S T U : Message → Type 0) (seen : List Message) (m : Message)
    → SameSet (WithAll S seen) T → IsWith T m U → SameSet (WithAll S (seen ++ m ∷ [])) U
with_more S T U seen m same more n = (to, back)
  where
    to : WithAll S (seen ++ m ∷ []) n → U n
    to (inl there) = (more n).0 (inl ((same n).0 (inl there)))
    to (inr h) =
        elim (Contains-push_cases seen m n h) as (λ _. U n) [
          | inl old ↦ (more n).0 (inl ((same n).0 (inr old)))
          | inr is ↦ (more n).0 (inr (sym is))
        ]

    back : U n → WithAll S (seen ++ m ∷ []) n
    back u =
        elim ((more n).1 u) as (λ _. WithAll S (seen ++ m ∷ []) n) [
          | inr is ↦ inr (subst (Contains (seen ++ m ∷ [])) (sym is) (Contains-push seen m))
          | inl before ↦ elim ((same n).1 before) as (λ _. WithAll S (seen ++ m ∷ []) n) [
            | inl there ↦ inl there
            | inr old ↦ inr (Contains-append_left seen (m ∷ []) n old)
          ]
        ]

-- what was empty, and then got the messages of the list
pub only_these : (S T : Message → Type 0) (list : List Message) → IsNothing S → SameSet (WithAll S list) T → Lists T list
only_these S T list nothing same m =
    (λ t. elim ((same m).1 t) as (λ _. Contains list m) [ inl there ↦ absurd (nothing m there) | inr among ↦ among ], λ among. (same m).0 (inr among))

-- a list of what is held has the messages of each other such list
pub same_listed : (S T : Message → Type 0) (s t : List Message) → SameSet S T → Lists S s → Lists T t → SameMessages t s
same_listed S T s t same one other m =
    (λ h. (one m).0 ((same m).1 ((other m).1 h)), λ h. (other m).0 ((same m).0 ((one m).1 h)))

pub is_cut_of : (S T : Message → Type 0) (moment : ℕ) (list kept : List Message) (U : Message → Type 0) → SameSet S T → Lists T list → IsCut list moment kept
    → Lists U kept → IsCutOf S moment U
is_cut_of S T moment list kept U same lists cut kept_lists set listed =
    (kept, cut_of_same list set kept moment (same_listed S T set list same listed lists) cut, kept_lists)

pub is_archive_of : (S T : Message → Type 0) (moment : ℕ) (list archived : List Message) → SameSet S T → Lists T list → IsArchive list moment archived
    → IsArchiveOf S moment archived
is_archive_of S T moment list archived same lists archive set listed =
    archive_of_same list set archived moment (same_listed S T set list same listed lists) archive

-- a list of what one set has is one of what the same set has
pub lists_same : (S T : Message → Type 0) (list : List Message) → SameSet S T → Lists T list → Lists S list
lists_same S T list same lists m = (λ h. (lists m).0 ((same m).0 h), λ among. (same m).1 ((lists m).1 among))

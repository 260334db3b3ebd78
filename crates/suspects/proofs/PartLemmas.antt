-- The messages about some of the names, as those about one name after another come.
use Rattle.std.proofs.Common.{List, [], ◌∷◌, ◌++◌, ◌∙◌, subst, inl, inr}
use Rattle.std.specs.List.{Contains}
use Rattle.std.proofs.lemmas.List.Elements.{Contains-append_left, Contains-append_right, Contains-append_cases, Contains-push_cases}
use Rattle.messages.specs.declared.request_name.RequestName.{RequestName}
use Rattle.messages.specs.declared.message.Message.{Message}
use Rattle.grants.specs.Verdicts.{IsDisputed}
use Rattle.outcomes.specs.About.{AreAbout}
use Rattle.outcomes.specs.Gathered.{AreGathered, Known}
use Rattle.outcomes.proofs.Membership.{no_member}
use Rattle.suspects.specs.private.Parts.{IsCovered, IsPartFor}

pub part_of_none : (set : List Message) (known : Known) → AreGathered [] known → IsPartFor set [] known
part_of_none set known are = record {
  part = [];
  gathered = are;
  own = λ m there. absurd (no_member m there);
  whole = λ m n there held same. absurd (no_member m there);
  covers = λ name there. absurd (no_member name there);
}

covered_still : (set part more : List Message) (name : RequestName) → IsCovered set part name → IsCovered set (part ++ more) name
covered_still set part more name (inl two) = inl two
covered_still set part more name (inr all) = inr (λ m held same. Contains-append_left part more m (all m held same))

module _ (set : List Message) (names : List RequestName) (name : RequestName) where
  -- all about one name more
  pub part_more : (old new : Known) (list : List Message) (is : IsPartFor set names old) → AreAbout set name list
      → AreGathered (is.part ++ list) new → IsPartFor set (names ++ name ∷ []) new
  part_more old new list is about are = record {
    part = is.part ++ list;
    gathered = are;
    own = λ m there. elim (Contains-append_cases is.part list m there) as (λ _. Contains set m) [
      | inl before ↦ is.own m before
      | inr added ↦ ((about m).0 added).0
    ];
    whole = λ m n there held same. elim (Contains-append_cases is.part list m there) as (λ _. Contains (is.part ++ list) n) [
      | inl before ↦ Contains-append_left is.part list n (is.whole m n before held same)
      | inr added ↦ Contains-append_right is.part list n ((about n).1 (held, same ∙ ((about m).0 added).1))
    ];
    covers = λ other there. elim (Contains-push_cases names name other there) as (λ _. IsCovered set (is.part ++ list) other) [
      | inl before ↦ covered_still set is.part list other (is.covers other before)
      | inr last ↦ subst (IsCovered set (is.part ++ list)) last
          (inr (λ m held same. Contains-append_right is.part list m ((about m).1 (held, same))))
    ];
  }

  -- a disputed name is left out
  pub part_disputed : (known : Known) → IsPartFor set names known → IsDisputed set name → IsPartFor set (names ++ name ∷ []) known
  part_disputed known is two = record {
    part = is.part;
    gathered = is.gathered;
    own = is.own;
    whole = is.whole;
    covers = λ other there. elim (Contains-push_cases names name other there) as (λ _. IsCovered set is.part other) [
      | inl before ↦ is.covers other before
      | inr last ↦ subst (IsCovered set is.part) last (inl two)
    ];
  }

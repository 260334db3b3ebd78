-- A summary stands for each set that has the same messages about its name.
use Rattle.std.proofs.Common.{◌≡◌, List, [], ◌∷◌, ◌++◌, refl, sym, ap, subst, inl, inr}
use Rattle.std.specs.List.{Contains}
use Rattle.std.proofs.lemmas.List.Elements.{Contains-append_left, Contains-push_cases}
use Rattle.messages.specs.Fields.{RequestFields}
use Rattle.messages.specs.Names.{IsNamed, name_meant, name_of, SameMessages, SameName}
use Rattle.messages.specs.declared.request_name.RequestName.{RequestName}
use Rattle.messages.specs.declared.message.Message.{Message}
use Rattle.messages.specs.declared.message.Message.TheVariants.{Request, Verdict}
use Rattle.messages.specs.declared.kind.VerdictKind.{VerdictKind}
use Rattle.messages.specs.declared.kind.VerdictKind.TheVariants.{Approve, Refuse, Revoke}
use Rattle.grants.specs.declared.marks.Mark.{Mark}
use Rattle.grants.specs.Marks.{Keep, verdict_of}
use Rattle.grants.specs.Summaries.{Kept, StandsFor}

-- the message asks, or is about what is asked, under the name
abbrev pub Mentions : Message → RequestName → Type 0
Mentions (Request q) name = name_of q ≡ name
Mentions (Verdict v) name = name_meant v ≡ name

abbrev pub Within : List Message → List Message → RequestName → Type 0
Within s t name = (m : Message) → Mentions m name → Contains s m → Contains t m

pub name_from_named : (q : RequestFields) (name : RequestName) → IsNamed q name → name_of q ≡ name
name_from_named q name named = rw (named.0, named.1) refl

pub named_from_name : (q : RequestFields) (name : RequestName) → name_of q ≡ name → IsNamed q name
named_from_name q name same = (ap (λ (n : RequestName). n.by) same, ap (λ (n : RequestName). n.no) same)

module _ (s t : List Message) (q : RequestFields) (to : Within s t (name_of q)) (back : Within t s (name_of q)) where
  keep_in : (kind : VerdictKind) (marks : List Mark) → Keep s q kind marks → Keep t q kind marks
  keep_in kind marks k = record {
    each = λ mark. (
      λ m. to (Verdict (verdict_of q kind mark)) refl ((k.each mark).0 m),
      λ given. (k.each mark).1 (back (Verdict (verdict_of q kind mark)) refl given),
    );
    once = k.once;
  }

same_as : (p : RequestFields) (k : Kept) → SameName p k.request → name_of p ≡ name_of k.request
same_as p k same = name_from_named p (name_of k.request) same

pub stands_in : (s t : List Message) (k : Kept) → Within s t (name_of k.request) → Within t s (name_of k.request) → StandsFor s k → StandsFor t k
stands_in s t k to back stands = record {
  asked = to (Request k.request) refl stands.asked;
  alone = λ single p asked same. stands.alone single p (back (Request p) (same_as p k same) asked) same;
  other = λ two.
      let found = stands.other two in
      (found.0, to (Request found.0) (same_as found.0 k found.2) found.1, found.2, found.3);
  approvals = keep_in s t k.request to back Approve k.approvals stands.approvals;
  refusals = keep_in s t k.request to back Refuse k.refusals stands.refusals;
  revocations = keep_in s t k.request to back Revoke k.revocations stands.revocations;
}

pub stands_same : (s t : List Message) (k : Kept) → SameMessages s t → StandsFor s k → StandsFor t k
stands_same s t k same = stands_in s t k (λ m _. (same m).0) (λ m _. (same m).1)

-- a message about another name changes nothing
pub stands_still : (set : List Message) (m : Message) (k : Kept) → (Mentions m (name_of k.request) → ⊥) → StandsFor set k → StandsFor (set ++ m ∷ []) k
stands_still set m k other =
    stands_in set (set ++ m ∷ []) k (λ n _. Contains-append_left set (m ∷ []) n)
    (λ n named h. elim (Contains-push_cases set m n h) as (λ _. Contains set n) [
      | inl old ↦ old
      | inr new ↦ absurd (other (subst (λ (x : Message). Mentions x (name_of k.request)) (sym new) named))
    ])

-- The member `kind` tells requests and the kinds of verdicts apart.
use Rattle.std.proofs.Common.{◌≡◌, ℕ, ◌∙◌, List, true, false, Some, bytes_eq, true≢false, refl, sym, ap}
use Rattle.std.specs.Prelude.{codes}
use Rattle.std.proofs.lemmas.Slice.Eq.{bytes_eq-Decides}
use Rattle.json.specs.Json.{Json, string}
use Rattle.json.specs.Find.{get}
use Rattle.messages.specs.Fields.{RequestFields, VerdictFields, IsRequest, IsVerdict}
use Rattle.messages.specs.private.Members.{request_tree, verdict_tree, tree_of}
use Rattle.messages.specs.Wire.{kind_text, IsMessage}
use Rattle.messages.specs.declared.kind.VerdictKind.{VerdictKind}
use Rattle.messages.specs.declared.kind.VerdictKind.TheVariants.{Approve, Refuse, Revoke}
use Rattle.messages.specs.declared.message.Message.{Message}
use Rattle.messages.specs.declared.message.Message.TheVariants.{Request, Verdict}

abbrev pub kind_of : Message → List ℕ
kind_of (Request r) = codes "request"
kind_of (Verdict v) = kind_text v.kind

pub kind_found : (m : Message) (j : Json) → j ≡ tree_of m → get (codes "kind") j ≡ Some (string (kind_of m))
kind_found (Request r) j e = ap (get (codes "kind")) e
kind_found (Verdict v) j e = ap (get (codes "kind")) e

pub record IsAsked (m : Message) : Type 0 where
  pub fields : RequestFields
  pub valid : IsRequest fields
  pub message : m ≡ Request fields
  pub tree : tree_of m ≡ request_tree fields

pub record IsAnswered (m : Message) : Type 0 where
  pub fields : VerdictFields
  pub valid : IsVerdict fields
  pub message : m ≡ Verdict fields
  pub tree : tree_of m ≡ verdict_tree fields
  pub kind : kind_of m ≡ kind_text fields.kind

-- ---- names of kinds

-- two literals that differ are not the same name
unlike : (a b : List ℕ) → bytes_eq a b ≡ false → a ≡ b → ⊥
unlike a b e same = true≢false (sym ((bytes_eq-Decides a b).1 same) ∙ e)

pub one_kind : (j k : VerdictKind) → kind_text j ≡ kind_text k → j ≡ k
one_kind Approve Approve e = refl
one_kind Approve Refuse e = absurd (unlike (codes "approve") (codes "refuse") refl e)
one_kind Approve Revoke e = absurd (unlike (codes "approve") (codes "revoke") refl e)
one_kind Refuse Approve e = absurd (unlike (codes "refuse") (codes "approve") refl e)
one_kind Refuse Refuse e = refl
one_kind Refuse Revoke e = absurd (unlike (codes "refuse") (codes "revoke") refl e)
one_kind Revoke Approve e = absurd (unlike (codes "revoke") (codes "approve") refl e)
one_kind Revoke Refuse e = absurd (unlike (codes "revoke") (codes "refuse") refl e)
one_kind Revoke Revoke e = refl

-- no kind of verdict has the name of requests
not_asked : (k : VerdictKind) → kind_text k ≡ codes "request" → ⊥
not_asked Approve e = unlike (codes "approve") (codes "request") refl e
not_asked Refuse e = unlike (codes "refuse") (codes "request") refl e
not_asked Revoke e = unlike (codes "revoke") (codes "request") refl e

-- the name that a comparison found
pub same_name : (name w : List ℕ) (k : VerdictKind) → name ≡ kind_text k → bytes_eq name w ≡ true → kind_text k ≡ w
same_name name w k n e = sym n ∙ (bytes_eq-Decides name w).0 e

-- ---- messages by their kind

pub asked_from : (m : Message) (kind : List ℕ) → IsMessage m → kind ≡ kind_of m → bytes_eq kind (codes "request") ≡ true → IsAsked m
asked_from (Request r) kind h k e = record { fields = r; valid = h; message = refl; tree = refl }
asked_from (Verdict v) kind h k e = absurd (not_asked v.kind (same_name kind (codes "request") v.kind k e))

pub answered_from : (m : Message) (kind : List ℕ) → IsMessage m → kind ≡ kind_of m → bytes_eq kind (codes "request") ≡ false → IsAnswered m
answered_from (Request r) kind h k e = absurd (unlike kind (codes "request") e k)
answered_from (Verdict v) kind h k e = record { fields = v; valid = h; message = refl; tree = refl; kind = refl }

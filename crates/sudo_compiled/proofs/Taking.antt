-- Entries that are taken from the end of a reversed list.
use Rattle.std.proofs.Common.{◌≡◌, List, [], ◌∷◌, ◌++◌, reverse, refl, sym, ap, ◌∙◌, subst, append_assoc, inr}
use Rattle.std.proofs.lemmas.List.{append-nil, reverse-append}
use Rattle.std.specs.List.{AllByRecursion}
use Rattle.sudo_policy.specs.declared.entry.Entry.{Entry}
use Rattle.sudo_decide.specs.declared.invocation.Invocation.{Invocation}
use Rattle.sudo_decide.specs.Decision.{DecidesBy}
use Rattle.sudo_compiled.specs.declared.plain.PlainRule.{PlainRule}
use Rattle.sudo_compiled.specs.Compiled.{answer}

-- what was taken from all entries, and what it decides
pub record Taken (defined all rest : List Entry) (rules : List PlainRule) (i : Invocation) : Type 0 where
  pub before : List Entry
  pub all_are : before ++ reverse rest ≡ all
  pub decided : DecidesBy defined before i (answer rules i)

pub none_taken : (defined rest : List Entry) (i : Invocation) → Taken defined (reverse rest) rest [] i
none_taken defined rest i = record { before = []; all_are = refl; decided = inr (record { silent = tt; decision = refl }) }

pub one_taken : (defined all old new : List Entry) (entry : Entry) (rules more : List PlainRule) (i : Invocation) → old ≡ new ++ entry ∷ []
    → ((es : List Entry) → DecidesBy defined es i (answer rules i) → DecidesBy defined (es ++ entry ∷ []) i (answer more i))
    → Taken defined all old rules i → Taken defined all new more i
one_taken defined all old new entry rules more i is push t = record {
  before = t.before ++ entry ∷ [];
  all_are =
      append_assoc t.before (entry ∷ []) (reverse new)
      ∙ ap (λ (es : List Entry). t.before ++ es) (sym (reverse-append new (entry ∷ [])) ∙ ap reverse (sym is))
      ∙ t.all_are;
  decided = push t.before t.decided;
}

pub all_taken : (defined all : List Entry) (rules : List PlainRule) (i : Invocation) → Taken defined all [] rules i → DecidesBy defined all i (answer rules i)
all_taken defined all rules i t =
    subst (λ (es : List Entry). DecidesBy defined es i (answer rules i)) (sym (append-nil t.before) ∙ t.all_are) t.decided

all_after : {X : Type 0} (P : X → Type 0) (before : List X) (x : X) (after : List X) → AllByRecursion P (before ++ x ∷ after) → P x
all_after P [] x after all = all.0
all_after P (y ∷ before) x after all = all_after P before x after all.1

-- what holds for all entries holds for one that is taken
pub taken_each : (P : Entry → Type 0) (defined all old new : List Entry) (entry : Entry) (rules : List PlainRule) (i : Invocation) → old ≡ new ++ entry ∷ []
    → Taken defined all old rules i → AllByRecursion P all → P entry
taken_each P defined all old new entry rules i is t each =
    let split = ap (λ (es : List Entry). t.before ++ es) (sym (reverse-append new (entry ∷ [])) ∙ ap reverse (sym is)) ∙ t.all_are in
    all_after P t.before entry (reverse new) (subst (AllByRecursion P) (sym split) each)

-- What compiled policies answer is what the policies decide.
use Rattle.std.proofs.Common.{◌≡◌, ℕ, List, [], ◌∷◌, map, reverse, refl, sym, ◌∙◌, subst, inl, inr}
use Rattle.std.specs.List.{AllByRecursion, flat_map}
use Rattle.sudo_policy.specs.declared.entry.Entry.{Entry}
use Rattle.sudo_decide.specs.declared.decision.Decision.{Decision}
use Rattle.sudo_decide.specs.declared.decision.Decision.TheVariants.{Deny, Allow, AllowNoPassword}
use Rattle.sudo_decide.specs.declared.invocation.Invocation.{Invocation}
use Rattle.sudo_decide.specs.Decision.{Decides}
use Rattle.sudo_decide.proofs.Speakers.{one_decision}
use Rattle.sudo_compiled.specs.declared.plain.PlainRule.{PlainRule}
use Rattle.sudo_compiled.specs.Compiled.{AnswerAlikeFor, SameNames, answer}
use Rattle.sudo_beyond.specs.declared.cases.Cases.{Cases}
use Rattle.sudo_beyond.specs.declared.run.Run.{Run}
use Rattle.sudo_beyond.specs.Cases.{invocation_of, of_run}
use Rattle.sudo_beyond.proofs.AlikeLemmas.{all_append}
use Rattle.sudo_beyond.specs.Beyond.{Allows, IsGap}
use Rattle.sudo_beyond.specs.private.Compared.{IsAllowed, IsAnsweredGap}

abbrev Compiles : List Entry → List PlainRule → Type 0
Compiles es rules = (i : Invocation) → Decides es i (answer rules i)

allowed_decides : (es : List Entry) (d : Decision) (i : Invocation) → Decides es i d → IsAllowed d → Allows es i
allowed_decides es d i decided (inl same) = inl (subst (λ (x : Decision). Decides es i x) same decided)
allowed_decides es d i decided (inr same) = inr (subst (λ (x : Decision). Decides es i x) same decided)

decides_allowed : (es : List Entry) (d : Decision) (i : Invocation) → Decides es i d → Allows es i → IsAllowed d
decides_allowed es d i decided (inl allow) = inl (one_decision (reverse es) es i d Allow decided allow)
decides_allowed es d i decided (inr allow) = inr (one_decision (reverse es) es i d AllowNoPassword decided allow)

pub gap_from_answers : (a b : List Entry) (x y : List PlainRule) → Compiles a x → Compiles b y → (i : Invocation) → IsAnsweredGap x y i → IsGap a b i
gap_from_answers a b x y by_a by_b i gap = record {
  allowed = allowed_decides a (answer x i) i (by_a i) gap.allowed;
  refused = subst (λ (d : Decision). Decides b i d) gap.refused (by_b i);
}

pub gap_to_answers : (a b : List Entry) (x y : List PlainRule) → Compiles a x → Compiles b y → (i : Invocation) → IsGap a b i → IsAnsweredGap x y i
gap_to_answers a b x y by_a by_b i gap = record {
  allowed = decides_allowed a (answer x i) i (by_a i) gap.allowed;
  refused = one_decision (reverse b) b i (answer y i) Deny (by_b i) gap.refused;
}

allow_is_no_deny : Allow ≡ Deny → ⊥
allow_is_no_deny same = cc

no_password_is_no_deny : AllowNoPassword ≡ Deny → ⊥
no_password_is_no_deny same = cc

pub not_both_answers : (d : Decision) → IsAllowed d → d ≡ Deny → ⊥
not_both_answers d (inl allow) deny = allow_is_no_deny (sym allow ∙ deny)
not_both_answers d (inr allow) deny = no_password_is_no_deny (sym allow ∙ deny)

-- ---- rules that answer alike, for the cases of one user, host and target

pub gap_of_those : (a b x y : List PlainRule) (i j : Invocation) → AnswerAlikeFor a x i
    → AnswerAlikeFor b y i → SameNames i j → IsAnsweredGap x y j → IsAnsweredGap a b j
gap_of_those a b x y i j by_a by_b same gap = record {
  allowed = subst (λ (d : Decision). IsAllowed d) (sym (by_a j same)) gap.allowed;
  refused = by_b j same ∙ gap.refused;
}

pub gap_of_all : (a b x y : List PlainRule) (i j : Invocation) → AnswerAlikeFor a x i
    → AnswerAlikeFor b y i → SameNames i j → IsAnsweredGap a b j → IsAnsweredGap x y j
gap_of_all a b x y i j by_a by_b same gap = record {
  allowed = subst (λ (d : Decision). IsAllowed d) (by_a j same) gap.allowed;
  refused = sym (by_b j same) ∙ gap.refused;
}

same_names_run : (i : Invocation) (run : Run) (moments : List ℕ) → AllByRecursion (SameNames i) (map (invocation_of i.user i.host i.runas run) moments)
same_names_run i run [] = tt
same_names_run i run (t ∷ moments) = (record { user = refl; host = refl; runas = refl }, same_names_run i run moments)

pub same_names_runs : (i : Invocation) (c : Cases) (runs : List Run) → AllByRecursion (SameNames i) (flat_map (of_run c i.user i.host i.runas) runs)
same_names_runs i c [] = tt
same_names_runs i c (run ∷ runs) =
    all_append (SameNames i) (of_run c i.user i.host i.runas run)
    (flat_map (of_run c i.user i.host i.runas) runs) (same_names_run i run c.moments) (same_names_runs i c runs)

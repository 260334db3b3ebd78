-- Laws of what lies beyond, for two policies and for three.
use Rattle.std.proofs.Common.{◌≡◌, ℕ, ◌*◌, List, [], ◌∷◌, length, reverse, sym, ◌∙◌, subst, inl, inr, length-append, arith}
use Rattle.std.specs.List.{flat_map}
use Rattle.std.proofs.Math.Nat.{mul_assoc, suc-mul}
use Rattle.std.proofs.lemmas.List.{length-map}
use Rattle.sudo_policy.specs.declared.entry.Entry.{Entry}
use Rattle.sudo_decide.specs.declared.decision.Decision.{Decision}
use Rattle.sudo_decide.specs.declared.decision.Decision.TheVariants.{Deny, Allow, AllowNoPassword}
use Rattle.sudo_decide.specs.declared.invocation.Invocation.{Invocation}
use Rattle.sudo_decide.specs.Decision.{Decides}
use Rattle.sudo_decide.proofs.Speakers.{one_decision, some_decision}
use Rattle.sudo_beyond.specs.declared.cases.Cases.{Cases}
use Rattle.sudo_decide.specs.declared.scope.Scope.{Scope}
use Rattle.sudo_beyond.specs.Beyond.{IsInScope, LiesBeyond, SomethingBeyond}
use Rattle.sudo_beyond.specs.Cases.{product, invocation_of, of_run, of_target, of_host, of_user, invocations}
use Rattle.sudo_beyond.proofs.DecisionLemmas.{not_both}

-- ---- how many

length_flat : {X Y : Type 0} (f : X → List Y) (n : ℕ) (xs : List X) → ((x : X) → length (f x) ≡ n) → length (flat_map f xs) ≡ length xs * n
length_flat f n [] each = omega arith
length_flat f n (x ∷ xs) each = omega (arith, length-append (f x) (flat_map f xs), each x, length_flat f n xs each, suc-mul (length xs) n)

pub as_many : (c : Cases) → length (invocations c) ≡ product c
as_many c =
    let users : ℕ = length c.users in
    let hosts : ℕ = length c.hosts in
    let targets : ℕ = length c.targets in
    let runs : ℕ = length c.runs in
    let moments : ℕ = length c.moments in
    length_flat (of_user c) (hosts * (targets * (runs * moments))) c.users
    (λ user. length_flat (of_host c user) (targets * (runs * moments)) c.hosts
    (λ host. length_flat (of_target c user host) (runs * moments) c.targets
    (λ target. length_flat (of_run c user host target) moments c.runs
    (λ run. length-map c.moments (invocation_of user host target run)))))
    ∙ sym (mul_assoc users hosts (targets * (runs * moments)))
    ∙ sym (mul_assoc (users * hosts) targets (runs * moments))
    ∙ sym (mul_assoc (users * hosts * targets) runs moments)

-- ---- itself, and a third

pub not_beyond_itself : (s : Scope) (a : List Entry) → SomethingBeyond s a a → ⊥
not_beyond_itself s a beyond = not_both a beyond.0 beyond.1.gap.allowed beyond.1.gap.refused

-- where b allows it, it lies beyond c; where b does not, a's allowing it lies beyond b
third : (s : Scope) (a b c : List Entry) (i : Invocation) (d : Decision) → LiesBeyond s a c i
    → Decides b i d → (SomethingBeyond s a b → ⊥) → (SomethingBeyond s b c → ⊥) → ⊥
third s a b c i Deny beyond by not_first not_second =
    not_first (i, record { form = beyond.form; scope = beyond.scope; gap = record { allowed = beyond.gap.allowed; refused = by } })
third s a b c i Allow beyond by not_first not_second =
    not_second (i, record { form = beyond.form; scope = beyond.scope; gap = record { allowed = inl by; refused = beyond.gap.refused } })
third s a b c i AllowNoPassword beyond by not_first not_second =
    not_second (i, record { form = beyond.form; scope = beyond.scope; gap = record { allowed = inr by; refused = beyond.gap.refused } })

pub not_beyond_a_third : (s : Scope) (a b c : List Entry) → (SomethingBeyond s a b → ⊥) → (SomethingBeyond s b c → ⊥) → SomethingBeyond s a c → ⊥
not_beyond_a_third s a b c not_first not_second beyond =
    let by = some_decision (reverse b) b beyond.0 in third s a b c beyond.0 by.0 beyond.1 by.1 not_first not_second

pub wider : (s t : Scope) (a b : List Entry) → ((i : Invocation) → IsInScope s i → IsInScope t i) → SomethingBeyond s a b → SomethingBeyond t a b
wider s t a b also beyond =
    (beyond.0, record { form = beyond.1.form; scope = also beyond.0 beyond.1.scope; gap = beyond.1.gap })

-- ---- how both policies decide it

pub first_allows : (s : Scope) (a b : List Entry) (i : Invocation) (d : Decision) → LiesBeyond s a b i → Decides a i d → d ≡ Deny → ⊥
first_allows s a b i d beyond by denies = not_both a i beyond.gap.allowed (subst (λ (e : Decision). Decides a i e) denies by)

pub second_denies : (s : Scope) (a b : List Entry) (i : Invocation) (d : Decision) → LiesBeyond s a b i → Decides b i d → d ≡ Deny
second_denies s a b i d beyond by = one_decision (reverse b) b i d Deny by beyond.gap.refused

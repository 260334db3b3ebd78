-- Two rules that speak, with only silent entries after each, are at the same place.
use Rattle.std.proofs.Common.{◌≡◌, Bool, Some, None, List, [], ◌∷◌, ◌++◌, refl, sym, ap, ◌∙◌, subst}
use Rattle.sudo_policy.specs.declared.entry.Rule.{Rule}
use Rattle.sudo_policy.specs.declared.entry.Entry.{Entry}
use Rattle.sudo_policy.specs.declared.entry.Entry.TheVariants as entries
use Rattle.sudo_decide.specs.declared.decision.Decision.{Decision}
use Rattle.sudo_decide.specs.declared.invocation.Invocation.{Invocation}
use Rattle.sudo_decide.specs.Decision.{says, entry_says, AllSilent, DecidesByRule, DecidesBySilence}

silent_at : (defined : List Entry) (i : Invocation) (before after : List Entry) (e : Entry)
    → AllSilent defined (before ++ e ∷ after) i → entry_says defined e i ≡ None
silent_at defined i [] after e quiet = quiet.0
silent_at defined i (f ∷ before) after e quiet = silent_at defined i before after e quiet.1

not_silent : (defined : List Entry) (i : Invocation) (es before after : List Entry) (r : Rule) (answer : Bool)
    → es ≡ before ++ entries.Rule r ∷ after → AllSilent defined es i → says defined r i ≡ Some answer → ⊥
not_silent defined i es before after r answer are quiet speaks =
    let silent : says defined r i ≡ None = silent_at defined i before after (entries.Rule r) (subst (λ (x : List Entry). AllSilent defined x i) are quiet) in
    let both : None ≡ Some answer = sym silent ∙ speaks in
    cc

abbrev SamePlace : List Entry → Rule → List Entry → List Entry → Rule → List Entry → Type 0
SamePlace b r a c s d = (b ≡ c) × (r ≡ s) × (a ≡ d)

one_place : (defined : List Entry) (i : Invocation) (b a c d : List Entry) (r s : Rule) (x y : Bool)
    → b ++ entries.Rule r ∷ a ≡ c ++ entries.Rule s ∷ d → says defined r i ≡ Some x → says defined s i ≡ Some y
    → AllSilent defined a i → AllSilent defined d i → SamePlace b r a c s d
one_place defined i [] a [] d r s x y same p q quiet still = (refl, cc, cc)
one_place defined i [] a (f ∷ c) d r s x y same p q quiet still =
    let behind : a ≡ c ++ entries.Rule s ∷ d = cc in
    absurd (not_silent defined i a c d s y behind quiet q)
one_place defined i (e ∷ b) a [] d r s x y same p q quiet still =
    let behind : d ≡ b ++ entries.Rule r ∷ a = cc in
    absurd (not_silent defined i d b a r x behind still p)
one_place defined i (e ∷ b) a (f ∷ c) d r s x y same p q quiet still =
    let head : e ≡ f = cc in
    let tail : b ++ entries.Rule r ∷ a ≡ c ++ entries.Rule s ∷ d = cc in
    let rest = one_place defined i b a c d r s x y tail p q quiet still in
    (ap (λ (h : Entry). h ∷ b) head ∙ ap (λ (t : List Entry). f ∷ t) rest.0, rest.1, rest.2)

pub one_rule : (defined es : List Entry) (i : Invocation) (c d : Decision) (x : DecidesByRule defined es i c) (y : DecidesByRule defined es i d)
    → (x.before ≡ y.before) × (x.rule ≡ y.rule) × (x.after ≡ y.after)
one_rule defined es i c d x y =
    one_place defined i x.before x.after y.before y.after x.rule y.rule x.answer y.answer
    (sym x.entries_are ∙ y.entries_are) x.speaks y.speaks x.silent y.silent

pub no_silence : (defined es : List Entry) (i : Invocation) (c d : Decision) → DecidesByRule defined es i c → DecidesBySilence defined es i d → ⊥
no_silence defined es i c d x y = not_silent defined i es x.before x.after x.rule x.answer x.entries_are y.silent x.speaks
